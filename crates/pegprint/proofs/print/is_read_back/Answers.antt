use Rattle.pegprint.proofs.ReadsFormedLemmas.{reads-formed}
use Rattle.pegprint.proofs.ReadBackLemmas.{read-back, prints-itself}
use Rattle.pegprint.proofs.SameWordsLemmas.{spans-unseen}
use Rattle.pegprint.proofs.print.is_read_back.Goals as goal

pub returns : goal.returns
returns c = record { read_back = read-back; spans = spans-unseen; itself = prints-itself; formed = reads-formed }
