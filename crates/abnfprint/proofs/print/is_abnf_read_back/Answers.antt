use Rattle.abnfprint.proofs.AbnfReadBackLemmas.{read-back, spans-unseen, prints-itself, reads-formed}
use Rattle.abnfprint.proofs.print.is_abnf_read_back.Goals as goal

pub returns : goal.returns
returns c = record { read_back = read-back; spans = spans-unseen; itself = prints-itself; formed = reads-formed }
