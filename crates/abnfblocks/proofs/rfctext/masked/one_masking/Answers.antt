use Rattle.abnfblocks.proofs.MaskedLinesLemmas.{one-read}
use Rattle.abnfblocks.proofs.rfctext.masked.one_masking.Goals as goal

pub returns : goal.returns
returns c = λ text a b h k. one-read h k
