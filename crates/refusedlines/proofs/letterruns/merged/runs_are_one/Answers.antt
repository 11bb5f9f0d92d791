use Rattle.refusedlines.proofs.LetterRunLemmas.{apart_one}
use Rattle.refusedlines.proofs.letterruns.merged.runs_are_one.Goals as goal

pub returns : goal.returns
returns c runs others a b same = apart_one 0 runs others a b same
