use Rattle.diagnostics.proofs.TakenPartLemmas.{cut-pushed}
use Rattle.diagnostics.proofs.picture.shown.push_cut.Goals as goal

pub returns : goal.returns
returns c = cut-pushed _ _ _ _ _ c.min-end.ensures c.in_ok-push_shown.ensures c.in_ok-push_dots.ensures
