use Rattle.gramcheck.proofs.PrintMarksLemmas.{gives_no_events}
use Rattle.gramcheck.proofs.laws.silent_leaves_no_event.Goals as goal

pub returns : goal.returns
returns c = λ rules x e p q k events quiet gives. gives_no_events rules x gives quiet
