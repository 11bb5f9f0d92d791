use Rattle.packrat.proofs.OneViewLemmas.{one_view_of}
use Rattle.packrat.proofs.laws.one_view.Goals as goal

pub returns : goal.returns
returns c = λ rules start nodes bodies ranks x more sound. one_view_of rules start nodes bodies ranks x more sound
