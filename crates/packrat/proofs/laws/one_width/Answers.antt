use Rattle.packrat.proofs.WidthLemmas.{takes_width}
use Rattle.packrat.proofs.laws.one_width.Goals as goal

pub returns : goal.returns
returns c = λ rules start nodes bodies ranks x sound. takes_width rules start nodes bodies ranks x sound
