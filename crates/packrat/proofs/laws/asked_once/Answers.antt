use Rattle.packrat.proofs.OffsetLemmas.{asked_by_one}
use Rattle.packrat.proofs.laws.asked_once.Goals as goal

pub returns : goal.returns
returns c = λ rules start nodes bodies ranks x sound n d m q o v.
    asked_by_one rules start nodes bodies ranks x sound v n d o
