use Rattle.abnfcheck.proofs.BeginsMemberLemmas.{furthest_found, one_furthest}
use Rattle.abnfcheck.proofs.decided_law.furthest_is_found.Goals as goal

pub returns-clause-found : goal.returns-clause-found
returns-clause-found c = λ has rules id x. furthest_found has rules id x

pub returns-clause-one : goal.returns-clause-one
returns-clause-one c = λ has rules id x a b. one_furthest has rules id x a b
