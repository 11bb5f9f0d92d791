use Rattle.std.proofs.Common.{arith}
use Rattle.rulelines.proofs.FirstKeyLemmas.{some_reported}
use Rattle.rulelines.proofs.list.table.entry_of.Goals as goal

pub returns : goal.returns
returns c = λ s is.
    some_reported c.args.table.now c.in-Some.rest c.args.count s c.in_ok-found.found c.is_some.result
    (let e = c.in-Some.ensures in let lt = e.0 in let is = e.1 in omega (arith, lt, is))
    (c.in_ok-found.ensures s is) c.is_some.ensures
