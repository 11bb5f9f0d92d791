use Rattle.std.proofs.Common.{rules}
use Rattle.abnfread.proofs.NumeralLemmas.{goes-over}
use Rattle.abnfread.proofs.number.number_in.Goals as goal

pub returns-then-number-from : goal.returns-then-number-from
returns-then-number-from c = goes-over c.args.base c.args.limit c.loop-first.number c.in-Some.first.now
    c.loop-first.rest.now c.in-Some.tail.now c.args.digits.now c.requires.least c.in-Some.ensures.cases.0
    c.loop-first.invariant.same (search rules)
