-- The alternative is there, or it is not.
use Rattle.std.proofs.Common.{arith}
use Rattle.abnfread.proofs.ElementLemmas.{element-Alt}
use Rattle.abnfg.proofs.GoalTextLemmas.{alternative_there, no_alternative}
use Rattle.abnfg.proofs.goal_texts.alternative.Goals as goal

pub returns-then-i-len : goal.returns-then-i-len
returns-then-i-len c =
    let n = c.len.ensures in
    let lt = c.if-i-len.true in
    rw (c.in-Alt.is, element-Alt)
    (alternative_there c.in-Alt.alternatives.items c.args.i c.index.result.now (omega (arith, n, lt)) c.index.ensures)

pub returns-else-i-len : goal.returns-else-i-len
returns-else-i-len c =
    let n = c.len.ensures in
    let le = c.if-i-len.false in
    rw (c.in-Alt.is, element-Alt)
    (no_alternative c.in-Alt.alternatives.items c.args.i (omega (arith, n, le)))
