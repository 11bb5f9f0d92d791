-- The bound is above each length so far.
use Rattle.std.proofs.Common.{◌∙◌, ◌+◌, ◌≤◌, List, Vec, Global, arith, length, subst, ℕ}
use Rattle.std.proofs.lemmas.List.{take_all}
use Rattle.std.specs.List.{All}
use Rattle.abnfg.proofs.RefusalsFromLemmas.{IsBelow, above_more}
use Rattle.abnfg.proofs.refusals.above_lengths.Goals as goal

pub loop-line-preserved : goal.loop-line-preserved
loop-line-preserved c =
    let item = c.line-item.result in
    let m = c.max-above.ensures in
    let size = c.len.ensures ∙ item.ok.0 in
    let fits : length item.items + 1 ≤ c.max-above.result = omega (arith, m, size) in
    above_more c.args.lines.now c.loop-line.line-index item c.loop-line.above c.max-above.result c.loop-line-test.true
    c.loop-line.invariant (omega (arith, m))
    (subst (λ (v : Vec ℕ Global). IsBelow c.max-above.result v) c.line-item.is fits)

pub returns : goal.returns
returns c =
    subst (λ (v : List (Vec ℕ Global)). All (IsBelow c.loop-line.above) v)
    (take_all c.loop-line.line-index c.args.lines.now c.loop-line-test.false) c.loop-line.invariant
