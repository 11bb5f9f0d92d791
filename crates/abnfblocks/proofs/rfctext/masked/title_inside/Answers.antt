use Rattle.std.proofs.Common.{arith, not, sym, ◌∙◌, ap}
use Rattle.abnfblocks.specs.Fences.{is_title_fence}
use Rattle.abnfblocks.proofs.RuleCutLemmas.{one-passes, one-fails}
use Rattle.abnfblocks.proofs.rfctext.masked.title_inside.Goals as goal

pub loop-count-preserved : goal.loop-count-preserved
loop-count-preserved c =
    let more = one-passes (λ line. not (is_title_fence line.bytes)) c.args.lines.now c.loop-count.count _
    c.loop-count-test.true (ap not (sym c.is_title_fence.ensures ∙ c.if-not-is_title_fence.true)) in
    record { within = omega arith; same = omega (arith, more, c.loop-count.invariant.same) }

pub returns-else-not-is_title_fence-clause-count : goal.returns-else-not-is_title_fence-clause-count
returns-else-not-is_title_fence-clause-count c =
    let none = one-fails (λ line. not (is_title_fence line.bytes)) c.args.lines.now c.loop-count.count _
    c.loop-count-test.true (ap not (sym c.is_title_fence.ensures ∙ c.if-not-is_title_fence.false)) in
    omega (arith, none, c.loop-count.invariant.same)
