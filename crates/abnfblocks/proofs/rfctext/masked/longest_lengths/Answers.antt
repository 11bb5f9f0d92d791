use Rattle.std.proofs.Common.{ℕ, arith, ap, max, ◌∙◌}
use Rattle.abnfblocks.proofs.MaskedLinesLemmas.{longest-step}
use Rattle.abnfblocks.proofs.rfctext.masked.longest_lengths.Goals as goal

pub loop-first-preserved : goal.loop-first-preserved
loop-first-preserved c =
    let step = longest-step c.args.mark c.args.lines.now c.loop-first.first _ c.loop-first.longest c.larger-more.result
    c.loop-first.lengths.items _ c.loop-first-test.true c.loop-first.invariant.within c.loop-first.invariant.longest
    (c.larger-more.ensures ∙ ap (λ (k : ℕ). max c.loop-first.longest k) c.closing_length.ensures)
    c.loop-first.invariant.each c.in_ok-push-2.ensures.items in
    record { within = omega (arith, c.loop-first.invariant.within); longest = step.0; each = step.1 }
