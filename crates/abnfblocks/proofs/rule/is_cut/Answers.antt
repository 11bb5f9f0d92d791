use Rattle.std.proofs.Common.{◌≡◌, ◌∙◌, List, ap, arith, drop, map, sym}
use Rattle.abnfblocks.specs.RuleCuts.{can_end, ends_cut}
use Rattle.abnfblocks.specs.TextLines.{NumberedLine, numbered}
use Rattle.abnfblocks.proofs.RuleCutLemmas.{blank-ends, first-ends, full-ends, rest-rows}
use Rattle.abnfblocks.proofs.rule.is_cut.Goals as goal
use Rattle.abnfblocks.proofs.rule.is_cut.Goals.{else-size-gt1-via-then-size-gt1+else-is_blank}
use Rattle.abnfblocks.proofs.rule.is_cut.Goals.{else-size-gt1-via-else-size-gt1}

pub returns-then-is_blank : goal.returns-then-is_blank
returns-then-is_blank c = blank-ends c.args.rule.now c.args.size _ c.if-size-gt1.true c.requires.within
    (sym c.is_blank.ensures ∙ c.if-is_blank.true)

pub returns : goal.returns
returns c =
    let rows = map numbered c.args.rule.now in
    let ends : ends_cut rows c.args.size ≡ can_end (drop c.args.size rows) = elim c.else-size-gt1.branch [
      | else-size-gt1-via-then-size-gt1+else-is_blank w ↦ full-ends c.args.rule.now c.args.size _ w.if-size-gt1.true
          c.requires.within (sym w.is_blank.ensures ∙ w.if-is_blank.false)
      | else-size-gt1-via-else-size-gt1 w ↦ first-ends c.args.rule.now c.args.size c.requires.some
          (omega (arith, w.if-size-gt1.false)) c.requires.within
    ] in
    c.can_end.ensures ∙ ap (λ (xs : List NumberedLine). can_end xs) (rest-rows c.args.rule.now c.args.size) ∙ sym ends
