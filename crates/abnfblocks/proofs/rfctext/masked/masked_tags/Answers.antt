use Rattle.std.proofs.Common.{◌≤◌, ◌+◌, ◌∙◌, List, [], true, arith, length, map, rules, subst, sym}
use Rattle.std.proofs.lemmas.Grind.{common_steps}
use Rattle.abnfblocks.specs.MaskedLines.{MasksBlocks}
use Rattle.abnfblocks.specs.OpenTags.{tag_size}
use Rattle.abnfblocks.specs.TextLines.{NumberedLine, numbered}
use Rattle.abnfblocks.proofs.MaskedLinesLemmas.{blocks-all, count-there, tag-more}
use Rattle.abnfblocks.proofs.OpenTagLemmas.{tag-there}
use Rattle.abnfblocks.proofs.rfctext.masked.masked_tags.Goals as goal

pub slice_bounds-push_lines-end : goal.slice_bounds-push_lines-end
slice_bounds-push_lines-end c =
    let there = tag-there c.args.lines.now c.loop-first.first c.number_or_zero.result c.deref.result.now
    c.loop-first-test.true (c.deref.ensures.value ∙ c.in_ok-sizes.ensures) c.number_or_zero.ensures in
    count-there c.args.lines.now c.loop-first.first c.number_or_zero.result c.step_over-step.result.count
    c.loop-first-test.true c.step_over-step.ensures.count there.1

pub overflow_add-first : goal.overflow_add-first
overflow_add-first c =
    let there = tag-there c.args.lines.now c.loop-first.first c.number_or_zero.result c.deref.result.now
    c.loop-first-test.true (c.deref.ensures.value ∙ c.in_ok-sizes.ensures) c.number_or_zero.ensures in
    let within : c.loop-first.first + c.step_over-step.result.count ≤ length c.args.lines.now =
    omega (arith, c.loop-first-test.true, c.step_over-step.ensures.count, there.1) in
    first_of (search rules, grind (arith, common_steps))

pub loop-first-preserved : goal.loop-first-preserved
loop-first-preserved c =
    let lines = c.args.lines.now in
    let there = tag-there lines c.loop-first.first c.number_or_zero.result c.deref.result.now
    c.loop-first-test.true (c.deref.ensures.value ∙ c.in_ok-sizes.ensures) c.number_or_zero.ensures in
    record {
      within = omega (arith, c.loop-first-test.true, c.step_over-step.ensures.count, there.1);
      masks = tag-more lines c.loop-first.first c.number_or_zero.result
          c.step_over-step.result.count c.step_over-step.result.masks [] (map numbered c.loop-first.out.items)
          (map numbered c.push_lines.new.out.items) c.loop-first-test.true there.0 c.step_over-step.ensures.count
          c.step_over-step.ensures.masks c.in_ok-push_lines.ensures c.loop-first.invariant.masks;
    }

pub returns : goal.returns
returns c =
    let rows = map numbered c.args.lines.now in
    let all = blocks-all tag_size (λ line. true) c.args.lines.now c.loop-first.first []
    (map numbered c.loop-first.out.items) c.loop-first-test.false c.loop-first.invariant.masks in
    subst (λ (xs : List NumberedLine). MasksBlocks tag_size (λ line. true) rows xs) (sym all.2) all.1
