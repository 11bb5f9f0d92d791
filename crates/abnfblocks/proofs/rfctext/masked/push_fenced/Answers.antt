use Rattle.std.proofs.Common.{◌∙◌, ◌&&◌, Bool, List, ap, arith, map, nat_lt}
use Rattle.abnfblocks.specs.Fences.{fenced_size, hides_block}
use Rattle.abnfblocks.specs.TextLines.{NumberedLine, numbered}
use Rattle.abnfblocks.proofs.MaskedLinesLemmas.{block-more, blocks-all, longest-after, rest-length}
use Rattle.abnfblocks.proofs.RuleCutLemmas.{rest-rows}
use Rattle.abnfblocks.proofs.rfctext.masked.push_fenced.Goals as goal

pub fenced_size-size-requires-clause-ticks : goal.fenced_size-size-requires-clause-ticks
fenced_size-size-requires-clause-ticks c = longest-after 96 c.args.lines.now c.loop-first.first
    c.number_or_zero.result c.deref.result.now c.loop-first-test.true (c.deref.ensures.value ∙ c.in_ok-ticks.ensures)
    c.number_or_zero.ensures

pub fenced_size-size-requires-clause-tildes : goal.fenced_size-size-requires-clause-tildes
fenced_size-size-requires-clause-tildes c = longest-after 126 c.args.lines.now c.loop-first.first
    c.number_or_zero-in-loop-first.result c.deref-in-loop-first.result.now c.loop-first-test.true
    (c.deref-in-loop-first.ensures.value ∙ c.in_ok-tildes.ensures) c.number_or_zero-in-loop-first.ensures

pub loop-first-preserved : goal.loop-first-preserved
loop-first-preserved c =
    let lines = c.args.lines.now in
    let size = c.fenced_size-size.result in
    let all = rest-length lines c.loop-first.first in
    record {
      within = omega (
        arith,
        c.loop-first-test.true,
        c.step_over-step.ensures.count,
        c.fenced_size-size.ensures.within,
        all,
      );
      masks = block-more fenced_size hides_block lines c.loop-first.first _ size c.step_over-step.result.count
          c.step_over-step.result.masks (map numbered c.args.out.now.items) (map numbered c.loop-first.out.items)
          (map numbered c.push_lines.new.out.items) c.loop-first-test.true
          (c.fenced_size-size.ensures.size
          ∙ ap (λ (xs : List NumberedLine). fenced_size xs) (rest-rows lines c.loop-first.first))
          c.step_over-step.ensures.count
          (c.step_over-step.ensures.masks ∙ ap (λ (b : Bool). nat_lt 0 size && b) c.hides_block.ensures)
          c.in_ok-push_lines.ensures c.loop-first.invariant.masks;
    }

pub returns : goal.returns
returns c = blocks-all fenced_size hides_block c.args.lines.now c.loop-first.first _ _ c.loop-first-test.false
    c.loop-first.invariant.masks
