use Rattle.std.proofs.Common.{◌∙◌, arith, sym}
use Rattle.abnfblocks.proofs.OpenTagLemmas.{left-before, left-small, sizes-before, tag-none, tag-shut, tag-some}
use Rattle.abnfblocks.proofs.rfctext.tag.tag_sizes.Goals as goal
use Rattle.abnfblocks.proofs.rfctext.tag.tag_sizes.Goals.{then-left-gt0+then-opens_tag, else-left-gt0}
use Rattle.abnfblocks.proofs.rfctext.tag.tag_sizes.Goals.{else-left-gt0-via-then-left-gt0+else-opens_tag}
use Rattle.abnfblocks.proofs.rfctext.tag.tag_sizes.Goals.{else-left-gt0-via-else-left-gt0}

pub loop-first-preserved : goal.loop-first-preserved
loop-first-preserved c =
    let lines = c.args.lines.now in
    let i = c.loop-first.first in
    let some = c.loop-first-test.true in
    let within = c.loop-first.invariant.within in
    let left = c.loop-first.invariant.left in
    let small = left-small lines i _ some within c.loop-first.left c.more_left-left.result
    c.more_left-left.ensures in
    record {
      within = omega (arith, within);
      left = left-before lines i _ some within c.loop-first.left c.more_left-left.result left c.more_left-left.ensures;
      small = omega (arith, some, small, c.loop-first.invariant.small);
      each = sizes-before lines i _ some within c.if-left-gt0.size c.loop-first.sizes.items c.push.new.self.items
          (elim c.if-left-gt0.branch [
            | then-left-gt0+then-opens_tag w ↦ w.size-is ∙ sym (tag-some lines i _ some within c.loop-first.left left
                w.if-left-gt0.true (sym w.opens_tag.ensures ∙ w.if-opens_tag.true))
            | else-left-gt0 w ↦ w.size-is ∙ sym (elim w.else-left-gt0.branch [
              | else-left-gt0-via-then-left-gt0+else-opens_tag v ↦ tag-shut lines i _ some within
                  (sym v.opens_tag.ensures ∙ v.if-opens_tag.false)
              | else-left-gt0-via-else-left-gt0 v ↦ tag-none lines i _ some within c.loop-first.left left
                  (omega (arith, v.if-left-gt0.false))
            ])
          ])
          c.loop-first.invariant.each c.in_ok-push.ensures.items;
    }
