use Rattle.std.proofs.Common.{◌++◌, ◌∙◌, ap, append_assoc, codes}
use Rattle.diagnostics.specs.ShownBytes.{cut}
use Rattle.refusedlines.proofs.part_texts.part_text.Goals as goal

pub returns : goal.returns
returns c =
    let element = c.in_ok-text.text.items in
    record {
      element = element;
      shows = c.in_ok-text.ensures;
      is = c.in_ok-push_cut.ensures
          ∙ (λ i. c.in_ok-extend_from_slice.ensures.items i ++ cut (c.rule_name.ensures i))
          ∙ append_assoc element (codes " in ") _;
    }
