use Rattle.std.proofs.Common.{List, ℕ, ◌++◌, append_assoc, ap, codes, ◌∙◌}
use Rattle.diagnostics.specs.ShownBytes.{cut}
use Rattle.diagnostics.proofs.near.push_meant_name.Goals as goal

pub returns : goal.returns
returns c =
    let old = c.args.out.now.items in
    let head = codes "  perhaps '" in
    let name = cut c.args.rule.now in
    let end = codes "' is meant\n" in
    c.in_ok-extend_from_slice-2.ensures.items
    ∙ ap (λ (z : List ℕ). z ++ end) (c.in_ok-push_cut.ensures
    ∙ ap (λ (z : List ℕ). z ++ name) c.in_ok-extend_from_slice.ensures.items)
    ∙ append_assoc (old ++ head) name end ∙ append_assoc old head (name ++ end)
