use Rattle.std.proofs.Common.{ℕ, List, ◌++◌, ◌∙◌, append-nil, append_assoc, add-one, ap, map, sym}
use Rattle.pegexplain.specs.CodeLeaves.{held_found, rule_leaf_found}
use Rattle.pegexplain.specs.HeldDefinitions.{HeldAt, held_before, held_if, name_held}
use Rattle.pegexplain.proofs.hints.held.add_all_held.Goals as goal

pub loop-at-init : goal.loop-at-init
loop-at-init c = sym (append-nil (map held_found c.args.found.now.items))

pub loop-at-preserved : goal.loop-at-preserved
loop-at-preserved c =
    let action = rule_leaf_found c.args.action in
    let template : List ℕ = c.args.template.now in
    let at = c.loop-at.at in
    let all = map held_found c.args.found.now.items in
    let more = held_if action template at (name_held template at) in
    c.in_ok-add_held.ensures ∙ ap (λ (v : List HeldAt). v ++ more) c.loop-at.invariant
    ∙ append_assoc all (held_before action template at) more
    ∙ ap (λ (k : ℕ). all ++ held_before action template k) (sym (add-one at))
