use Rattle.std.proofs.Common.{◌≡◌, ◌+◌, true, false, Bool, ◌||◌, map, drop, sym, ap, ◌∙◌}
use Rattle.pegread.specs.PegViews.{pattern_of, rule_of}
use Rattle.uses.specs.Choices.{is_choice, some_choice}
use Rattle.uses.proofs.ChoiceLemmas.{choice-left}
use Rattle.uses.proofs.tree_caller.some_choice.Goals as goal

pub returns-then-is_choice : goal.returns-then-is_choice
returns-then-is_choice c =
    let left = choice-left c.args.peg.now.rules.rules c.loop-id.id c.body.result.now c.body.ensures in
    let here : is_choice (pattern_of c.body.result.now) ≡ true = sym c.is_choice.ensures ∙ c.if-is_choice.true in
    sym (c.loop-id.invariant ∙ left ∙ ap (λ (b : Bool). b
    || some_choice (map rule_of (drop (c.loop-id.id + 1) c.args.peg.now.rules.rules))) here)

pub loop-id-preserved : goal.loop-id-preserved
loop-id-preserved c =
    let left = choice-left c.args.peg.now.rules.rules c.loop-id.id c.body.result.now c.body.ensures in
    let here : is_choice (pattern_of c.body.result.now) ≡ false = sym c.is_choice.ensures ∙ c.if-is_choice.false in
    c.loop-id.invariant ∙ left ∙ ap (λ (b : Bool). b
    || some_choice (map rule_of (drop (c.loop-id.id + 1) c.args.peg.now.rules.rules))) here
