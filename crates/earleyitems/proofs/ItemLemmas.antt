-- An item by its parts.
-- Serves: judge.
use Rattle.std.proofs.Common.{◌≡◌, ℕ, ◌∙◌, ap}
use Rattle.flatgrammar.specs.declared.flat_item.Item.{Item}

pub item_same : (a : Item) (n s o : ℕ) → a.node ≡ n → a.step ≡ s → a.origin ≡ o
    → a ≡ record { node = n; step = s; origin = o }
item_same a n s o hn hs ho =
    ap (λ v. record { node = v; step = a.step; origin = a.origin }) hn ∙
    (ap (λ v. record { node = n; step = v; origin = a.origin }) hs
    ∙ ap (λ v. record { node = n; step = s; origin = v }) ho)
