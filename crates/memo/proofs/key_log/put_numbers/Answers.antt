use Rattle.std.proofs.Common.{◌≡◌, ◌⊎◌, inl, inr, ℕ, ◌+◌, ◌<◌, ◌≤◌, List, [], ◌∷◌, ◌++◌}
use Rattle.std.proofs.Common.{subst, arith}
use Rattle.memo.specs.Parts.{IsIn, in_here}
use Rattle.memo.specs.TaskLinks.{Position}
use Rattle.memo.proofs.PartsLemmas.{in_left, in_right}
use Rattle.memo.proofs.key_log.put_numbers.Goals as goal

less_or_last : (i at : ℕ) → i < at + 1 → (i < at) ⊎ (i ≡ at)
less_or_last i at h = grind arith

-- a number more
numbers_more : (positions : List Position) (first number entry : ℕ)
    → ((n : ℕ) → first ≤ n → n < number → IsIn (record { number = n; entry = entry }) positions) → (n : ℕ) → first ≤ n
    → n < number + 1
    → IsIn (record { number = n; entry = entry }) (positions ++ record { number = number; entry = entry } ∷ [])
numbers_more positions first number entry h n low less = elim (less_or_last n number less) [
  | inl before ↦ in_left (record { number = number; entry = entry } ∷ []) (h n low before)
  | inr is ↦ in_right positions (subst (λ m. IsIn {V = Position} (record { number = n; entry = entry })
      (record { number = m; entry = entry } ∷ [])) is in_here)
]

pub loop-number-preserved : goal.loop-number-preserved
loop-number-preserved c = record {
  kept = λ p i. rw c.in_ok-push.ensures.added (in_left _ (c.loop-number.invariant.kept p i));
  numbers = λ n low less. rw c.in_ok-push.ensures.added (numbers_more c.loop-number.index c.args.first
      c.loop-number.number c.args.entry c.loop-number.invariant.numbers n low less);
}
