-- Prefixes that a length bounds.
-- Serves: push_cut
use Rattle.std.proofs.Common.{◌≡◌, ℕ, min, List, ◌++◌, length, take, sym, ap}
use Rattle.std.proofs.Common.{◌∙◌, arith, inl, inr, nat_lt, append_assoc}
use Rattle.std.proofs.lemmas.List.{take_all}
use Rattle.std.proofs.lemmas.Bool.{cases_lt}
use Rattle.diagnostics.specs.ShownBytes.{shown, dots, cut}
use Rattle.diagnostics.specs.declared.picture.shown.TheConstants.{MAX_CUT}

-- no more are taken than there are
pub take-within : (n m : ℕ) (xs : List ℕ) → m ≡ min (length xs) n → take m xs ≡ take n xs
take-within n m xs e = elim (cases_lt n (length xs)) [
  | inl lt ↦ (let same : m ≡ n = omega arith in ap (λ (k : ℕ). take k xs) same)
  | inr ge ↦ (let same : m ≡ length xs = omega arith in take_all m xs (omega arith) ∙ sym (take_all n xs ge))
]

pub cut-pushed : (before between after bytes : List ℕ) (m : ℕ) → m ≡ min (length bytes) MAX_CUT
    → between ≡ before ++ shown (take m bytes) → after ≡ between ++ dots (nat_lt MAX_CUT (length bytes))
    → after ≡ before ++ cut bytes
cut-pushed before between after bytes m e h k =
    let same : take m bytes ≡ take MAX_CUT bytes = take-within MAX_CUT m bytes e in
    k ∙ ap (λ (t : List ℕ). t ++ dots (nat_lt MAX_CUT (length bytes)))
    (h ∙ ap (λ (t : List ℕ). before ++ shown t) same) ∙ append_assoc before
    (shown (take MAX_CUT bytes)) (dots (nat_lt MAX_CUT (length bytes)))
