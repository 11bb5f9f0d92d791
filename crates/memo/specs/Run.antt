-- An evaluation that remembers its keys, and nothing else.
use Rattle.std.specs.Prelude.{◌≡◌, ℕ, ◌+◌, Bool, true, false, List, [], ◌∷◌}
use Rattle.memo.specs.Parts.{IsIn}

module _ (V : Type 0) (Kids : V → List V → Type 0) (key : V → Bool) (weight : V → ℕ) where
  mutual
    -- `Run old a new c`: a is evaluated where the keys `old` are stored. That begins c evaluations, and then the keys
    -- `new` are stored. A key that is stored begins nothing; any other task begins, and its children are evaluated in
    -- order.
    pub data Run : List V → V → List V → ℕ → Type 0 where
      run_stored : {a : V} {old : List V} → key a ≡ true → IsIn a old → Run old a old 0
      run_key : {a : V} {ks old new : List V} {c : ℕ} → key a ≡ true → (IsIn a old → ⊥) → Kids a ks
          → RunAll old ks new c → Run old a (a ∷ new) (weight a + c)
      run_plain : {a : V} {ks old new : List V} {c : ℕ} → key a ≡ false → Kids a ks → RunAll old ks new c
          → Run old a new (weight a + c)

    pub data RunAll : List V → List V → List V → ℕ → Type 0 where
      run_none : {old : List V} → RunAll old [] old 0
      run_more : {a : V} {ks old mid new : List V} {c d : ℕ} → Run old a mid c → RunAll mid ks new d
          → RunAll old (a ∷ ks) new (c + d)

  -- the sum of the weights
  abbrev pub total : List V → ℕ
  total [] = 0
  total (a ∷ xs) = weight a + total xs

-- whatever is led to from here, step by step, comes to an end
pub data Ends (V : Type 0) (Edge : V → V → Type 0) : V → Type 0 where
  ends : {a : V} → ((b : V) → Edge a b → Ends V Edge b) → Ends V Edge a
