-- The later faults of a text have one report.
-- Serves: one_explanation of pegprint
use Rattle.std.proofs.Common.{◌≡◌, ℕ, zero, suc, ◌<◌, ◌⊎◌, inl, inr, Bool, true, false, List, ◌++◌, Option, Some, None}
use Rattle.std.proofs.Common.{refl, ◌∙◌, ap, arith, subst}
use Rattle.std.proofs.lemmas.Bool.{cases_lt}
use Rattle.diagnostics.specs.LaterFaults.{AreLaterFaults, IsFirstAt, IsFirstThere, enough, no_line, it_reads, one_more}

module _ (test : ℕ → Bool) (from to : ℕ) where
  none-before : (a b : ℕ) → IsFirstThere test from to a → IsFirstThere test from to b → a < b → ⊥
  none-before a b g h lt =
      let no : test a ≡ false = h.first a g.low lt in
      let yes = g.holds in
      absurd (cc)

  first-same : (a b : ℕ) → IsFirstThere test from to a → IsFirstThere test from to b → a ≡ b
  first-same a b g h = elim (cases_lt a b) [
    | inl lt ↦ absurd (none-before a b g h lt)
    | inr ge ↦ elim (cases_lt b a) [
      | inl lt ↦ absurd (none-before b a h g lt)
      | inr le ↦ omega arith
    ]
  ]

  pub first-one : (a b : Option ℕ) → IsFirstAt test from to a → IsFirstAt test from to b → a ≡ b
  first-one None None g h = refl
  first-one None (Some b) g h =
      let no : test b ≡ false = g b h.low h.high in
      let yes = h.holds in
      absurd (cc)
  first-one (Some a) None g h =
      let no : test a ≡ false = h a g.low g.high in
      let yes = g.holds in
      absurd (cc)
  first-one (Some a) (Some b) g h = ap Some (first-same a b g h)

module _ (IsFaultFrom : ℕ → List ℕ → ℕ → Type 0) (IsNext : ℕ → ℕ → Option ℕ → Type 0)
    (one_report : (next : ℕ) (a b : List ℕ) (m n : ℕ) → IsFaultFrom next a m → IsFaultFrom next b n
    → (a ≡ b) × (m ≡ n))
    (one_line : (start low : ℕ) (a b : Option ℕ) → IsNext start low a → IsNext start low b → a ≡ b) where
  pub later-one : (left start low : ℕ) (a b : List ℕ) → AreLaterFaults IsFaultFrom IsNext left start low a
      → AreLaterFaults IsFaultFrom IsNext left start low b → a ≡ b
  later-one zero start low a b enough enough = refl
  later-one (suc left) start low a b (no_line g) (no_line h) = refl
  later-one (suc left) start low a b (no_line g) (it_reads {next = n} h none) = refl
  later-one (suc left) start low a b (no_line g) (one_more {next = n} h f t) =
      let same : None ≡ Some n = one_line start low None (Some n) g h in
      absurd (cc)
  later-one (suc left) start low a b (it_reads g none) (no_line h) = refl
  later-one (suc left) start low a b (it_reads g none) (it_reads h other) = refl
  later-one (suc left) start low a b (it_reads {next = m} g none)
      (one_more {next = n} {further = k} {reported = r} h f t) =
      let same : Some n ≡ Some m = one_line start low (Some n) (Some m) h g in
      let here : n ≡ m = cc in
      absurd (none r k (subst (λ (z : ℕ). IsFaultFrom z r k) here f))
  later-one (suc left) start low a b (one_more {next = m} g f t) (no_line h) =
      let same : None ≡ Some m = one_line start low None (Some m) h g in
      absurd (cc)
  later-one (suc left) start low a b (one_more {next = m} {further = k} {reported = r} g f t)
      (it_reads {next = n} h none) =
      let same : Some m ≡ Some n = one_line start low (Some m) (Some n) g h in
      let here : m ≡ n = cc in
      absurd (none r k (subst (λ (z : ℕ). IsFaultFrom z r k) here f))
  later-one (suc left) start low a b (one_more {next = m} {further = k} {reported = r} {others = u} g f t)
      (one_more {next = n} {further = l} {reported = s} {others = v} h e d) =
      let same : Some m ≡ Some n = one_line start low (Some m) (Some n) g h in
      let here : m ≡ n = cc in
      let reports = one_report n r s k l (subst (λ (z : ℕ). IsFaultFrom z r k) here f) e in
      let moved : AreLaterFaults IsFaultFrom IsNext left n l u =
      subst (λ (z : ℕ). AreLaterFaults IsFaultFrom IsNext left n z u) reports.1
      (subst (λ (z : ℕ). AreLaterFaults IsFaultFrom IsNext left z k u) here t) in
      ap (λ (z : List ℕ). z ++ u) reports.0 ∙ ap (λ (z : List ℕ). s ++ z) (later-one left n l u v moved d)
