-- Namers, naming by naming.
-- Serves: check_peg
use Rattle.std.proofs.Common.{◌≡◌, ◌⊎◌, ℕ, ◌+◌, List, length, get_or, Some, sym}
use Rattle.std.proofs.Common.{subst, arith, ⊎_elim, inl, inr, ◌∙◌, ap}
use Rattle.std.specs.Prelude.{slice_get, ◌==◌, if◌then◌else◌}
use Rattle.std.proofs.lemmas.Bool.{cases_eq}
use Rattle.std.proofs.lemmas.Option.{slice_get_within}
use Rattle.pegnodes.specs.Namers.{NamesAt, IsBefore, IsNamerTo, AreNamersTo, named_by}
use Rattle.pegnodes.specs.declared.namers.Namer.{Namer}
use Rattle.pegnodes.specs.declared.namers.Namer.TheVariants.{Nobody, By, Both, Many}

module _ (rows : List (List ℕ)) where
  -- what is known of a namer holds before each position after which no naming of it is
  pub namer_moved : (i k j l m : ℕ) (s : Namer)
      → ((n t : ℕ) → IsBefore rows j l n t → NamesAt rows n t m → IsBefore rows i k n t)
      → IsNamerTo rows i k m s → IsNamerTo rows j l m s
  namer_moved i k j l m Nobody f h = λ n t b at. h n t (f n t b at) at
  namer_moved i k j l m (By a) f h = (h.0, λ n t b at. h.1 n t (f n t b at) at)
  namer_moved i k j l m (Both a b) f h = λ n t before at. h n t (f n t before at) at
  namer_moved i k j l m Many f h = tt

  before_cases : (i k n t : ℕ) → IsBefore rows i (k + 1) n t → IsBefore rows i k n t ⊎ ((n ≡ i) × (t ≡ k))
  before_cases i k n t (inl lt) = inl (inl lt)
  before_cases i k n t (inr (is, lt)) = ⊎_elim (λ at. inr (is, at))
      (λ ne. inl (inr (is, omega (arith, lt, ne)))) (cases_eq t k)

  -- a node is named once more
  named_again : (i k m : ℕ) (s : Namer) → IsNamerTo rows i k m s → IsNamerTo rows i (k + 1) m (named_by i s)
  named_again i k m Nobody h = (
    k,
    λ n t b at. ⊎_elim (λ old. absurd (h n t old at)) (λ new. new)
        (before_cases i k n t b),
  )
  named_again i k m (By a) h = λ n t b at. ⊎_elim (λ old. inl (h.1 n t old at).0) (λ new. inr new.0)
      (before_cases i k n t b)
  named_again i k m (Both a b) h = tt
  named_again i k m Many h = tt

  pub names_next : (i k named : ℕ) (row : List ℕ) (old new : List Namer) → slice_get rows i ≡ Some row
      → slice_get row k ≡ Some named
      → ((m : ℕ) → get_or new m Many ≡ (if m == named then named_by i (get_or old m Many) else get_or old m Many))
      → AreNamersTo rows i k old → AreNamersTo rows i (k + 1) new
  names_next i k named row old new there at is h m = ⊎_elim
      (λ same.
      let now : get_or new m Many ≡ named_by i (get_or old m Many) = grind (arith, is m, same) in
      subst (IsNamerTo rows i (k + 1) m) (sym now) (named_again i k m (get_or old m Many) (h m)))
      (λ other.
      let now : get_or new m Many ≡ get_or old m Many = grind (arith, is m, other) in
      subst (IsNamerTo rows i (k + 1) m) (sym now)
      (namer_moved i k i (k + 1) m (get_or old m Many) (λ n t b (x, g, h). ⊎_elim (λ before. before)
      (λ here. absurd (other (let e : Some row ≡ Some x = sym there ∙ (subst (λ v. slice_get rows v ≡ Some x) here.0 g)
      in let e2 : slice_get x k ≡ Some m = subst (λ v. slice_get x v ≡ Some m) here.1 h in
      let same : row ≡ x = cc e in
      let e3 : slice_get row k ≡ Some m = subst (λ v. slice_get v k ≡ Some m) (sym same) e2 in cc (e3, at))))
      (before_cases i k n t b)) (h m)))
      (cases_eq m named)

  -- after the end of a row the next one begins
  pub row_ends : (i : ℕ) (row : List ℕ) (namers : List Namer) → slice_get rows i ≡ Some row
      → AreNamersTo rows i (length row) namers → AreNamersTo rows (i + 1) 0 namers
  row_ends i row namers there h m = namer_moved i (length row) (i + 1) 0 m (get_or namers m Many)
      (λ n t b (x, g, at). ⊎_elim
      (λ lt. ⊎_elim
      (λ here.
      let e : Some row ≡ Some x = sym there ∙ subst (λ v. slice_get rows v ≡ Some x) here g in
      let same : x ≡ row = cc e in
      inr (here, slice_get_within row t m (subst (λ v. slice_get v t ≡ Some m) same at)))
      (λ ne. inl (omega (arith, lt, ne)))
      (cases_eq n i))
      (λ none. absurd (omega (arith, none.1)))
      b)
      (h m)

  -- a whole row is added
  pub row_added : (i : ℕ) (row names : List ℕ) (old new : List Namer) → row ≡ names → slice_get rows i ≡ Some row
      → (slice_get rows i ≡ Some names → AreNamersTo rows i 0 old → AreNamersTo rows i (length names) new)
      → AreNamersTo rows i 0 old → AreNamersTo rows (i + 1) 0 new
  row_added i row names old new same there adds h =
      let at : slice_get rows i ≡ Some names = there ∙ ap Some same in row_ends i names new at (adds at h)

  -- before the first row nothing is known
  pub names_none : (m : ℕ) (s : Namer) → IsNamerTo rows 0 0 m s
  names_none m Nobody = λ n t b at. ⊎_elim (λ lt. omega (arith, lt)) (λ h. omega (arith, h.1)) b
  names_none m (By a) = (0, λ n t b at. ⊎_elim (λ lt. absurd (omega (arith, lt))) (λ h. absurd (omega (arith, h.1))) b)
  names_none m (Both a b) = λ n t c at. ⊎_elim (λ lt. absurd (omega (arith, lt))) (λ h. absurd (omega (arith, h.1))) c
  names_none m Many = tt
