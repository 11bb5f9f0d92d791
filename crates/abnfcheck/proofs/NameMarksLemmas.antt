-- Marks on names and rules by id.
-- Serves: check_abnf (notes, sound)
use Rattle.std.proofs.Common.{◌≡◌, ◌↔◌, ℕ, zero, suc, ◌+◌, ◌<◌, ◌≤◌, ◌⊎◌, inl, inr, ⊎_elim, Bool, List, [], ◌∷◌, ◌++◌}
use Rattle.std.proofs.Common.{length, take, sym, ◌∙◌, ap, subst, arith, add-one}
use Rattle.std.specs.Prelude.{slice_get, Some, Contains}
use Rattle.std.proofs.lemmas.Bool.{cases_eq, cases_lt}
use Rattle.std.proofs.lemmas.List.{get_or_past}
use Rattle.fixpoint.specs.NumberMarks.{IsMarked, MarksThose}
use Rattle.fixpoint.specs.StepRows.{Step, row_at}
use Rattle.fixpoint.proofs.ContainsLemmas.{none_of}
use Rattle.abnfread.specs.Element.{Element, Rule, bodies}
use Rattle.abnfcheck.specs.ProseIn.{prose_in, prose_marks}

-- the marks after so many rows
abbrev pub MarksTo : List (List ℕ) → List Bool → List Bool → ℕ → Type 0
MarksTo rows a b i = (id : ℕ) → IsMarked b id ↔ (IsMarked a id ⊎ ((user : ℕ) × (user < i) × Step rows user id))

pub targets_next : (rows : List (List ℕ)) (i : ℕ) (row : List ℕ) (a b c : List Bool) → row_at rows i ≡ row
    → MarksTo rows a b i → MarksThose row b c → MarksTo rows a c (i + 1)
targets_next rows i row a b c is m g id = (
  λ h. ⊎_elim
      (λ old. ⊎_elim (λ first. inl first) (λ u. inr (u.0, (let lt = u.1 in omega (arith, lt)), u.2)) ((m id).0 old))
      (λ new. inr (i, omega arith, subst (λ v. Contains v id) (sym is) new))
      (g.only id h),
  λ h. ⊎_elim
      (λ first. g.kept id ((m id).1 (inl first)))
      (λ u. ⊎_elim
      (λ same. g.all id (subst (λ v. Contains v id) (ap (λ v. row_at rows v) same ∙ is) u.2))
      (λ ne. g.kept id ((m id).1 (inr (u.0, (let lt = u.1 in omega (arith, lt, ne)), u.2))))
      (cases_eq u.0 i))
      h,
)

pub targets_all : (rows : List (List ℕ)) (i : ℕ) (a b : List Bool) → length rows ≤ i → MarksTo rows a b i → (id : ℕ)
    → IsMarked b id ↔ (IsMarked a id ⊎ ((user : ℕ) × Step rows user id))
targets_all rows i a b le m id = (
  λ h. ⊎_elim (λ first. inl first) (λ u. inr (u.0, u.2)) ((m id).0 h),
  λ h. ⊎_elim (λ first. (m id).1 (inl first)) (λ u. (m id).1 (inr (u.0, below u.0 u.1, u.1))) h,
)
  where
    below : (user : ℕ) → Step rows user id → user < i
    below user step = ⊎_elim (λ lt. lt) (λ past. absurd
        (none_of id (subst (λ v. Contains v id) (get_or_past rows user [] (omega (arith, le, past))) step)))
        (cases_lt user i)

-- the marks of the rules with prose
prose_suc : (rules : List Rule) (i : ℕ) (body : Element) → slice_get (bodies rules) i ≡ Some body
    → prose_marks (take (suc i) rules) ≡ prose_marks (take i rules) ++ prose_in body ∷ []
prose_suc [] i body is = absurd (cc is)
prose_suc (rule ∷ rules) zero body is = let same : rule.body ≡ body = cc is in ap (λ v. prose_in v ∷ []) same
prose_suc (rule ∷ rules) (suc i) body is = ap (λ l. prose_in rule.body ∷ l) (prose_suc rules i body is)

pub prose_next : (rules : List Rule) (i : ℕ) (body : Element) → slice_get (bodies rules) i ≡ Some body
    → prose_marks (take (i + 1) rules) ≡ prose_marks (take i rules) ++ prose_in body ∷ []
prose_next rules i body is = ap (λ (k : ℕ). prose_marks (take k rules)) (add-one i) ∙ prose_suc rules i body is
