-- Marks on the ids of a list, and their opposites.
-- Serves: marks_at, check_peg, redefinitions, check_abnf (notes), run_abnf (right)
use Rattle.std.proofs.Common.{◌≡◌, ℕ, zero, suc, ◌<◌, ◌==◌, inl, inr, ⊎_elim, Bool, true, false, not, ◌||◌, List, []}
use Rattle.std.proofs.Common.{◌∷◌, length, map, get_or, refl, sym, ◌∙◌, ap, subst, arith}
use Rattle.std.specs.Prelude.{Contains}
use Rattle.std.specs.List.{list_any}
use Rattle.std.proofs.lemmas.Bool.{both_ways, cases_Bool}
use Rattle.std.proofs.lemmas.Bool.Decides.{eqb_tells}
use Rattle.fixpoint.proofs.ContainsLemmas.{none_of, in_first, in_later, cons_cases}
use Rattle.fixpoint.specs.IdMarks.{AreMarks}

-- ids in a list
any_in : (ids : List ℕ) (id : ℕ) → list_any (λ other. other == id) ids ≡ true → Contains ids id
any_in [] id h = absurd (both_ways false refl h)
any_in (x ∷ ids) id h = elim (eqb_tells x id) [
  | inl e ↦ subst (λ v. Contains (x ∷ ids) v) e.1 (in_first x ids)
  | inr e ↦ in_later x id ids (any_in ids id (sym (ap (λ b. b || list_any (λ other. other == id) ids) e.0) ∙ h))
]

in_any : (ids : List ℕ) (id : ℕ) → Contains ids id → list_any (λ other. other == id) ids ≡ true
in_any [] id h = absurd (none_of id h)
in_any (x ∷ ids) id h = elim (eqb_tells x id) [
  | inl e ↦ ap (λ b. b || list_any (λ other. other == id) ids) e.0
  | inr e ↦ ap (λ b. b || list_any (λ other. other == id) ids) e.0
      ∙ in_any ids id (⊎_elim (λ same. absurd (e.1 same)) (λ later. later) (cons_cases x id ids h))
]

pub ids_marked : (ids : List ℕ) (count : ℕ) (marks : List Bool) → length marks ≡ count
    → ((id : ℕ) → id < count → get_or marks id false ≡ list_any (λ other. other == id) ids) →
    AreMarks (Contains ids) count marks
ids_marked ids count marks is h = record {
  count_is = is;
  exact = λ id lt. ((λ on. any_in ids id (sym (h id lt) ∙ on)), (λ among. h id lt ∙ in_any ids id among));
}

pub mark_tests : (ids : List ℕ) (count : ℕ) (marks : List Bool) → AreMarks (Contains ids) count marks → (id : ℕ)
    → id < count → get_or marks id false ≡ list_any (λ other. other == id) ids
mark_tests ids count marks m id lt = elim (cases_Bool (get_or marks id false)) [
  | inl on ↦ on ∙ sym (in_any ids id ((m.exact id lt).0 on))
  | inr off ↦ elim (cases_Bool (list_any (λ other. other == id) ids)) [
    | inl among ↦ absurd (both_ways (get_or marks id false) off ((m.exact id lt).1 (any_in ids id among)))
    | inr out ↦ off ∙ sym out
  ]
]

-- the opposite of a mark
pub marks-opposite : (marks : List Bool) (id : ℕ) → id < length marks → get_or (map not marks) id false
    ≡ not (get_or marks id false)
marks-opposite [] id lt = absurd (omega (arith, lt))
marks-opposite (mark ∷ marks) zero lt = refl
marks-opposite (mark ∷ marks) (suc id) lt = marks-opposite marks id (omega (arith, lt))
