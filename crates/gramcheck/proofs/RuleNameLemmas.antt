-- Names that are the same, and the names of a table's rules.
-- Serves: check_peg, redefinitions
use Rattle.std.proofs.Common.{◌≡◌, ℕ, true, false, List, position, slice_get, Some, refl, inl, inr}
use Rattle.std.proofs.lemmas.Bool.{cases_Bool}
use Rattle.std.proofs.lemmas.Simd.{map-map}
use Rattle.std.proofs.lemmas.Slice.Eq.{bytes_eq-Decides}
use Rattle.std.specs.Str.{bytes_eq}
use Rattle.ruletable.specs.Rules.{Rules, HasUniqueNames, names_of}
use Rattle.ruletable.specs.declared.table.NameCase.TheVariants.{Exact}
use Rattle.fixpoint.proofs.IsAddedLemmas.{own_position}
use Rattle.pegread.specs.Pattern.{Rule}
use Rattle.pegread.specs.PegViews.{rule_of, rules_of}
use Rattle.pegread.specs.declared.expr.Expr.{Expr}
use Rattle.gramcheck.specs.Uses.{rule_names}

-- two names
pub same-name : (a b : List ℕ) → bytes_eq a b ≡ true → a ≡ b
same-name a b = (bytes_eq-Decides a b).0

pub own-name : (a : List ℕ) → bytes_eq a a ≡ true
own-name a = (bytes_eq-Decides a a).1 refl

pub other-name : (a b : List ℕ) → (a ≡ b → ⊥) → bytes_eq a b ≡ false
other-name a b n = elim (cases_Bool (bytes_eq a b)) [ inl e ↦ absurd (n (same-name a b e)) | inr e ↦ e ]

-- the names of a table's rules are unique
pub names-same : (t : Rules Expr) → rule_names (rules_of t) ≡ names_of t
names-same t = map-map (λ (rule : Rule). rule.name) rule_of t.rules

pub own-names : (t : Rules Expr) → HasUniqueNames t → t.names ≡ Exact → (id : ℕ) (name : List ℕ)
    → slice_get (rule_names (rules_of t)) id ≡ Some name →
    position (bytes_eq name) (rule_names (rules_of t)) ≡ Some id
own-names t unique exact = rw (names-same t) (rw exact at (own_position t unique))
