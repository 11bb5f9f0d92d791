-- Each part is what stands at its site.
-- Serves: awaited_parts.
use Rattle.std.proofs.Common.{◌≡◌, ℕ, zero, suc, ◌+◌, List, [], ◌∷◌, ◌++◌, length, map, Some, slice_get, refl, sym}
use Rattle.std.proofs.Common.{◌∙◌, ap, subst, arith}
use Rattle.std.specs.List.{AllByRecursion}
use Rattle.abnfread.specs.Element.{Element, Elements, Text, Values, Range, Concat, Alt, Rep, Opt, Name, Prose, none}
use Rattle.abnfread.specs.Element.{more, Rule, bodies}
use Rattle.lowering.specs.AwaitedParts.{element_at, member_at}
use Rattle.refusedlines.specs.RefusedParts.{RulePart, counts, parts_in, operands_in, parts_from}

-- the part is the element at that site of its rule's body
pub record IsPlaced (rules : List Rule) (p : RulePart) : Type 0 where
  pub body : Element
  pub body_is : slice_get (bodies rules) p.rule ≡ Some body
  pub there : element_at body p.site ≡ Some p.element

at_itself : (e : Element) → element_at e [] ≡ Some e
at_itself (Text folds t) = refl
at_itself (Values vs) = refl
at_itself (Range low high) = refl
at_itself (Concat es) = refl
at_itself (Alt es) = refl
at_itself (Rep a b e) = refl
at_itself (Opt e) = refl
at_itself (Name n) = refl
at_itself (Prose t) = refl

from_itself : (e f : Element) (y : List ℕ) → element_at e [] ≡ Some f → element_at e y ≡ element_at f y
from_itself e f y is =
    let both : Some e ≡ Some f = sym (at_itself e) ∙ is in
    let same : e ≡ f = cc both in
    ap (λ (v : Element). element_at v y) same

mutual
  element_then : (e : Element) (z y : List ℕ) {f : Element} → element_at e z ≡ Some f
      → element_at e (z ++ y) ≡ element_at f y
  element_then (Text folds t) [] y {f = f} is = from_itself (Text folds t) f y is
  element_then (Text folds t) (i ∷ z) y is = absurd (cc is)
  element_then (Values vs) [] y {f = f} is = from_itself (Values vs) f y is
  element_then (Values vs) (i ∷ z) y is = absurd (cc is)
  element_then (Range low high) [] y {f = f} is = from_itself (Range low high) f y is
  element_then (Range low high) (i ∷ z) y is = absurd (cc is)
  element_then (Concat es) [] y {f = f} is = from_itself (Concat es) f y is
  element_then (Concat es) (i ∷ z) y is = member_then es i z y is
  element_then (Alt es) [] y {f = f} is = from_itself (Alt es) f y is
  element_then (Alt es) (i ∷ z) y is = member_then es i z y is
  element_then (Rep a b e) [] y {f = f} is = from_itself (Rep a b e) f y is
  element_then (Rep a b e) (i ∷ z) y is = element_then e z y is
  element_then (Opt e) [] y {f = f} is = from_itself (Opt e) f y is
  element_then (Opt e) (i ∷ z) y is = element_then e z y is
  element_then (Name n) [] y {f = f} is = from_itself (Name n) f y is
  element_then (Name n) (i ∷ z) y is = absurd (cc is)
  element_then (Prose t) [] y {f = f} is = from_itself (Prose t) f y is
  element_then (Prose t) (i ∷ z) y is = absurd (cc is)

  member_then : (es : Elements) (i : ℕ) (z y : List ℕ) {f : Element} → member_at es i z ≡ Some f
      → member_at es i (z ++ y) ≡ element_at f y
  member_then none i z y is = absurd (cc is)
  member_then (more e es) zero z y is = element_then e z y is
  member_then (more e es) (suc i) z y is = member_then es i z y is

all_both : {A : Type 0} (P : A → Type 0) (xs ys : List A) → AllByRecursion P xs → AllByRecursion P ys
    → AllByRecursion P (xs ++ ys)
all_both P [] ys h g = g
all_both P (x ∷ xs) ys h g = (h.0, all_both P xs ys h.1 g)

module _ (rules : List Rule) where
  placed_reads : (rule : ℕ) (site : List ℕ) (e body : Element) → slice_get (bodies rules) rule ≡ Some body
      → element_at body site ≡ Some e → (ks : List ℕ) → AllByRecursion (IsPlaced rules)
      (map (λ k. record { rule = rule; site = site; element = e; read = k }) ks)
  placed_reads rule site e body is there [] = tt
  placed_reads rule site e body is there (k ∷ ks) =
      (record { body = body; body_is = is; there = there }, placed_reads rule site e body is there ks)

  mutual
    placed_in : (e : Element) (rule : ℕ) (site : List ℕ) (body : Element) → slice_get (bodies rules) rule ≡ Some body
        → element_at body site ≡ Some e → AllByRecursion (IsPlaced rules) (parts_in rule site e)
    placed_in (Text folds t) rule site body is there =
        placed_reads rule site (Text folds t) body is there (counts 0 (length t))
    placed_in (Values vs) rule site body is there =
        placed_reads rule site (Values vs) body is there (counts 0 (length vs))
    placed_in (Range low high) rule site body is there =
        placed_reads rule site (Range low high) body is there (counts 0 1)
    placed_in (Concat es) rule site body is there = placed_operands es rule site 0 body is (λ k.
        let same : 0 + k ≡ k = omega arith in
        sym (ap (λ (v : ℕ). element_at body (site ++ v ∷ [])) same ∙ element_then body site (k ∷ []) there))
    placed_in (Alt es) rule site body is there = placed_operands es rule site 0 body is (λ k.
        let same : 0 + k ≡ k = omega arith in
        sym (ap (λ (v : ℕ). element_at body (site ++ v ∷ [])) same ∙ element_then body site (k ∷ []) there))
    placed_in (Rep a b e) rule site body is there = placed_in e rule (site ++ 0 ∷ []) body is
        (element_then body site (0 ∷ []) there ∙ at_itself e)
    placed_in (Opt e) rule site body is there = placed_in e rule (site ++ 0 ∷ []) body is
        (element_then body site (0 ∷ []) there ∙ at_itself e)
    placed_in (Name n) rule site body is there = placed_reads rule site (Name n) body is there (counts 0 1)
    placed_in (Prose t) rule site body is there = tt

    placed_operands : (es : Elements) (rule : ℕ) (site : List ℕ) (i : ℕ) (body : Element)
        → slice_get (bodies rules) rule ≡ Some body
        → ((k : ℕ) → member_at es k [] ≡ element_at body (site ++ (i + k) ∷ []))
        → AllByRecursion (IsPlaced rules) (operands_in rule site i es)
    placed_operands none rule site i body is there = tt
    placed_operands (more e es) rule site i body is there =
        let first : i + 0 ≡ i = omega arith in
        all_both (IsPlaced rules) (parts_in rule (site ++ i ∷ []) e) (operands_in rule site (i + 1) es)
        (placed_in e rule (site ++ i ∷ []) body is
        (sym (there 0 ∙ ap (λ (v : ℕ). element_at body (site ++ v ∷ [])) first) ∙ at_itself e))
        (placed_operands es rule site (i + 1) body is (λ k.
        let next : i + suc k ≡ i + 1 + k = omega arith in
        there (suc k) ∙ ap (λ (v : ℕ). element_at body (site ++ v ∷ [])) next))

  pub placed_from : (left : List Rule) (id : ℕ) → ((k : ℕ) (body : Element) → slice_get (bodies left) k ≡ Some body
      → slice_get (bodies rules) (id + k) ≡ Some body) → AllByRecursion (IsPlaced rules) (parts_from id left)
  placed_from [] id there = tt
  placed_from (r ∷ left) id there =
      let first : id + 0 ≡ id = omega arith in
      all_both (IsPlaced rules) (parts_in id [] r.body) (parts_from (id + 1) left)
      (placed_in r.body id [] r.body
      (subst (λ (v : ℕ). slice_get (bodies rules) v ≡ Some r.body) first (there 0 r.body refl)) (at_itself r.body))
      (placed_from left (id + 1) (λ k body is.
      let next : id + suc k ≡ id + 1 + k = omega arith in
      subst (λ (v : ℕ). slice_get (bodies rules) v ≡ Some body) next (there (suc k) body is)))

  pub all_placed : AllByRecursion (IsPlaced rules) (parts_from 0 rules)
  all_placed = placed_from rules 0 (λ k body is.
      let same : k ≡ 0 + k = omega arith in
      subst (λ (v : ℕ). slice_get (bodies rules) v ≡ Some body) same is)
