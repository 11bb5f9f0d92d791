-- A table of the same names with what is left of the bodies, rule by rule.
-- Serves: lower_viable.
use Rattle.std.proofs.Common.{◌≡◌, ℕ, zero, suc, ◌+◌, ⊎_elim, Bool, cond, List, [], ◌∷◌, ◌++◌, length, map, take, Some}
use Rattle.std.proofs.Common.{refl, sym, ◌∙◌, ap, subst, arith}
use Rattle.std.specs.Prelude.{slice_get}
use Rattle.std.proofs.lemmas.List.{length-map, length-take-le, map-append, take_all}
use Rattle.ruletable.specs.Rules as table
use Rattle.ruletable.specs.Rules.{names_of, bodies_of, spans_of, same_name, HasUniqueNames, Defines}
use Rattle.ruletable.specs.declared.table.Defined.{Defined}
use Rattle.ruletable.specs.declared.table.Defined.TheVariants.{Added, Duplicate}
use Rattle.ruletable.specs.declared.table.NameCase.TheVariants.{Fold}
use Rattle.abnfread.specs.Element.{Element, bodies, id_of}
use Rattle.abnfread.specs.AbnfViews.{element_of, rule_of, rules_of}
use Rattle.abnfread.specs.declared.elem.Elem.{Elem}
use Rattle.fixpoint.proofs.IsAddedLemmas.{name_next}
use Rattle.flatgrammar.proofs.SliceGetLemmas.{get_below}
use Rattle.flatgrammar.proofs.SliceGetLemmas.{push_cases}
use Rattle.lowering.specs.Pruned.{IsLeftBody, ArePruned}
use Rattle.lowering.proofs.FlatCutLemmas.{body_at}

-- the first i rules
pub record IsPruning (has : ℕ → Bool) (rules left : table.Rules Elem) (i : ℕ) : Type 0 where
  pub folds : left.names ≡ Fold
  pub names : names_of left ≡ take i (names_of rules)
  pub spans : spans_of left ≡ take i (spans_of rules)
  pub left_of : (id : ℕ) (e d : Element) → slice_get (bodies (rules_of rules)) id ≡ Some e
      → slice_get (bodies (rules_of left)) id ≡ Some d →
      IsLeftBody has (rules_of rules) e d

pub none_pruned : (has : ℕ → Bool) (rules left : table.Rules Elem) → left.names ≡ Fold → left.rules ≡ []
    → IsPruning has rules left 0
none_pruned has rules left folds none = record {
  folds = folds;
  names = ap (map (λ (rule : table.Rule Elem). rule.name)) none;
  spans = ap (map (λ (rule : table.Rule Elem). rule.span)) none;
  left_of = λ id e d was is. absurd (let empty : slice_get (bodies (map rule_of [])) id ≡ Some d =
      subst (λ v. slice_get (bodies (map rule_of v)) id ≡ Some d) none is in cc empty);
}

bodies_push : (rules : List (table.Rule Elem)) (rule : table.Rule Elem) →
    bodies (map rule_of (rules ++ rule ∷ [])) ≡ bodies (map rule_of rules) ++ element_of rule.body ∷ []
bodies_push [] rule = refl
bodies_push (first ∷ rules) rule = ap (λ v. element_of first.body ∷ v) (bodies_push rules rule)

many_bodies : (rules : List (table.Rule Elem)) → length (bodies (map rule_of rules))
    ≡ length (map (λ rule. rule.name) rules)
many_bodies [] = refl
many_bodies (rule ∷ rules) = ap suc (many_bodies rules)

taken_push : {A : Type 0} (ys : List A) (i : ℕ) (a : A) → slice_get ys i ≡ Some a
    → take i ys ++ a ∷ [] ≡ take (i + 1) ys
taken_push [] i a h = absurd (cc h)
taken_push (y ∷ ys) zero a h = let same : a ≡ y = cc h in ap (λ v. v ∷ []) same
taken_push (y ∷ ys) (suc i) a h =
    let on : suc (i + 1) ≡ suc i + 1 = omega arith in
    ap (λ v. y ∷ v) (taken_push ys i a h) ∙ ap (λ k. take k (y ∷ ys)) on

spans_same : (rs : List (table.Rule Elem)) → map (λ rule. rule.span) (map rule_of rs) ≡ map (λ rule. rule.span) rs
spans_same [] = refl
spans_same (r ∷ rs) = ap (λ v. r.span ∷ v) (spans_same rs)

names_same : (rs : List (table.Rule Elem)) → map (λ rule. rule.name) (map rule_of rs) ≡ map (λ rule. rule.name) rs
names_same [] = refl
names_same (r ∷ rs) = ap (λ v. r.name ∷ v) (names_same rs)

pub next_pruned : (has : ℕ → Bool) (rules old new : table.Rules Elem) (i : ℕ) (rule : table.Rule Elem) (b : Elem)
    (done : Defined) →
    HasUniqueNames rules → rules.names ≡ Fold →
    IsPruning has rules old i → slice_get (names_of rules) i ≡ Some rule.name → slice_get (bodies_of rules) i ≡ Some b →
    slice_get (spans_of rules) i ≡ Some rule.span →
    IsLeftBody has (rules_of rules) (element_of b) (element_of rule.body) → Defines old new rule done
    → IsPruning has rules new (i + 1)
next_pruned has rules old new i rule b done unique folds o name_at body_is span_at is_left d = record {
  folds = next.0;
  names = next.1;
  spans = spans_next done d;
  left_of = λ id e l was is. by done d id e l was is;
}
  where
    next : (new.names ≡ Fold) × (names_of new ≡ take (i + 1) (names_of rules))
    next = name_next rules unique Fold folds old new i rule done o.folds o.names name_at d

    long : length (names_of old) ≡ i
    long = let lt = get_below (names_of rules) i name_at in ap length o.names
        ∙ length-take-le i (names_of rules) (omega (arith, lt))

    not_kept : new ≡ old → ⊥
    not_kept same =
        let lt = get_below (names_of rules) i name_at in
        let more = ap length next.1 ∙ length-take-le (i + 1) (names_of rules) (omega (arith, lt)) in
        let as_long : length (names_of new) ≡ length (names_of old) = ap (λ (t : table.Rules Elem). length (names_of t))
        same in
        absurd (omega (arith, more, as_long, long))

    spans_next : (done : Defined) → Defines old new rule done → spans_of new ≡ take (i + 1) (spans_of rules)
    spans_next (Added n) added =
        ap (λ (t : table.Rules Elem). spans_of t) added.2 ∙ map-append (λ r. r.span) old.rules (rule ∷ [])
        ∙ ap (λ v. v ++ rule.span ∷ []) o.spans ∙ taken_push (spans_of rules) i rule.span span_at
    spans_next (Duplicate n) kept = absurd (not_kept kept.1)

    by : (done : Defined) → Defines old new rule done → (id : ℕ) (e l : Element)
        → slice_get (bodies (rules_of rules)) id ≡ Some e →
        slice_get (bodies (rules_of new)) id ≡ Some l →
        IsLeftBody has (rules_of rules) e l
    by (Added n) added id e l was is = ⊎_elim
        (λ earlier. o.left_of id e l was earlier)
        (λ last.
        let here : id ≡ i = last.0 ∙ many_bodies old.rules ∙ long in
        let same : element_of b ≡ e = some_same (sym (body_at rules.rules i b body_is)
        ∙ ap (λ v. slice_get (bodies (rules_of rules)) v) (sym here) ∙ was) in
        subst (λ v. IsLeftBody has (rules_of rules) e v) last.1
        (subst (λ v. IsLeftBody has (rules_of rules) v (element_of rule.body)) same is_left))
        (push_cases (bodies (rules_of old)) (element_of rule.body) id l
        (subst (λ v. slice_get v id ≡ Some l) (ap (λ (t : table.Rules Elem). bodies (rules_of t)) added.2
        ∙ bodies_push old.rules rule) is))
      where
        some_same : {a c : Element} → Some a ≡ Some c → a ≡ c
        some_same h = cc h
    by (Duplicate n) kept id e l was is = absurd (not_kept kept.1)

same_ids : (rules left : List (table.Rule Elem)) → map (λ rule. rule.name) left ≡ map (λ rule. rule.name) rules
    → (n : List ℕ) →
    id_of (map rule_of left) n ≡ id_of (map rule_of rules) n
same_ids [] [] same n = refl
same_ids [] (l ∷ left) same n = absurd (cc same)
same_ids (rule ∷ rules) [] same n = absurd (cc same)
same_ids (rule ∷ rules) (l ∷ left) same n =
    let first : l.name ≡ rule.name = cc same in
    let rest : map (λ (rule : table.Rule Elem). rule.name) left ≡ map (λ (rule : table.Rule Elem). rule.name) rules =
    cc same in
    ap (λ v. cond (same_name Fold n v) 0 (id_of (map rule_of left) n + 1)) first
    ∙ ap (λ v. cond (same_name Fold n rule.name) 0 (v + 1)) (same_ids rules left rest n)

pub all_pruned : (has : ℕ → Bool) (rules left : table.Rules Elem) (i : ℕ) → IsPruning has rules left i
    → i ≡ length rules.rules →
    ArePruned has (rules_of rules) (rules_of left)
all_pruned has rules left i p all = record {
  count = count;
  names = names_same left.rules ∙ same ∙ sym (names_same rules.rules);
  spans = spans_same left.rules ∙ p.spans ∙ take_all i (spans_of rules) (
      let long = length-map rules.rules (λ rule. rule.span) in
      omega (arith, long, all))
      ∙ sym (spans_same rules.rules);
  ids = same_ids rules.rules left.rules same;
  left_of = p.left_of;
}
  where
    same : names_of left ≡ names_of rules
    same = p.names ∙ take_all i (names_of rules) (let long = length-map rules.rules (λ rule. rule.name) in
        omega (arith, long, all))

    count : length (rules_of left) ≡ length (rules_of rules)
    count =
        length-map left.rules rule_of ∙ sym (length-map left.rules (λ rule. rule.name)) ∙ ap length same
        ∙ length-map rules.rules (λ rule. rule.name) ∙ sym (length-map rules.rules rule_of)
