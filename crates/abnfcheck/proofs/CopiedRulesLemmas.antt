-- A table of copies, with one rule more.
-- Serves: copied_rules, reached_grammar
use Rattle.std.proofs.Common.{◌≡◌, ◌∙◌, ap, refl, sym, ℕ, zero, suc, ◌+◌, ◌<◌, List, [], ◌∷◌, ◌++◌, arith, length, take}
use Rattle.std.proofs.Common.{add-one, ap₂, get_or}
use Rattle.std.proofs.Math.Seq.{take-suc}
use Rattle.std.proofs.lemmas.List.{length-take, map-append}
use Rattle.std.proofs.lemmas.Option.{get_or_from_slice_get, slice_get_within}
use Rattle.std.specs.Prelude.{Some, map, slice_get}
use Rattle.abnfread.proofs.ElementListLemmas.{elements_of-push}
use Rattle.abnfread.specs.AbnfMachine.{snoc}
use Rattle.abnfread.specs.AbnfViews.{element_of, elements_of, rule_of, rules_of}
use Rattle.abnfread.specs.Element.{Rule}
use Rattle.abnfread.specs.declared.elem.Elem.{Elem}
use Rattle.fixpoint.proofs.IsAddedLemmas.{name_next}
use Rattle.ruletable.specs.Rules as table
use Rattle.ruletable.specs.Rules.{Defines, HasUniqueNames, Rules, bodies_of, names_of, spans_of}
use Rattle.ruletable.specs.declared.span.Span.{Span}
use Rattle.ruletable.specs.declared.table.Defined.{Defined}
use Rattle.ruletable.specs.declared.table.Defined.TheVariants.{Added, Duplicate}
use Rattle.ruletable.specs.declared.table.NameCase.TheVariants.{Fold}

-- one copy more
pub copies_more : (copies new members : List Elem) (i : ℕ) (copy member : Elem) → new ≡ copies ++ copy ∷ []
    → elements_of copies ≡ elements_of (take i members) → i < length members → member ≡ get_or members i member
    → element_of copy ≡ element_of member → elements_of new ≡ elements_of (take (i + 1) members)
copies_more copies new members i copy member pushed so_far lt at same =
    let taken : take (i + 1) members ≡ take i members ++ member ∷ [] =
    ap (λ (k : ℕ). take k members) (add-one i) ∙ (take-suc members i member lt
    ∙ ap (λ (x : Elem). take i members ++ x ∷ []) (sym at)) in
    elements_of-push copies new copy pushed ∙ (ap₂ snoc so_far same
    ∙ sym (elements_of-push (take i members) (take (i + 1) members) member taken))

-- a copy of a rule
abbrev pub copy_of : List ℕ → Elem → Span → table.Rule Elem
copy_of name body span = record { name = name; body = body; span = span }

rule_there : (rules : List (table.Rule Elem)) (id : ℕ) (name : List ℕ) (body copy : Elem) (span : Span)
    → slice_get (map (λ (rule : table.Rule Elem). rule.name) rules) id ≡ Some name
    → slice_get (map (λ (rule : table.Rule Elem). rule.body) rules) id ≡ Some body
    → slice_get (map (λ (rule : table.Rule Elem). rule.span) rules) id ≡ Some span
    → element_of copy ≡ element_of body
    → slice_get (map rule_of rules) id ≡ Some (rule_of (copy_of name copy span))
rule_there [] id name body copy span n b s same = absurd (cc n)
rule_there (rule ∷ rules) zero name body copy span n b s same =
    let is_name : rule.name ≡ name = cc n in
    let is_body : rule.body ≡ body = cc b in
    let is_span : rule.span ≡ span = cc s in
    rw (sym is_name, sym is_span, same, sym is_body) refl
rule_there (rule ∷ rules) (suc id) name body copy span n b s same = rule_there rules id name body copy span n b s same

-- one rule more of some others
pub rule_onto : (others : List Rule) (t : Rules Elem) → HasUniqueNames t → t.names ≡ Fold → (copies new : Rules Elem)
    (id : ℕ) (name : List ℕ) (copy : Elem) (span : Span) (done : Defined) → copies.names ≡ Fold
    → names_of copies ≡ take id (names_of t) → rules_of copies ≡ take id others
    → slice_get (names_of t) id ≡ Some name → slice_get others id ≡ Some (rule_of (copy_of name copy span))
    → Defines copies new (copy_of name copy span) done
    → (new.names ≡ Fold) × (names_of new ≡ take (id + 1) (names_of t)) × (rules_of new ≡ take (id + 1) others)
rule_onto others t unique folds copies new id name copy span (Added k) same names so_far n at d =
    let next = name_next t unique Fold folds copies new id (copy_of name copy span) (Added k) same names n d in (
      next.0,
      next.1,
      ap rules_of d.2 ∙ map-append rule_of copies.rules (copy_of name copy span ∷ [])
          ∙ ap (λ (l : List Rule). l ++ rule_of (copy_of name copy span) ∷ []) so_far
          ∙ ap (λ (x : Rule). take id others ++ x ∷ [])
          (sym (get_or_from_slice_get others id _ (rule_of (copy_of name copy span)) at))
          ∙ sym (ap (λ (k : ℕ). take k others) (add-one id)
          ∙ take-suc others id (rule_of (copy_of name copy span)) (slice_get_within others id _ at)),
    )
rule_onto others t unique folds copies new id name copy span (Duplicate k) same names so_far n at d =
    let next = name_next t unique Fold folds copies new id (copy_of name copy span) (Duplicate k) same names n d in
    let below = slice_get_within (names_of t) id name n in
    let first = ap length (sym next.1 ∙ (ap names_of d.1 ∙ names)) in
    absurd (omega (arith, below, first, length-take id (names_of t), length-take (id + 1) (names_of t)))

pub rule_next : (t : Rules Elem) → HasUniqueNames t → t.names ≡ Fold → (copies new : Rules Elem) (id : ℕ)
    (name : List ℕ) (body copy : Elem) (span : Span) (done : Defined) → copies.names ≡ Fold
    → names_of copies ≡ take id (names_of t) → rules_of copies ≡ take id (rules_of t)
    → slice_get (names_of t) id ≡ Some name → slice_get (bodies_of t) id ≡ Some body
    → slice_get (spans_of t) id ≡ Some span → element_of copy ≡ element_of body
    → Defines copies new (copy_of name copy span) done
    → (new.names ≡ Fold) × (names_of new ≡ take (id + 1) (names_of t)) × (rules_of new ≡ take (id + 1) (rules_of t))
rule_next t unique folds copies new id name body copy span done same names so_far n b s is d =
    rule_onto (rules_of t) t unique folds copies new id name copy span done same names so_far n
    (rule_there t.rules id name body copy span n b s is) d
