-- The body with which a definition begins a rule.
-- Serves: read_abnf, begun_body
use Rattle.std.proofs.Common.{◌≡◌, ℕ, ◌<◌, Bool, true, false, cond, ◌&&◌, Option, Some, None, List, [], ◌∷◌, ◌++◌}
use Rattle.std.proofs.Common.{length, position, nat_lt, suc, ◌+◌, refl, sym, ap, ◌∙◌, arith}
use Rattle.std.specs.List.{position_or_len}
use Rattle.std.specs.Prelude.{slice_get}
use Rattle.std.proofs.lemmas.Bool.Decides.{nat_tests}
use Rattle.std.proofs.lemmas.List.{map-append}
use Rattle.std.proofs.lemmas.List.Quantifiers.{position-Some}
use Rattle.ruletable.specs.Rules as table
use Rattle.ruletable.specs.Rules.{find_in, same_name}
use Rattle.ruletable.specs.declared.table.NameCase.TheVariants.{Fold}
use Rattle.abnfread.specs.declared.elem.Elem.{Elem}
use Rattle.abnfread.specs.declared.definition.Definition.{Definition as CodeDefinition}
use Rattle.abnfread.specs.AbnfTable.{with_alternatives, IsBegun, IsCoreTable, IsFirstBody}
use Rattle.abnfread.specs.CoreRules.{nowhere, core_list, core_bodies}
use Rattle.abnfread.specs.Element.{Element, Elements, Prose, Rule, none, more, append, bodies, body_of}
use Rattle.abnfread.specs.AbnfViews.{definition_from, element_of, elements_of, rule_of, rules_of}
use Rattle.abnfread.proofs.AbnfMachineLemmas.{append_assoc}
use Rattle.abnfread.proofs.CoreRuleLemmas.{found-in}
use Rattle.abnfread.proofs.ElementListLemmas.{elements_of-push}

abbrev positions : List ℕ → List Rule → Option ℕ
positions n rules = position (λ (rule : Rule). same_name Fold n rule.name) rules

core-position : (core : table.Rules Elem) (n : List ℕ) (o : Option ℕ) → IsCoreTable core → find_in core n ≡ o
    → positions n core_list ≡ o
core-position core n o c h = sym (found-in core n c.names ∙ ap (positions n) c.listed) ∙ h

abbrev body_by : List Element → Option ℕ → Option Element
body_by es o = elim o [ None ↦ None | Some id ↦ slice_get es id ]

some-less : (n : ℕ) → nat_lt 0 (suc n) ≡ true
some-less n = grind (arith, nat_tests)

one-less : (k n : ℕ) (b : Bool) → nat_lt k n ≡ b → nat_lt (1 + k) (suc n) ≡ b
one-less k n true h = grind (arith, nat_tests)
one-less k n false h = grind (arith, nat_tests)

-- the body of the first rule that passes a test is the one at that rule's position
module _ (p : Rule → Bool) (found : List Rule → Option Element) (none : found [] ≡ None)
    (step : (rule : Rule) (rules : List Rule) → found (rule ∷ rules) ≡ cond (p rule) (Some rule.body) (found rules))
  where
    next-there : (rule : Rule) (rules : List Rule) (b : Bool) → p rule ≡ b
        → found rules ≡ body_by (bodies rules) (position p rules)
        → cond b (Some rule.body) (found rules) ≡ body_by (bodies (rule ∷ rules)) (position p (rule ∷ rules))
    next-there rule rules true e h =
        rw e (sym (ap (λ (b : Bool). body_by (bodies (rule ∷ rules)) (cond b (Some 0) None))
        (some-less (length rules))))
    next-there rule rules false e h =
        rw e (h ∙ later (1 + count) (omega arith) (nat_lt count (length rules))
        ∙ ap (λ (b : Bool). body_by (bodies (rule ∷ rules)) (cond b (Some (1 + count)) None))
        (sym (one-less count (length rules) (nat_lt count (length rules)) refl)))
      where
        count : ℕ
        count = position_or_len p rules

        later : (k : ℕ) → k ≡ suc count → (b : Bool) → body_by (bodies rules) (cond b (Some count) None)
            ≡ body_by (bodies (rule ∷ rules)) (cond b (Some k) None)
        later k e true = rw e refl
        later k e false = refl

    found-there : (rules : List Rule) → found rules ≡ body_by (bodies rules) (position p rules)
    found-there [] = none
    found-there (rule ∷ rules) = step rule rules ∙ next-there rule rules (p rule) refl (found-there rules)

body-there : (n : List ℕ) (rules : List Rule) → body_of rules n ≡ body_by (bodies rules) (positions n rules)
body-there n = found-there (λ rule. same_name Fold n rule.name) (λ rules. body_of rules n) refl (λ rule rules. refl)

core-body : (core : table.Rules Elem) (n : List ℕ) (o : Option ℕ) → IsCoreTable core → find_in core n ≡ o
    → body_of core_list n ≡ body_by core_bodies o
core-body core n o c h = body-there n core_list ∙ ap (body_by core_bodies) (core-position core n o c h)

pub core-within : (core : table.Rules Elem) (n : List ℕ) (id : ℕ) → IsCoreTable core → find_in core n ≡ Some id
    → id < 16
core-within core n id c h = (position-Some (λ (rule : Rule). same_name Fold n rule.name) core_list id
    (record { name = []; body = Prose []; span = nowhere }) (core-position core n (Some id) c h)).0

module _ (d : CodeDefinition) where
  abbrev name_of : List ℕ
  name_of = d.name.now

  abbrev added_by : Option Element → Element
  added_by o = elim o [ None ↦ element_of d.body | Some c ↦ with_alternatives c (element_of d.body) ]

  abbrev early_by : Option Element → Bool
  early_by o = elim o [ None ↦ true | Some c ↦ false ]

  first-plain : d.adds ≡ false → IsFirstBody (definition_from d) d.body false
  first-plain e = (
    sym (ap (λ (b : Bool). cond b (added_by (body_of core_list name_of)) (element_of d.body)) e),
    sym (ap (λ (b : Bool). b && early_by (body_of core_list name_of)) e),
  )

  first-by : (o : Option Element) (e : Elem) (early : Bool) → d.adds ≡ true → body_of core_list name_of ≡ o
      → element_of e ≡ added_by o → early ≡ early_by o → IsFirstBody (definition_from d) e early
  first-by o e early a h x y = (
    x ∙ sym (ap added_by h) ∙ sym (ap (λ (b : Bool). cond b (added_by (body_of core_list name_of))
        (element_of d.body)) a),
    y ∙ sym (ap early_by h) ∙ sym (ap (λ (b : Bool). b && early_by (body_of core_list name_of)) a),
  )

  pub first-core : (core : table.Rules Elem) (id : ℕ) (c e : Elem) → IsCoreTable core → d.adds ≡ true
      → find_in core name_of ≡ Some id → slice_get core_bodies id ≡ Some (element_of c)
      → element_of e ≡ with_alternatives (element_of c) (element_of d.body) →
      IsFirstBody (definition_from d) e false
  first-core core id c e k a h s j = first-by (Some (element_of c)) e false a (core-body core name_of (Some id) k h ∙ s)
      j refl

  pub first-new : (core : table.Rules Elem) → IsCoreTable core → d.adds ≡ true → find_in core name_of ≡ None
      → IsFirstBody (definition_from d) d.body true
  first-new core k a h = first-by None d.body true a (core-body core name_of None k h) refl refl

  -- a definition by `=` begins its rule with its body
  pub begun-plain : (old new : table.Rules Elem) → d.adds ≡ false → new ≡ record {
    names = old.names;
    rules = old.rules ++ record { name = name_of; body = d.body; span = d.span } ∷ [];
  } → IsBegun (definition_from d) old new false
  begun-plain old new a is =
      let plain = first-plain a in
      record {
        names = ap (λ (t : table.Rules Elem). t.names) is;
        rules = ap rules_of is
            ∙ map-append rule_of old.rules (record { name = name_of; body = d.body; span = d.span } ∷ [])
            ∙ ap (λ (e : Element). rules_of old ++ record { name = name_of; body = e; span = d.span } ∷ []) plain.0;
        is = plain.1;
      }

-- one alternative more
pub one-joined : (all new rest left : List Elem) (e : Elem) (whole : Elements)
    → append (elements_of all) (elements_of left) ≡ whole → left ≡ e ∷ rest → new ≡ all ++ e ∷ []
    → append (elements_of new) (elements_of rest) ≡ whole
one-joined all new rest left e whole h p q =
    ap (λ (xs : Elements). append xs (elements_of rest)) (elements_of-push all new e q)
    ∙ append_assoc (elements_of all) (more (element_of e) none) (elements_of rest)
    ∙ ap (λ (xs : List Elem). append (elements_of all) (elements_of xs)) (sym p) ∙ h

pub length-none : {X : Type 0} (xs : List X) → length xs ≡ 0 → xs ≡ []
length-none [] e = refl
length-none (x ∷ xs) e = absurd (omega (arith, e))
