-- Rules with factored choices derive the same lines, and a grammar of them is sound.
-- Serves: factored, all_factored, choice_of, factored_rules, factored_grammar
use Rattle.std.proofs.Common.{◌≡◌, ◌∙◌, ◌↔◌, ◌⊎◌, inl, inr, ⊎_elim, ap, refl, sym, subst, arith, ℕ, zero, suc, ◌+◌}
use Rattle.std.proofs.Common.{◌<◌, Bool, true, cond, List, [], ◌∷◌, ◌++◌, length, take, map, get_or, Option, Some, None}
use Rattle.std.proofs.Common.{Vec, Box, Global, not, false}
use Rattle.std.specs.Borrow.{Bor}
use Rattle.std.specs.Prelude.{slice_get, is_some, IfSome}
use Rattle.std.proofs.lemmas.Bool.{false≢true}
use mathlib.Core.Bool.{beq}
use Rattle.std.proofs.lemmas.List.{length-take-le, map-append, take_more}
use Rattle.std.proofs.lemmas.Option.{get_or_from_slice_get, slice_get_within}
use Rattle.ruletable.specs.Rules as table
use Rattle.ruletable.specs.Rules.{Defines, HasUniqueNames, Rules, bodies_of, names_of, same_name}
use Rattle.ruletable.specs.declared.span.Span.{Span}
use Rattle.ruletable.specs.declared.table.Defined.{Defined}
use Rattle.ruletable.specs.declared.table.Defined.TheVariants.{Added, Duplicate}
use Rattle.ruletable.specs.declared.table.NameCase.TheVariants.{Fold}
use Rattle.fixpoint.proofs.IsAddedLemmas.{name_next}
use Rattle.abnfread.proofs.ElementLemmas.{element-Alt, element-Concat, element-Name, element-Opt, element-Prose}
use Rattle.abnfread.proofs.ElementLemmas.{element-Range, element-Rep, element-Text, element-Values}
use Rattle.abnfread.proofs.ElementListLemmas.{elements_of-pair, elements_of-push}
use Rattle.abnfread.specs.AbnfMachine.{snoc}
use Rattle.abnfread.specs.AbnfViews.{element_of, elements_of, rule_of, rules_of}
use Rattle.abnfread.specs.Element.{Alt, Element, Elements, Rule, Text, bodies, body_of, id_of, more, none}
use Rattle.abnfread.specs.declared.elem.Elem.{Elem}
use Rattle.abnfread.specs.declared.elem.Elem.TheVariants as code
use Rattle.abnfcheck.proofs.RuleIdLemmas.{body_at_id}
use Rattle.abnfcheck.specs.AbnfGrammar.{IsSound, Reachable, Within, WithinSome, by_name, itself, judged_rule, of_alt}
use Rattle.abnfcheck.specs.AbnfGrammar.{of_concat, of_first, of_later, of_opt, of_rep}
use Rattle.abnfcheck.specs.Derivable as d
use Rattle.abnfcheck.specs.Derivable.{Derives, DerivesAll, DerivesSome, DerivesTimes, RuleDerives}
use Rattle.abnfrun.specs.FactoredChoices as f
use Rattle.abnfrun.specs.FactoredChoices.{AreFactored, AreFactoredRules, DerivesThese, IsFactored, IsNameOrProse}
use Rattle.abnfrun.specs.FactoredChoices.{IsTextOf, SpellsSome, a_name, first_text, is_text, later_text, no_rules}
use Rattle.abnfrun.specs.FactoredChoices.{rule_more, some_prose}

-- the spelling of a text of that kind, if there is a kind
data Left : Option Bool → Elements → List ℕ → Type 0 where
  left_text : {folds : Bool} {es : Elements} {w : List ℕ} → SpellsSome folds es w → Left (Some folds) es w

left_here : {has : ℕ → Bool} {rules : List Rule} {kind : Option Bool} {e : Element} {es : Elements} {t w : List ℕ}
    → IsTextOf kind e t → Derives has rules e w → Left kind (more e es) w
left_here is_text (d.text s) = left_text (first_text s)

left_later : {kind : Option Bool} {e : Element} {es : Elements} {w : List ℕ} → Left kind es w → Left kind (more e es) w
left_later (left_text s) = left_text (later_text s)

spelled_of : {folds : Bool} {es : Elements} {w : List ℕ} → Left (Some folds) es w → SpellsSome folds es w
spelled_of (left_text s) = s

some_of : {has : ℕ → Bool} {rules : List Rule} {folds : Bool} {es : Elements} {w : List ℕ} → SpellsSome folds es w
    → DerivesSome has rules es w
some_of (first_text s) = d.this (d.text s)
some_of (later_text s) = d.later (some_of s)

-- an alternative, and the one that its copy comes from
data In : Element → Elements → Type 0 where
  here : {e : Element} {es : Elements} → In e (more e es)
  there : {e x : Element} {es : Elements} → In e es → In e (more x es)

abbrev Origin : Elements → Element → Type 0
Origin es copy = (e : Element) × In e es × IsFactored e copy

origin_of : {kind : Option Bool} {es ds : Elements} {copy : Element} → AreFactored kind es ds → In copy ds
    → Origin es copy
origin_of (f.kept {e = e} is rest) here = (e, here, is)
origin_of (f.kept is rest) (there i) = let o = origin_of rest i in (o.0, there o.1, o.2)
origin_of (f.left text rest) i = let o = origin_of rest i in (o.0, there o.1, o.2)
origin_of f.nothing i = elim i [ ]

some_at : {has : ℕ → Bool} {rules : List Rule} {e : Element} {es : Elements} {w : List ℕ} → In e es
    → Derives has rules e w → DerivesSome has rules es w
some_at here one = d.this one
some_at (there i) one = d.later (some_at i one)

-- rules of the same names, with such bodies
ids_factored : {rules new : List Rule} → AreFactoredRules rules new → (name : List ℕ)
    → id_of new name ≡ id_of rules name
ids_factored no_rules name = refl
ids_factored (rule_more {a = a} {ys = ys} same is rest) name =
    ap (λ (n : List ℕ). cond (same_name Fold name n) 0 (id_of ys name + 1)) (sym same)
    ∙ ap (λ (k : ℕ). cond (same_name Fold name a.name) 0 (k + 1)) (ids_factored rest name)

pub count_factored : {rules new : List Rule} → AreFactoredRules rules new → length new ≡ length rules
count_factored no_rules = refl
count_factored (rule_more same is rest) = let count = count_factored rest in omega (arith, count)

body_there : {rules new : List Rule} → AreFactoredRules rules new → (id : ℕ) (e : Element)
    → slice_get (bodies rules) id ≡ Some e
    → (copy : Element) × (slice_get (bodies new) id ≡ Some copy) × IsFactored e copy
body_there no_rules id e at = absurd (cc at)
body_there (rule_more {a = a} {b = b} same is rest) zero e at =
    let first : a.body ≡ e = cc at in (b.body, refl, subst (λ v. IsFactored v b.body) first is)
body_there (rule_more same is rest) (suc id) e at = body_there rest id e at

body_back : {rules new : List Rule} → AreFactoredRules rules new → (id : ℕ) (copy : Element)
    → slice_get (bodies new) id ≡ Some copy → (e : Element) × (slice_get (bodies rules) id ≡ Some e) × IsFactored e copy
body_back no_rules id copy at = absurd (cc at)
body_back (rule_more {a = a} {b = b} same is rest) zero copy at =
    let first : b.body ≡ copy = cc at in (a.body, refl, subst (λ v. IsFactored a.body v) first is)
body_back (rule_more same is rest) (suc id) copy at = body_back rest id copy at

module _ (has : ℕ → Bool) (rules new : List Rule) (are : AreFactoredRules rules new) where
  named_there : (n : List ℕ) (e : Element) → body_of rules n ≡ Some e
      → (copy : Element) × (body_of new n ≡ Some copy) × IsFactored e copy
  named_there n e is =
      let at = body_there are (id_of rules n) e (sym (body_at_id rules n) ∙ is) in
      (at.0, body_at_id new n ∙ ap (λ (k : ℕ). slice_get (bodies new) k) (ids_factored are n) ∙ at.1, at.2)

  named_back : (n : List ℕ) (copy : Element) → body_of new n ≡ Some copy
      → (e : Element) × (body_of rules n ≡ Some e) × IsFactored e copy
  named_back n copy is =
      let at = body_back are (id_of rules n) copy
      (ap (λ (k : ℕ). slice_get (bodies new) k) (sym (ids_factored are n)) ∙ sym (body_at_id new n) ∙ is) in
      (at.0, body_at_id rules n ∙ at.1, at.2)

  mutual
    derives_factored : {e copy : Element} {w : List ℕ} → Derives has rules e w → IsFactored e copy
        → Derives has new copy w
    derives_factored (d.text s) f.text = d.text s
    derives_factored (d.values l) f.values = d.values l
    derives_factored (d.range l h is) f.range = d.range l h is
    derives_factored (d.concat all) (f.concat them) = d.concat (factor_all all them)
    derives_factored (d.alt some) (f.alt them) = d.alt (⊎_elim (λ one. one) (λ l. elim l [ ]) (factor_some some them))
    derives_factored {w = w} (d.alt some) (f.choice them made) = d.alt (⊎_elim (λ one. d.later (d.this (d.alt one)))
        (λ l. d.this ((made.derives has new w).1 (spelled_of l))) (factor_some some them))
    derives_factored (d.rep l most times) (f.rep is) = d.rep l most (factor_times times is)
    derives_factored d.opt_empty (f.opt is) = d.opt_empty
    derives_factored (d.opt one) (f.opt is) = d.opt (derives_factored one is)
    derives_factored (d.name {n = n} {e = e} at one) f.name =
        let copy = named_there n e at in d.name copy.1 (derives_factored one copy.2)

    factor_all : {es ds : Elements} {w : List ℕ} → DerivesAll has rules es w → AreFactored None es ds
        → DerivesAll has new ds w
    factor_all d.all_done f.nothing = d.all_done
    factor_all (d.then one rest) (f.kept is them) = d.then (derives_factored one is) (factor_all rest them)
    factor_all (d.then one rest) (f.left text them) = elim text [ ]

    factor_some : {kind : Option Bool} {es ds : Elements} {w : List ℕ} → DerivesSome has rules es w
        → AreFactored kind es ds → DerivesSome has new ds w ⊎ Left kind es w
    factor_some (d.this one) (f.kept is them) = inl (d.this (derives_factored one is))
    factor_some (d.this one) (f.left text them) = inr (left_here text one)
    factor_some (d.later some) (f.kept is them) =
        ⊎_elim (λ one. inl (d.later one)) (λ l. inr (left_later l)) (factor_some some them)
    factor_some (d.later some) (f.left text them) =
        ⊎_elim (λ one. inl one) (λ l. inr (left_later l)) (factor_some some them)

    factor_times : {e copy : Element} {k : ℕ} {w : List ℕ} → DerivesTimes has rules e k w → IsFactored e copy
        → DerivesTimes has new copy k w
    factor_times d.no_more is = d.no_more
    factor_times (d.one_more one rest) is = d.one_more (derives_factored one is) (factor_times rest is)

  mutual
    derives_back : {e copy : Element} {w : List ℕ} → IsFactored e copy → Derives has new copy w → Derives has rules e w
    derives_back f.text (d.text s) = d.text s
    derives_back f.values (d.values l) = d.values l
    derives_back f.range (d.range l h is) = d.range l h is
    derives_back (f.concat them) (d.concat all) = d.concat (back_all them all)
    derives_back (f.alt them) (d.alt some) = d.alt (back_some (λ x i. origin_of them i) some)
    derives_back (f.choice them made) (d.alt some) = d.alt (back_choice (λ x i. origin_of them i) made some)
    derives_back (f.rep is) (d.rep l most times) = d.rep l most (back_times is times)
    derives_back (f.opt is) d.opt_empty = d.opt_empty
    derives_back (f.opt is) (d.opt one) = d.opt (derives_back is one)
    derives_back f.name (d.name {n = n} {e = copy} at one) =
        let e = named_back n copy at in d.name e.1 (derives_back e.2 one)
    derives_back f.prose one = elim one [ ]

    back_all : {es ds : Elements} {w : List ℕ} → AreFactored None es ds → DerivesAll has new ds w
        → DerivesAll has rules es w
    back_all f.nothing d.all_done = d.all_done
    back_all (f.kept is them) (d.then one rest) = d.then (derives_back is one) (back_all them rest)
    back_all (f.left text them) all = elim text [ ]

    back_some : {es ds : Elements} {w : List ℕ} → ((copy : Element) → In copy ds → Origin es copy)
        → DerivesSome has new ds w → DerivesSome has rules es w
    back_some from (d.this {e = copy} one) = let o = from copy here in some_at o.1 (derives_back o.2 one)
    back_some from (d.later some) = back_some (λ copy i. from copy (there i)) some

    back_choice : {folds : Bool} {es ds : Elements} {made : Element} {w : List ℕ}
        → ((copy : Element) → In copy ds → Origin es copy) → DerivesThese (SpellsSome folds es) made
        → DerivesSome has new (more made (more (Alt ds) none)) w → DerivesSome has rules es w
    back_choice {w = w} from made (d.this one) = some_of ((made.derives has new w).0 one)
    back_choice from made (d.later (d.this (d.alt some))) = back_some from some
    back_choice from made (d.later (d.later some)) = elim some [ ]

    back_times : {e copy : Element} {k : ℕ} {w : List ℕ} → IsFactored e copy → DerivesTimes has new copy k w
        → DerivesTimes has rules e k w
    back_times is d.no_more = d.no_more
    back_times is (d.one_more one rest) = d.one_more (derives_back is one) (back_times is rest)

  pub lines_factored : (id : ℕ) (w : List ℕ) → RuleDerives has new id w ↔ RuleDerives has rules id w
  lines_factored id w = (
    λ derives. let e = body_back are id derives.body derives.is in
        record { body = e.0; is = e.1; derives = derives_back e.2 derives.derives },
    λ derives. let copy = body_there are id derives.body derives.is in
        record { body = copy.0; is = copy.1; derives = derives_factored derives.derives copy.2 },
  )

-- what stands in a copy stood in the element
mutual
  stands_within : {e copy x : Element} → IsFactored e copy → IsNameOrProse x → Within copy x → Within e x
  stands_within f.name leaf w = w
  stands_within f.prose leaf w = w
  stands_within f.text leaf w = w
  stands_within f.values leaf w = w
  stands_within f.range leaf w = w
  stands_within (f.concat them) leaf (of_concat w) = of_concat (within_some them leaf w)
  stands_within (f.concat them) leaf itself = elim leaf [ ]
  stands_within (f.alt them) leaf (of_alt w) = of_alt (within_some them leaf w)
  stands_within (f.alt them) leaf itself = elim leaf [ ]
  stands_within {x = x} (f.choice them made) leaf (of_alt (of_first w)) = absurd (made.plain x leaf w)
  stands_within (f.choice them made) leaf (of_alt (of_later (of_first (of_alt w)))) = of_alt (within_some them leaf w)
  stands_within (f.choice them made) leaf (of_alt (of_later (of_first itself))) = elim leaf [ ]
  stands_within (f.choice them made) leaf (of_alt (of_later (of_later w))) = elim w [ ]
  stands_within (f.choice them made) leaf itself = elim leaf [ ]
  stands_within (f.rep is) leaf (of_rep w) = of_rep (stands_within is leaf w)
  stands_within (f.rep is) leaf itself = elim leaf [ ]
  stands_within (f.opt is) leaf (of_opt w) = of_opt (stands_within is leaf w)
  stands_within (f.opt is) leaf itself = elim leaf [ ]

  within_some : {kind : Option Bool} {es ds : Elements} {x : Element} → AreFactored kind es ds → IsNameOrProse x
      → WithinSome ds x → WithinSome es x
  within_some f.nothing leaf w = elim w [ ]
  within_some (f.kept is them) leaf (of_first w) = of_first (stands_within is leaf w)
  within_some (f.kept is them) leaf (of_later w) = of_later (within_some them leaf w)
  within_some (f.left text them) leaf w = of_later (within_some them leaf w)

module _ (rules new : List Rule) (judged : ℕ) (are : AreFactoredRules rules new) where
  reach_back : {id : ℕ} → Reachable new judged id → Reachable rules judged id
  reach_back judged_rule = judged_rule
  reach_back (by_name {id = id} {body = copy} {name = name} r at w) =
      let e = body_back are id copy at in
      subst (λ v. Reachable rules judged v) (sym (ids_factored are name))
      (by_name (reach_back r) e.1 (stands_within e.2 a_name w))

  pub factored_sound : IsSound rules judged → IsSound new judged
  factored_sound sound = record {
    judged_is_rule = (let lt = sound.judged_is_rule in let size = count_factored are in omega (arith, lt, size));
    defined = λ id r.
        let lt = sound.defined id (reach_back r) in let size = count_factored are in omega (arith, lt, size);
    plain = λ id copy text r at w.
        let e = body_back are id copy at in
        sound.plain id e.0 text (reach_back r) e.1 (stands_within e.2 some_prose w);
  }

-- a text of the kind
same_kind : (a b : Bool) → beq a b ≡ true → a ≡ b
same_kind true true is = refl
same_kind true false is = absurd (cc is)
same_kind false true is = absurd (cc is)
same_kind false false is = refl

pub text_found : (e : Elem) (kind : Option Bool) (folds k : Bool) (text : Vec ℕ Global) (t : List ℕ)
    → e ≡ code.Text folds text → kind ≡ Some k → beq k folds ≡ true → t ≡ text.items → IsTextOf kind (element_of e) t
text_found e kind folds k text t at is same symbols =
    rw (is, at, element-Text folds text, symbols, same_kind k folds same) is_text

-- the copy of an element, by its variant
pub text_factored : (e made : Elem) (folds : Bool) (text : Vec ℕ Global) (t : List ℕ) → e ≡ code.Text folds text
    → element_of made ≡ Text folds t → t ≡ text.items → IsFactored (element_of e) (element_of made)
text_factored e made folds text t at is same = rw (at, element-Text folds text, is, same) f.text

pub values_factored : (e : Elem) (values copy : Vec ℕ Global) → e ≡ code.Values values → copy.items ≡ values.items
    → IsFactored (element_of e) (element_of (code.Values copy))
values_factored e values copy at same = rw (at, element-Values values, element-Values copy, same) f.values

pub range_factored : (e : Elem) (low high : ℕ) → e ≡ code.Range low high
    → IsFactored (element_of e) (element_of (code.Range low high))
range_factored e low high at = rw (at, element-Range low high) f.range

pub name_factored : (e : Elem) (name copy : Vec ℕ Global) → e ≡ code.Name name → copy.items ≡ name.items
    → IsFactored (element_of e) (element_of (code.Name copy))
name_factored e name copy at same = rw (at, element-Name name, element-Name copy, same) f.name

pub prose_factored : (e : Elem) (text copy : Vec ℕ Global) → e ≡ code.Prose text → copy.items ≡ text.items
    → IsFactored (element_of e) (element_of (code.Prose copy))
prose_factored e text copy at same = rw (at, element-Prose text, element-Prose copy, same) f.prose

pub concat_factored : (e : Elem) (members copies : Vec Elem Global) → e ≡ code.Concat members
    → AreFactored None (elements_of members.items) (elements_of copies.items)
    → IsFactored (element_of e) (element_of (code.Concat copies))
concat_factored e members copies at are =
    rw (at, element-Concat members, element-Concat copies) (f.concat are)

pub rep_factored : (e : Elem) (least : ℕ) (most : Option ℕ) (operand copy : Box Elem Global)
    → e ≡ code.Rep least most operand → IsFactored (element_of operand.value) (element_of copy.value)
    → IsFactored (element_of e) (element_of (code.Rep least most copy))
rep_factored e least most operand copy at is =
    rw (at, element-Rep least most operand, element-Rep least most copy) (f.rep is)

pub opt_factored : (e : Elem) (operand copy : Box Elem Global) → e ≡ code.Opt operand
    → IsFactored (element_of operand.value) (element_of copy.value)
    → IsFactored (element_of e) (element_of (code.Opt copy))
opt_factored e operand copy at is = rw (at, element-Opt operand, element-Opt copy) (f.opt is)

-- the copy of a choice: all alternatives, or a factored choice and the others
pub alt_made : (kind : Option Bool) (alternatives : List Elem) (others : Vec Elem Global) → kind ≡ None
    → AreFactored kind (elements_of alternatives) (elements_of others.items)
    → IsFactored (Alt (elements_of alternatives)) (element_of (code.Alt others))
alt_made kind alternatives others is are =
    rw (element-Alt others) (f.alt (subst (λ k. AreFactored k (elements_of alternatives) (elements_of others.items))
    is are))

pub choice_made : (kind : Option Bool) (folds : Bool) (alternatives : List Elem) (others : Vec Elem Global)
    (one : Elem) (a b : List Elem) (members : Vec Elem Global) → kind ≡ Some folds
    → AreFactored kind (elements_of alternatives) (elements_of others.items)
    → DerivesThese (SpellsSome folds (elements_of alternatives)) (element_of one) → a ≡ [] → b ≡ a ++ one ∷ []
    → members.items ≡ b ++ code.Alt others ∷ []
    → IsFactored (Alt (elements_of alternatives)) (element_of (code.Alt members))
choice_made kind folds alternatives others one a b members is are these none_there first second =
    rw (
      element-Alt members,
      elements_of-pair a b members.items one (code.Alt others) none_there first second,
      element-Alt others,
    )
    (f.choice (subst (λ k. AreFactored k (elements_of alternatives) (elements_of others.items)) is are) these)

-- a member more
taken_next : (members : List Elem) (i : ℕ) (member : Elem) → i < length members → member ≡ get_or members i member
    → elements_of (take (i + 1) members) ≡ snoc (elements_of (take i members)) (element_of member)
taken_next members i member lt at =
    elements_of-push (take i members) (take (i + 1) members) member
    (take_more members i member lt ∙ ap (λ (x : Elem). take i members ++ x ∷ []) (sym at))

kept_last : {kind : Option Bool} {es ds : Elements} {e copy : Element} → AreFactored kind es ds → IsFactored e copy
    → AreFactored kind (snoc es e) (snoc ds copy)
kept_last f.nothing is = f.kept is f.nothing
kept_last (f.kept one them) is = f.kept one (kept_last them is)
kept_last (f.left text them) is = f.left text (kept_last them is)

left_last : {kind : Option Bool} {es ds : Elements} {e : Element} {t : List ℕ} → AreFactored kind es ds
    → IsTextOf kind e t → AreFactored kind (snoc es e) ds
left_last f.nothing text = f.left text f.nothing
left_last (f.kept one them) text = f.kept one (left_last them text)
left_last (f.left other them) text = f.left other (left_last them text)

pub kept_more : (kind : Option Bool) (members copies new : List Elem) (i : ℕ) (member copy : Elem)
    → i < length members → member ≡ get_or members i member → IsFactored (element_of member) (element_of copy)
    → new ≡ copies ++ copy ∷ [] → AreFactored kind (elements_of (take i members)) (elements_of copies)
    → AreFactored kind (elements_of (take (i + 1) members)) (elements_of new)
kept_more kind members copies new i member copy lt at is pushed so_far =
    rw (taken_next members i member lt at, elements_of-push copies new copy pushed) (kept_last so_far is)

pub left_more : (kind : Option Bool) (members copies : List Elem) (i : ℕ) (member : Elem)
    (found : Option (Bor (List ℕ))) (is_missing : Bool) → i < length members → member ≡ get_or members i member
    → is_some found ≡ not is_missing → is_missing ≡ false
    → IfSome found (λ text. IsTextOf kind (element_of member) text.now)
    → AreFactored kind (elements_of (take i members)) (elements_of copies)
    → AreFactored kind (elements_of (take (i + 1) members)) (elements_of copies)
left_more kind members copies i member None is_missing lt at some off is so_far =
    absurd (false≢true (some ∙ ap (λ (b : Bool). not b) off))
left_more kind members copies i member (Some text) is_missing lt at some off is so_far =
    rw (taken_next members i member lt at) (left_last so_far is)

-- a rule more
rules_last : (a b : Rule) {xs ys : List Rule} → AreFactoredRules xs ys → a.name ≡ b.name → IsFactored a.body b.body
    → AreFactoredRules (xs ++ a ∷ []) (ys ++ b ∷ [])
rules_last a b no_rules same is = rule_more same is no_rules
rules_last a b (rule_more first one rest) same is = rule_more first one (rules_last a b rest same is)

rule_at : (rules : List (table.Rule Elem)) (id : ℕ) (name : List ℕ) (body : Elem)
    → slice_get (map (λ (rule : table.Rule Elem). rule.name) rules) id ≡ Some name
    → slice_get (map (λ (rule : table.Rule Elem). rule.body) rules) id ≡ Some body
    → (rule : Rule) × (slice_get (map rule_of rules) id ≡ Some rule) × (rule.name ≡ name)
    × (rule.body ≡ element_of body)
rule_at [] id name body n b = absurd (cc n)
rule_at (rule ∷ rules) zero name body n b =
    let is_name : rule.name ≡ name = cc n in
    let is_body : rule.body ≡ body = cc b in
    (rule_of rule, refl, is_name, ap element_of is_body)
rule_at (rule ∷ rules) (suc id) name body n b = rule_at rules id name body n b

abbrev pub row : List ℕ → Elem → Span → table.Rule Elem
row name body span = record { name = name; body = body; span = span }

-- the tables so far
pub record AreTablesSoFar (t made : Rules Elem) (id : ℕ) : Type 0 where
  pub folds : made.names ≡ Fold
  pub names : names_of made ≡ take id (names_of t)
  pub rules : AreFactoredRules (take id (rules_of t)) (rules_of made)

pub rule_next : (t : Rules Elem) → HasUniqueNames t → t.names ≡ Fold → (made new : Rules Elem) (id : ℕ)
    (name : List ℕ) (body copy : Elem) (span : Span) (done : Defined) → AreTablesSoFar t made id
    → slice_get (names_of t) id ≡ Some name → slice_get (bodies_of t) id ≡ Some body
    → IsFactored (element_of body) (element_of copy)
    → Defines made new (row name copy span) done → AreTablesSoFar t new (id + 1)
rule_next t unique folds made new id name body copy span (Added k) so_far n b is defines =
    let next = name_next t unique Fold folds made new id (row name copy span) (Added k)
    so_far.folds so_far.names n defines in
    let rule = rule_at t.rules id name body n b in
    let taken : take (id + 1) (rules_of t) ≡ take id (rules_of t) ++ rule.0 ∷ [] =
    take_more (rules_of t) id rule.0 (slice_get_within (rules_of t) id rule.0 rule.1)
    ∙ ap (λ (x : Rule). take id (rules_of t) ++ x ∷ []) (get_or_from_slice_get (rules_of t) id rule.0 rule.0 rule.1) in
    let pushed : rules_of new ≡ rules_of made ++ rule_of (row name copy span) ∷ [] =
    ap rules_of defines.2 ∙ map-append rule_of made.rules (row name copy span ∷ []) in
    record {
      folds = next.0;
      names = next.1;
      rules = rw (taken, pushed)
          (rules_last rule.0 (rule_of (row name copy span)) so_far.rules rule.2
          (subst (λ v. IsFactored v (element_of copy)) (sym rule.3) is));
    }
rule_next t unique folds made new id name body copy span (Duplicate k) so_far n b is defines =
    let next = name_next t unique Fold folds made new id (row name copy span)
    (Duplicate k) so_far.folds so_far.names n defines in
    let below = slice_get_within (names_of t) id name n in
    let first = ap length (sym next.1 ∙ (ap names_of defines.1 ∙ so_far.names)) in
    let low = length-take-le id (names_of t) (omega (arith, below)) in
    let high = length-take-le (id + 1) (names_of t) (omega (arith, below)) in
    absurd (omega (arith, below, first, low, high))

pub tables_begun : (t made : Rules Elem) → made.names ≡ Fold → made.rules ≡ [] → AreTablesSoFar t made 0
tables_begun t made folds empty = record {
  folds = folds;
  names = ap (λ (rules : List (table.Rule Elem)). map (λ (rule : table.Rule Elem). rule.name) rules) empty;
  rules = rw empty no_rules;
}
