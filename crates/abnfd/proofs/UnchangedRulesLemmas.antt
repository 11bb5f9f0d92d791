-- Paired rules derive the same lines.
-- Serves: abnfd_main
use Rattle.std.proofs.Common.{◌≡◌, ◌∙◌, sym, ap, ℕ, zero, suc, ◌+◌, ◌<◌, ◌≤◌, List, [], ◌∷◌, Option, Some, drop}
use Rattle.std.proofs.Common.{Bool, get_or, length}
use Rattle.std.proofs.lemmas.List.{drop_all, drop_more}
use Rattle.std.specs.Prelude.{map, option_map, slice_get}
use Rattle.abnfcheck.proofs.RuleIdLemmas.{body_at_id}
use Rattle.abnfcheck.specs.Derivable.{Derives, DerivesAll, DerivesSome, DerivesTimes, RuleDerives}
use Rattle.abnfcheck.specs.Derivable as d
use Rattle.ruletable.specs.Letters.{has as symbols}
use Rattle.ruletable.specs.declared.alphabet.Alphabet.{Alphabet}
use Rattle.rulelines.specs.declared.alone.Alone.TheVariants.{Never}
use Rattle.rulelines.specs.declared.comparison.Comparison.{Comparison}
use Rattle.ruletable.specs.Rules as table
use Rattle.abnfd.specs.ComparedTexts.{AreLinesKnown}
use Rattle.abnfd.specs.UnchangedRules.{AreAlike, ArePaired, ArePairs, IsAlike, Partners}
use Rattle.abnfd.specs.UnchangedRules as a
use Rattle.abnfread.specs.AbnfViews.{element_of, elements_of, rule_of}
use Rattle.abnfread.specs.Element.{Element, Elements, Rule, bodies, body_of, id_of}
use Rattle.abnfread.specs.declared.elem.Elem.{Elem}

-- the body of a rule of a table
pub body_there : (rules : List (table.Rule Elem)) (id : ℕ) (body : Elem)
    → slice_get (map (λ (rule : table.Rule Elem). rule.body) rules) id ≡ Some body
    → slice_get (bodies (map rule_of rules)) id ≡ Some (element_of body)
body_there [] id body is = absurd (cc is)
body_there (rule ∷ rules) zero body is = ap (λ (x : Option Elem). option_map element_of x) is
body_there (rule ∷ rules) (suc id) body is = body_there rules id body is

-- what is left of two lists, one member earlier and at the end
pub alike_left : (P : List ℕ → List ℕ → Type 0) (xs ys : List Elem) (i : ℕ) (x y : Elem) → i < length xs → i < length ys
    → x ≡ get_or xs i x → y ≡ get_or ys i y → IsAlike P (element_of x) (element_of y)
    → AreAlike P (elements_of (drop (i + 1) xs)) (elements_of (drop (i + 1) ys))
    → AreAlike P (elements_of (drop i xs)) (elements_of (drop i ys))
alike_left P xs ys i x y first second at other is are =
    rw (drop_more xs i x first, drop_more ys i y second, sym at, sym other) (a.more_alike is are)

pub none_left : (P : List ℕ → List ℕ → Type 0) (xs ys : List Elem) (i : ℕ) → length xs ≤ i → length ys ≤ i
    → AreAlike P (elements_of (drop i xs)) (elements_of (drop i ys))
none_left P xs ys i first second = rw (drop_all i xs first, drop_all i ys second) a.none_alike

-- P pairs only names of rules whose bodies are alike
module _ (has : ℕ → Bool) (old new : List Rule) (P : List ℕ → List ℕ → Type 0)
    (bodies_alike : (n m : List ℕ) (e : Element) → P n m → body_of old n ≡ Some e
    → (f : Element) × (body_of new m ≡ Some f) × IsAlike P e f) where
  mutual
    carries_over : {e f : Element} {w : List ℕ} → Derives has old e w → IsAlike P e f → Derives has new f w
    carries_over (d.text s) a.text_alike = d.text s
    carries_over (d.values l) a.values_alike = d.values l
    carries_over (d.range l h is) a.range_alike = d.range l h is
    carries_over (d.concat all) (a.concat_alike are) = d.concat (carries_all all are)
    carries_over (d.alt some) (a.alt_alike are) = d.alt (carries_some some are)
    carries_over (d.rep l m times) (a.rep_alike is) = d.rep l m (carries_times times is)
    carries_over d.opt_empty (a.opt_alike is) = d.opt_empty
    carries_over (d.opt one) (a.opt_alike is) = d.opt (carries_over one is)
    carries_over (d.name {n = n} {e = e} is one) (a.name_alike {m = m} paired) =
        let other = bodies_alike n m e paired is in
        d.name other.1 (carries_over one other.2)

    carries_all : {es fs : Elements} {w : List ℕ} → DerivesAll has old es w → AreAlike P es fs
        → DerivesAll has new fs w
    carries_all d.all_done a.none_alike = d.all_done
    carries_all (d.then one rest) (a.more_alike is are) = d.then (carries_over one is) (carries_all rest are)

    carries_some : {es fs : Elements} {w : List ℕ} → DerivesSome has old es w → AreAlike P es fs
        → DerivesSome has new fs w
    carries_some (d.this one) (a.more_alike is are) = d.this (carries_over one is)
    carries_some (d.later some) (a.more_alike is are) = d.later (carries_some some are)

    carries_times : {e f : Element} {k : ℕ} {w : List ℕ} → DerivesTimes has old e k w → IsAlike P e f
        → DerivesTimes has new f k w
    carries_times d.no_more is = d.no_more
    carries_times (d.one_more one rest) is = d.one_more (carries_over one is) (carries_times rest is)

-- what is alike is so the other way round
module _ (P Q : List ℕ → List ℕ → Type 0) (swaps : (n m : List ℕ) → P n m → Q m n) where
  mutual
    one_turned : {e f : Element} → IsAlike P e f → IsAlike Q f e
    one_turned a.text_alike = a.text_alike
    one_turned a.values_alike = a.values_alike
    one_turned a.range_alike = a.range_alike
    one_turned (a.concat_alike are) = a.concat_alike (all_turned are)
    one_turned (a.alt_alike are) = a.alt_alike (all_turned are)
    one_turned (a.rep_alike is) = a.rep_alike (one_turned is)
    one_turned (a.opt_alike is) = a.opt_alike (one_turned is)
    one_turned (a.name_alike {n = n} {m = m} paired) = a.name_alike (swaps n m paired)

    all_turned : {es fs : Elements} → AreAlike P es fs → AreAlike Q fs es
    all_turned a.none_alike = a.none_alike
    all_turned (a.more_alike is are) = a.more_alike (one_turned is) (all_turned are)

module _ (has : ℕ → Bool) (old new : List Rule) (partners : Partners) (are : ArePairs old new partners) where
  -- the same pairs, the new name first
  abbrev Turned : List ℕ → List ℕ → Type 0
  Turned m n = ArePaired old new partners n m

  alike_at : (n m : List ℕ) (e : Element) → ArePaired old new partners n m → body_of old n ≡ Some e
      → (f : Element) × (body_of new m ≡ Some f) × IsAlike (ArePaired old new partners) e f
  alike_at n m e paired is =
      let at = are (id_of old n) (id_of new m) paired in
      let same : at.body ≡ e = cc (at.is, is, body_at_id old n) in
      (at.other_body, body_at_id new m ∙ at.other_is, rw same at at.alike)

  alike_back : (m n : List ℕ) (f : Element) → Turned m n → body_of new m ≡ Some f
      → (e : Element) × (body_of old n ≡ Some e) × IsAlike Turned f e
  alike_back m n f paired is =
      let at = are (id_of old n) (id_of new m) paired in
      let same : at.other_body ≡ f = cc (at.other_is, is, body_at_id new m) in (
        at.body,
        body_at_id old n ∙ at.is,
        rw same at (one_turned (ArePaired old new partners) Turned (λ n m p. p) at.alike),
      )

  pub new_derives : (id other : ℕ) (w : List ℕ) → slice_get partners id ≡ Some (Some other)
      → RuleDerives has old id w → RuleDerives has new other w
  new_derives id other w paired derives =
      let at = are id other paired in
      let same : derives.body ≡ at.body = cc (at.is, derives.is) in
      record {
        body = at.other_body;
        is = at.other_is;
        derives = carries_over has old new (ArePaired old new partners) alike_at (rw same at derives.derives) at.alike;
      }

  pub old_derives : (id other : ℕ) (w : List ℕ) → slice_get partners id ≡ Some (Some other)
      → RuleDerives has new other w → RuleDerives has old id w
  old_derives id other w paired derives =
      let at = are id other paired in
      let same : derives.body ≡ at.other_body = cc (at.other_is, derives.is) in
      record {
        body = at.body;
        is = at.is;
        derives = carries_over has new old Turned alike_back (rw same at derives.derives)
            (one_turned (ArePaired old new partners) Turned (λ n m p. p) at.alike);
      }

-- no line is derived by one of them alone
pub unchanged_known : (alphabet : Alphabet) (old new : List Rule) (partners : Partners) → ArePairs old new partners
    → (id other : ℕ) (found : Comparison) → slice_get partners id ≡ Some (Some other) → found.old_alone ≡ Never
    → found.new_alone ≡ Never → AreLinesKnown alphabet old id new other found
unchanged_known alphabet old new partners are id other found paired first second = record {
  old_alone = rw first (λ w alone. alone.not_new
      (new_derives (symbols alphabet) old new partners are id other w paired alone.derives));
  new_alone = rw second (λ w alone. alone.not_new
      (old_derives (symbols alphabet) old new partners are id other w paired alone.derives));
}
