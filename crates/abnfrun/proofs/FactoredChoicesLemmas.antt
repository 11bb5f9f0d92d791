-- Choices of texts: what they derive, and that they hold no name and no prose.
-- Serves: shared_end, run_of, next_branch, branches, key_of, texts_of, choice_of
use Rattle.std.proofs.Common.{◌≡◌, ◌∙◌, ◌↔◌, ◌⊎◌, inl, inr, ⊎_elim, ap, ap₂, refl, sym, subst, arith, ℕ, ◌+◌}
use Rattle.std.proofs.Common.{◌-◌, ◌<◌, ◌≤◌, Bool, true, List, [], ◌∷◌, ◌++◌, length, take, drop, map, get_or}
use Rattle.std.proofs.Common.{Vec, Global, All, Option, Some}
use Rattle.std.specs.Prelude.{slice_range}
use Rattle.std.specs.Char.{to_ascii_lowercase}
use Rattle.std.specs.List.Sorted.{IsPermutation}
use Rattle.std.proofs.lemmas.Bool.Decides.{nat_tests}
use Rattle.std.proofs.lemmas.List.{append-nil, drop-take, get_or-drop, get_or-take, length-drop, length-take-le}
use Rattle.std.proofs.lemmas.List.{take-append-drop, take-take, take_more}
use Rattle.std.proofs.lemmas.List.Elements.{All-contains, All-more, All-weaker, Contains-append_cases}
use Rattle.std.proofs.lemmas.List.Elements.{Contains-append_left, Contains-append_right, Contains-push}
use Rattle.std.proofs.lemmas.List.Elements.{Contains-push_cases}
use Rattle.std.proofs.lemmas.List.Prefix.{at_from_reads}
use Rattle.std.proofs.lemmas.List.Sorted.{Contains-permutation, IsPermutation-sym}
use Rattle.ruletable.specs.Letters.{small}
use Rattle.abnfread.proofs.ElementListLemmas.{elements_of-push}
use Rattle.abnfread.specs.AbnfMachine.{snoc}
use Rattle.abnfread.specs.AbnfViews.{element_of, elements_of}
use Rattle.abnfread.specs.Element.{Alt, Concat, Element, Elements, Rule, Text, more, none}
use Rattle.abnfread.specs.declared.elem.Elem.{Elem}
use Rattle.abnfcheck.specs.AbnfGrammar.{Within, WithinSome, itself, of_alt, of_concat, of_first, of_later}
use Rattle.abnfcheck.specs.Derivable as d
use Rattle.abnfcheck.specs.Derivable.{Derives, DerivesSome, Spelled}
use Rattle.abnfrun.specs.FactoredChoices.{DerivesThese, IsNameOrProse, IsShared, IsSpelling, IsTextOf, SpellsSome}
use Rattle.abnfrun.specs.FactoredChoices.{first_text, is_text, later_text}

-- a text in lower case has the same spellings where it folds
small_lower : (c : ℕ) → small (to_ascii_lowercase c) ≡ small c
small_lower c = grind (arith, nat_tests)

pub lower_spelled : (t w : List ℕ) → Spelled true (map to_ascii_lowercase t) w ↔ Spelled true t w
lower_spelled t w = (to t, from t)
  where
    to : (t : List ℕ) {w : List ℕ} → Spelled true (map to_ascii_lowercase t) w → Spelled true t w
    to [] d.end = d.end
    to (c ∷ t) (d.next h rest) = d.next (h ∙ small_lower c) (to t rest)

    from : (t : List ℕ) {w : List ℕ} → Spelled true t w → Spelled true (map to_ascii_lowercase t) w
    from [] d.end = d.end
    from (c ∷ t) (d.next h rest) = d.next (h ∙ sym (small_lower c)) (from t rest)

-- the spellings of two texts, one after the other
spelled_both : {folds : Bool} {s t u v : List ℕ} → Spelled folds s u → Spelled folds t v
    → Spelled folds (s ++ t) (u ++ v)
spelled_both d.end two = two
spelled_both (d.next h one) two = d.next h (spelled_both one two)

record Parts (folds : Bool) (s t w : List ℕ) : Type 0 where
  pub front : List ℕ
  pub rest : List ℕ
  pub word : front ++ rest ≡ w
  pub first : Spelled folds s front
  pub second : Spelled folds t rest

spelled_parts : {folds : Bool} (s : List ℕ) {t w : List ℕ} → Spelled folds (s ++ t) w → Parts folds s t w
spelled_parts [] {w = w} all = record { front = []; rest = w; word = refl; first = d.end; second = all }
spelled_parts (b ∷ s) (d.next {c = c} h all) =
    let parts = spelled_parts s all in record {
      front = c ∷ parts.front;
      rest = parts.rest;
      word = ap (λ (u : List ℕ). c ∷ u) parts.word;
      first = d.next h parts.first;
      second = parts.second;
    }

-- a text holds no name and no prose
plain_text : {folds : Bool} {t : List ℕ} {e : Element} → IsNameOrProse e → Within (Text folds t) e → ⊥
plain_text leaf itself = elim leaf [ ]

module _ (has : ℕ → Bool) (rules : List Rule) where
  -- the last alternative
  some_last : (es : Elements) {e : Element} {w : List ℕ} → Derives has rules e w → DerivesSome has rules (snoc es e) w
  some_last none one = d.this one
  some_last (more x es) one = d.later (some_last es one)

  some_before : (e : Element) {es : Elements} {w : List ℕ} → DerivesSome has rules es w
      → DerivesSome has rules (snoc es e) w
  some_before e (d.this one) = d.this one
  some_before e (d.later some) = d.later (some_before e some)

  some_cases : (es : Elements) {e : Element} {w : List ℕ} → DerivesSome has rules (snoc es e) w
      → DerivesSome has rules es w ⊎ Derives has rules e w
  some_cases none (d.this one) = inr one
  some_cases none (d.later some) = elim some [ ]
  some_cases (more x es) (d.this one) = inl (d.this one)
  some_cases (more x es) (d.later some) =
      ⊎_elim (λ before. inl (d.later before)) (λ last. inr last) (some_cases es some)

within_cases : (es : Elements) {e x : Element} → WithinSome (snoc es e) x → WithinSome es x ⊎ Within e x
within_cases none (of_first w) = inr w
within_cases none (of_later w) = elim w [ ]
within_cases (more y es) (of_first w) = inl (of_first w)
within_cases (more y es) (of_later w) =
    ⊎_elim (λ before. inl (of_later before)) (λ last. inr last) (within_cases es w)

-- These lists are those.
pub same_these : {This That : List ℕ → Type 0} {e : Element} → ((w : List ℕ) → This w ↔ That w) → DerivesThese This e
    → DerivesThese That e
same_these same is = record {
  derives = λ has rules w. let by = is.derives has rules w in let equal = same w in
      (λ one. equal.0 (by.0 one), λ one. by.1 (equal.1 one));
  plain = is.plain;
}

abbrev pub Texts : Type 0
Texts = List (Vec ℕ Global)

-- each text shares that part with the first
abbrev pub AllShared : List ℕ → ℕ → ℕ → Texts → Type 0
AllShared first from end texts = All (λ (text : Vec ℕ Global). IsShared first from end text.items) texts

-- each text has that part, and then more
abbrev pub AllHeaded : ℕ → ℕ → List ℕ → Texts → Type 0
AllHeaded from end head texts = All (λ (text : Vec ℕ Global). drop from text.items ≡ head ++ drop end text.items) texts

module _ (folds : Bool) (from : ℕ) where
  -- no text, one, and those of two lists
  pub no_choice : DerivesThese (IsSpelling folds from []) (Alt none)
  no_choice = record {
    derives = λ has rules w. (λ one. not_derived one, λ one. let among = one.among in absurd (omega (arith, among.1)));
    plain = λ x leaf within. not_within leaf within;
  }
    where
      not_derived : {has : ℕ → Bool} {rules : List Rule} {w : List ℕ} → Derives has rules (Alt none) w
          → IsSpelling folds from [] w
      not_derived (d.alt some) = elim some [ ]

      not_within : {x : Element} → IsNameOrProse x → Within (Alt none) x → ⊥
      not_within leaf (of_alt w) = elim w [ ]
      not_within leaf itself = elim leaf [ ]

  one_choice : (text : Vec ℕ Global) → DerivesThese (IsSpelling folds from (text ∷ []))
      (Text folds (drop from text.items))
  one_choice text = record {
    derives = λ has rules w. (λ one. spelled one, λ one. derived one);
    plain = λ x leaf within. plain_text leaf within;
  }
    where
      spelled : {has : ℕ → Bool} {rules : List Rule} {w : List ℕ}
          → Derives has rules (Text folds (drop from text.items)) w → IsSpelling folds from (text ∷ []) w
      spelled (d.text s) = record { text = text; among = (0, omega arith, refl); spelled = s }

      derived : {has : ℕ → Bool} {rules : List Rule} {w : List ℕ} → IsSpelling folds from (text ∷ []) w
          → Derives has rules (Text folds (drop from text.items)) w
      derived {w = w} one = ⊎_elim (λ none_there. let low = none_there.1 in absurd (omega (arith, low)))
          (λ is. d.text (subst (λ (v : Vec ℕ Global). Spelled folds (drop from v.items) w) (sym is) one.spelled))
          (Contains-push_cases [] text one.text one.among)

  pub first_branch : (texts : List (Vec ℕ Global)) (text : Vec ℕ Global) (made : Element) → 0 < length texts
      → text ≡ get_or texts 0 text → made ≡ Text folds (drop from text.items)
      → DerivesThese (IsSpelling folds from (take 1 texts)) made
  first_branch [] text made some at is = absurd (omega (arith, some))
  first_branch (t ∷ ts) text made some at is = let here : text ≡ t = at in rw (is, here) (one_choice t)

  spelled_left : (xs ys : Texts) {w : List ℕ} → IsSpelling folds from xs w → IsSpelling folds from (xs ++ ys) w
  spelled_left xs ys one = record {
    text = one.text;
    among = Contains-append_left xs ys one.text one.among;
    spelled = one.spelled;
  }

  spelled_right : (xs ys : Texts) {w : List ℕ} → IsSpelling folds from ys w → IsSpelling folds from (xs ++ ys) w
  spelled_right xs ys one = record {
    text = one.text;
    among = Contains-append_right xs ys one.text one.among;
    spelled = one.spelled;
  }

  spelled_cases : (xs ys : Texts) {w : List ℕ} → IsSpelling folds from (xs ++ ys) w
      → IsSpelling folds from xs w ⊎ IsSpelling folds from ys w
  spelled_cases xs ys one = ⊎_elim
      (λ among. inl (record { text = one.text; among = among; spelled = one.spelled }))
      (λ among. inr (record { text = one.text; among = among; spelled = one.spelled }))
      (Contains-append_cases xs ys one.text one.among)

  choice_more : (xs ys : Texts) (es : Elements) (e : Element) → DerivesThese (IsSpelling folds from xs) (Alt es)
      → DerivesThese (IsSpelling folds from ys) e → DerivesThese (IsSpelling folds from (xs ++ ys)) (Alt (snoc es e))
  choice_more xs ys es e these those = record {
    derives = λ has rules w. (λ one. spelled one, λ one. derived one);
    plain = λ x leaf within. plain leaf within;
  }
    where
      spelled : {has : ℕ → Bool} {rules : List Rule} {w : List ℕ} → Derives has rules (Alt (snoc es e)) w
          → IsSpelling folds from (xs ++ ys) w
      spelled {has = has} {rules = rules} {w = w} (d.alt some) = ⊎_elim
          (λ before. spelled_left xs ys ((these.derives has rules w).0 (d.alt before)))
          (λ last. spelled_right xs ys ((those.derives has rules w).0 last)) (some_cases has rules es some)

      before_last : {has : ℕ → Bool} {rules : List Rule} {w : List ℕ} → Derives has rules (Alt es) w
          → Derives has rules (Alt (snoc es e)) w
      before_last {has = has} {rules = rules} (d.alt some) = d.alt (some_before has rules e some)

      derived : {has : ℕ → Bool} {rules : List Rule} {w : List ℕ} → IsSpelling folds from (xs ++ ys) w
          → Derives has rules (Alt (snoc es e)) w
      derived {has = has} {rules = rules} {w = w} one = ⊎_elim
          (λ before. before_last ((these.derives has rules w).1 before))
          (λ last. d.alt (some_last has rules es ((those.derives has rules w).1 last))) (spelled_cases xs ys one)

      plain : {x : Element} → IsNameOrProse x → Within (Alt (snoc es e)) x → ⊥
      plain {x = x} leaf (of_alt w) = ⊎_elim (λ before. these.plain x leaf (of_alt before))
          (λ last. those.plain x leaf last) (within_cases es w)
      plain leaf itself = elim leaf [ ]

  taken_more : (texts : Texts) (at n : ℕ) → take (at + n) texts ≡ take at texts ++ take n (drop at texts)
  taken_more texts at n =
      sym (take-append-drop at (take (at + n) texts))
      ∙ ap₂ (λ (xs ys : Texts). xs ++ ys) (take-take at (at + n) texts (omega arith)) (drop-take at n texts)

  -- a branch more
  pub branch_more : (texts : Texts) (at n : ℕ) (old new : List Elem) (one : Elem)
      → DerivesThese (IsSpelling folds from (take at texts)) (Alt (elements_of old))
      → DerivesThese (IsSpelling folds from (take n (drop at texts))) (element_of one) → new ≡ old ++ one ∷ []
      → DerivesThese (IsSpelling folds from (take (at + n) texts)) (Alt (elements_of new))
  branch_more texts at n old new one these those pushed =
      rw (taken_more texts at n, elements_of-push old new one pushed)
      (choice_more (take at texts) (take n (drop at texts)) (elements_of old) (element_of one) these those)

  -- texts that begin alike
  pub headed_choice : (end : ℕ) (head : List ℕ) (texts : Texts) (rest : Element) → AllHeaded from end head texts
      → DerivesThese (IsSpelling folds end texts) rest
      → DerivesThese (IsSpelling folds from texts) (Concat (more (Text folds head) (more rest none)))
  headed_choice end head texts rest heads these = record {
    derives = λ has rules w. (λ one. spelled one, λ one. derived one);
    plain = λ x leaf within. plain leaf within;
  }
    where
      spelled : {has : ℕ → Bool} {rules : List Rule} {w : List ℕ}
          → Derives has rules (Concat (more (Text folds head) (more rest none))) w → IsSpelling folds from texts w
      spelled {has = has} {rules = rules}
          (d.concat (d.then {w = u} (d.text first) (d.then {w = v} second d.all_done))) =
          let one = (these.derives has rules v).0 second in
          let is = All-contains (λ (text : Vec ℕ Global). drop from text.items ≡ head ++ drop end text.items) texts
          one.text heads one.among in
          record {
            text = one.text;
            among = one.among;
            spelled = rw (is, append-nil v) (spelled_both first one.spelled);
          }

      derived : {has : ℕ → Bool} {rules : List Rule} {w : List ℕ} → IsSpelling folds from texts w
          → Derives has rules (Concat (more (Text folds head) (more rest none))) w
      derived {has = has} {rules = rules} {w = w} one =
          let is = All-contains (λ (text : Vec ℕ Global). drop from text.items ≡ head ++ drop end text.items) texts
          one.text heads one.among in
          let parts = spelled_parts head (subst (λ (v : List ℕ). Spelled folds v w) is one.spelled) in
          let tail = (these.derives has rules parts.rest).1
          (record { text = one.text; among = one.among; spelled = parts.second }) in
          subst (λ v. Derives has rules (Concat (more (Text folds head) (more rest none))) v)
          (ap (λ (v : List ℕ). parts.front ++ v) (append-nil parts.rest) ∙ parts.word)
          (d.concat (d.then (d.text parts.first) (d.then tail d.all_done)))

      plain : {x : Element} → IsNameOrProse x → Within (Concat (more (Text folds head) (more rest none))) x → ⊥
      plain leaf (of_concat (of_first w)) = plain_text leaf w
      plain {x = x} leaf (of_concat (of_later (of_first w))) = these.plain x leaf w
      plain leaf (of_concat (of_later (of_later w))) = elim w [ ]
      plain leaf itself = elim leaf [ ]

-- what texts share with the first, as lists
shared_head : (first text : List ℕ) (from end : ℕ) → from ≤ end → end ≤ length first → IsShared first from end text
    → drop from text ≡ slice_range first from end ++ drop end text
shared_head first text from end le within shared =
    let size : length (slice_range first from end) ≡ end - from =
    length-take-le (end - from) (drop from first) (omega (arith, length-drop from first, le, within)) in
    let there : from + length (slice_range first from end) ≡ end = omega (arith, size, le) in
    let inside = shared.within in
    let all = at_from_reads 0 text (slice_range first from end) from (omega (arith, there, inside))
    (λ i lt. same i (omega (arith, lt, size))) in
    all ∙ ap (λ (k : ℕ). slice_range first from end ++ drop k text) there
  where
    same : (i : ℕ) → i < end - from → get_or text (from + i) 0 ≡ get_or (slice_range first from end) i 0
    same i lt =
        shared.same (from + i) (omega arith) (omega (arith, lt, le))
        ∙ sym (get_or-take (end - from) (drop from first) i 0 lt ∙ get_or-drop from first i 0)

pub shared_heads : (first : List ℕ) (from end : ℕ) (texts : Texts) → from ≤ end → end ≤ length first
    → AllShared first from end texts → AllHeaded from end (slice_range first from end) texts
shared_heads first from end texts le within shared =
    All-weaker (λ (text : Vec ℕ Global). IsShared first from end text.items)
    (λ (text : Vec ℕ Global). drop from text.items ≡ slice_range first from end ++ drop end text.items)
    (λ text is. shared_head first text.items from end le within is) texts shared

pub shared_within : (first : List ℕ) (from end : ℕ) (texts : Texts) → AllShared first from end texts
    → All (λ (text : Vec ℕ Global). end ≤ length text.items) texts
shared_within first from end texts shared =
    All-weaker (λ (text : Vec ℕ Global). IsShared first from end text.items)
    (λ (text : Vec ℕ Global). end ≤ length text.items) (λ text is. is.within) texts shared

-- a text more in a run
shared_less : (first text : List ℕ) (from end less : ℕ) → less ≤ end → IsShared first from end text
    → IsShared first from less text
shared_less first text from end less le is = record {
  within = (let inside = is.within in omega (arith, inside, le));
  same = λ i low high. is.same i low (omega (arith, high, le));
}

pub shared_more : (first : List ℕ) (texts : Texts) (from end next less i : ℕ) (text : Vec ℕ Global)
    → AllShared first from end (take i texts) → i < length texts → text ≡ get_or texts i text
    → IsShared first from next text.items → less ≤ end → less ≤ next → AllShared first from less (take (i + 1) texts)
shared_more first texts from end next less i text so_far lt at is low high =
    All-more (λ (text : Vec ℕ Global). IsShared first from less text.items) texts i text lt
    (All-weaker (λ (text : Vec ℕ Global). IsShared first from end text.items)
    (λ (text : Vec ℕ Global). IsShared first from less text.items)
    (λ text before. shared_less first text.items from end less low before) (take i texts) so_far)
    (subst (λ (v : Vec ℕ Global). IsShared first from less v.items) at
    (shared_less first text.items from next less high is))

-- the texts of a kind among the alternatives so far
abbrev pub AreTextsSoFar : Bool → Texts → Elements → Type 0
AreTextsSoFar folds texts es = (w : List ℕ) → IsSpelling folds 0 texts w ↔ SpellsSome folds es w

spells_before : (e : Element) {folds : Bool} {es : Elements} {w : List ℕ} → SpellsSome folds es w
    → SpellsSome folds (snoc es e) w
spells_before e (first_text s) = first_text s
spells_before e (later_text s) = later_text (spells_before e s)

spells_last : {folds : Bool} (es : Elements) {e : Element} {t w : List ℕ} → IsTextOf (Some folds) e t
    → Spelled folds t w → SpellsSome folds (snoc es e) w
spells_last none is_text s = first_text s
spells_last (more x es) is s = later_text (spells_last es is s)

-- the last alternative is a text of the kind that is spelled, or an earlier one is
record IsLast (folds : Bool) (e : Element) (w : List ℕ) : Type 0 where
  pub text : List ℕ
  pub is : IsTextOf (Some folds) e text
  pub spelled : Spelled folds text w

spells_cases : {folds : Bool} (es : Elements) {e : Element} {w : List ℕ} → SpellsSome folds (snoc es e) w
    → SpellsSome folds es w ⊎ IsLast folds e w
spells_cases none (first_text {t = t} s) = inr (record { text = t; is = is_text; spelled = s })
spells_cases none (later_text s) = elim s [ ]
spells_cases (more x es) (first_text s) = inl (first_text s)
spells_cases (more x es) (later_text s) =
    ⊎_elim (λ before. inl (later_text before)) (λ last. inr last) (spells_cases es s)

-- one text is in an element
abbrev text_part : Element → List ℕ
text_part (Text folds t) = t
text_part e = []

part_is : {kind : Option Bool} {e : Element} {t : List ℕ} → IsTextOf kind e t → text_part e ≡ t
part_is is_text = refl

same_text : {kind : Option Bool} {e : Element} {s t : List ℕ} → IsTextOf kind e s → IsTextOf kind e t → s ≡ t
same_text one two = sym (part_is one) ∙ part_is two

taken_next : (members : List Elem) (i : ℕ) (member : Elem) → i < length members → member ≡ get_or members i member
    → elements_of (take (i + 1) members) ≡ snoc (elements_of (take i members)) (element_of member)
taken_next members i member lt at =
    elements_of-push (take i members) (take (i + 1) members) member
    (take_more members i member lt ∙ ap (λ (x : Elem). take i members ++ x ∷ []) (sym at))

module _ (folds : Bool) (texts : Texts) (key : Vec ℕ Global) (es : Elements) (e : Element) (text : List ℕ)
    (is : IsTextOf (Some folds) e text) (same : (w : List ℕ) → Spelled folds key.items w ↔ Spelled folds text w)
    (so_far : AreTextsSoFar folds texts es) where
  text_snoc : AreTextsSoFar folds (texts ++ key ∷ []) (snoc es e)
  text_snoc w = (
    λ one. ⊎_elim
        (λ among. spells_before e ((so_far w).0 (record { text = one.text; among = among; spelled = one.spelled })))
        (λ here. spells_last es is ((same w).0
        (subst (λ (v : Vec ℕ Global). Spelled folds v.items w) (sym here) one.spelled)))
        (Contains-push_cases texts key one.text one.among),
    λ some. ⊎_elim
        (λ before. spelled_left folds 0 texts (key ∷ []) ((so_far w).1 before))
        (λ last. record {
          text = key;
          among = Contains-push texts key;
          spelled = (same w).1 (subst (λ (v : List ℕ). Spelled folds v w) (same_text last.is is) last.spelled);
        })
        (spells_cases es some),
  )

pub text_more : (folds : Bool) (members : List Elem) (i : ℕ) (member : Elem) (texts new : Texts) (key : Vec ℕ Global)
    (text : List ℕ) → i < length members → member ≡ get_or members i member
    → IsTextOf (Some folds) (element_of member) text
    → ((w : List ℕ) → Spelled folds key.items w ↔ Spelled folds text w) → new ≡ texts ++ key ∷ []
    → AreTextsSoFar folds texts (elements_of (take i members))
    → AreTextsSoFar folds new (elements_of (take (i + 1) members))
text_more folds members i member texts new key text lt at is same pushed so_far =
    rw (taken_next members i member lt at, pushed)
    (text_snoc folds texts key (elements_of (take i members)) (element_of member) text is same so_far)

pub no_text_more : (folds : Bool) (members : List Elem) (i : ℕ) (member : Elem) (texts : Texts)
    → i < length members → member ≡ get_or members i member
    → ((text : List ℕ) → IsTextOf (Some folds) (element_of member) text → ⊥)
    → AreTextsSoFar folds texts (elements_of (take i members))
    → AreTextsSoFar folds texts (elements_of (take (i + 1) members))
no_text_more folds members i member texts lt at not so_far w =
    rw (taken_next members i member lt at) (
      λ one. spells_before (element_of member) ((so_far w).0 one),
      λ some. ⊎_elim (λ before. (so_far w).1 before) (λ last. absurd (not last.text last.is))
          (spells_cases (elements_of (take i members)) some),
    )

pub no_texts : (folds : Bool) → AreTextsSoFar folds [] none
no_texts folds w = (λ one. let among = one.among in absurd (omega (arith, among.1)), λ some. elim some [ ])

-- texts in another order
pub texts_sorted : (folds : Bool) (texts sorted : Texts) (es : Elements) → IsPermutation texts sorted
    → AreTextsSoFar folds texts es → AreTextsSoFar folds sorted es
texts_sorted folds texts sorted es moved so_far w = (
  λ one. (so_far w).0 (record {
    text = one.text;
    among = Contains-permutation sorted texts one.text (IsPermutation-sym texts sorted moved) one.among;
    spelled = one.spelled;
  }),
  λ some. let one = (so_far w).1 some in record {
    text = one.text;
    among = Contains-permutation texts sorted one.text moved one.among;
    spelled = one.spelled;
  },
)
