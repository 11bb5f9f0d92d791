-- The texts of parts: of one, of several, each once.
-- Serves: explain_refused, refusal_is_one
use Rattle.std.proofs.Common.{◌≡◌, ◌||◌, ◌==◌, ℕ, zero, suc, ◌+◌, ◌<◌, Bool, true, false, cond, List, [], ◌∷◌, ◌++◌}
use Rattle.std.proofs.Common.{Option, Some, None, append-nil, append_assoc, ap, arith, codes, eqb-true, get_or, length}
use Rattle.std.proofs.Common.{if◌then◌else◌, map, nat_lt, refl, subst, sym, take, ◌∙◌}
use Rattle.std.specs.Prelude.{bytes_eq, position}
use Rattle.std.specs.List.{list_any, position_or_len}
use Rattle.std.proofs.lemmas.List.{map-append, take_more}
use Rattle.abnfprint.specs.CanonicalAbnf.{text_of}
use Rattle.abnfread.specs.Element.{Element, Rule, id_of}
use Rattle.diagnostics.specs.ShownBytes.{cut}
use Rattle.flatgrammar.specs.Flat.{Set}
use Rattle.refusedlines.proofs.LetterRunLemmas.{apart_one}
use Rattle.refusedlines.proofs.RefusedPartsLemmas.{reported_one}
use Rattle.refusedlines.specs.PartTexts.{ArePartTexts, AreTextsAfter, IsElementText, IsLeafText, IsLongLeafText}
use Rattle.refusedlines.specs.PartTexts.{IsPartText, IsSetText, IsTextFor, leaf_set, leaf_size, element_name, no_text}
use Rattle.refusedlines.specs.PartTexts.{part_text, texts_once}
use Rattle.refusedlines.specs.RefusedParts.{IsPartReported, ShownPart}
use Rattle.refusedlines.specs.RefusedText.{symbols_text}
use Rattle.refusedlines.specs.RuleNames.{shown_name}
use Rattle.refusedlines.specs.ShownParts.{awaited_part}
use Rattle.refusedlines.specs.declared.parts.AwaitedPart.{AwaitedPart}
use Rattle.ruletable.specs.Rules as table
use Rattle.ruletable.specs.declared.alphabet.Alphabet.{Alphabet}
use Rattle.ruletable.specs.declared.table.Defined.{Defined}
use Rattle.ruletable.specs.declared.table.Defined.TheVariants.{Added, Duplicate}
use Rattle.ruletable.specs.declared.table.NameCase.TheVariants.{Exact}

-- a terminal of several symbols, before any of them and after some
pub whole_text : (alphabet : Alphabet) (e : Element) (k : ℕ) (text : List ℕ) → k ≡ 0 → text ≡ cut (text_of e)
    → IsLongLeafText alphabet e k text
whole_text alphabet e zero text none is = is
whole_text alphabet e (suc k) text none is = absurd (cc none)

pub read_text : (alphabet : Alphabet) (e : Element) (k : ℕ) (set text : List ℕ) → (k ≡ 0 → ⊥)
    → IsSetText alphabet (leaf_set e k) set → text ≡ set ++ (codes " of " ++ cut (text_of e))
    → IsLongLeafText alphabet e k text
read_text alphabet e zero set text some is put = absurd (some refl)
read_text alphabet e (suc k) set text some is put = (set, is, put)

-- a terminal of one symbol, and one of several
pub short_text : (alphabet : Alphabet) (e : Element) (k : ℕ) (text : List ℕ) → leaf_size e ≡ 1
    → IsSetText alphabet (leaf_set e k) text → IsLeafText (leaf_size e == 1) alphabet e k text
short_text alphabet e k text one is =
    subst (λ n. IsLeafText (n == 1) alphabet e k text) (sym one) is

pub long_text : (alphabet : Alphabet) (e : Element) (k : ℕ) (text : List ℕ) → (leaf_size e ≡ 1 → ⊥)
    → IsLongLeafText alphabet e k text → IsLeafText (leaf_size e == 1) alphabet e k text
long_text alphabet e k text several is = by (leaf_size e == 1) refl
  where
    by : (b : Bool) → (leaf_size e == 1) ≡ b → IsLeafText b alphabet e k text
    by true one = absurd (several (eqb-true (leaf_size e) 1 one))
    by false one = is

-- one text of a set, of a terminal, of a part, and of the parts that are reported
set_one : (alphabet : Alphabet) (set : Option Set) (a b : List ℕ) → IsSetText alphabet set a → IsSetText alphabet set b
    → a ≡ b
set_one alphabet set a b p q =
    let runs = apart_one 0 p.runs q.runs p.apart q.apart
    (λ c. (λ h. (q.letters c).1 ((p.letters c).0 h), λ h. (p.letters c).1 ((q.letters c).0 h))) in
    p.is ∙ ap (symbols_text alphabet) runs ∙ sym q.is

long_one : (alphabet : Alphabet) (e : Element) (k : ℕ) (a b : List ℕ) → IsLongLeafText alphabet e k a
    → IsLongLeafText alphabet e k b → a ≡ b
long_one alphabet e zero a b p q = p ∙ sym q
long_one alphabet e (suc k) a b p q =
    let sets = set_one alphabet (leaf_set e (suc k)) p.0 q.0 p.1 q.1 in
    p.2 ∙ ap (λ (set : List ℕ). set ++ (codes " of " ++ cut (text_of e))) sets ∙ sym q.2

leaf_one : (short : Bool) (alphabet : Alphabet) (e : Element) (k : ℕ) (a b : List ℕ) → IsLeafText short alphabet e k a
    → IsLeafText short alphabet e k b → a ≡ b
leaf_one true alphabet e k a b p q = set_one alphabet (leaf_set e k) a b p q
leaf_one false alphabet e k a b p q = long_one alphabet e k a b p q

text_one : (alphabet : Alphabet) (rules : List Rule) (e : Element) (k : ℕ) (named : Option (List ℕ)) (a b : List ℕ)
    → IsTextFor alphabet rules e k named a → IsTextFor alphabet rules e k named b → a ≡ b
text_one alphabet rules e k None a b p q = leaf_one (leaf_size e == 1) alphabet e k a b p q
text_one alphabet rules e k (Some name) a b p q = p ∙ sym q

module _ (alphabet : Alphabet) (rules : List Rule) where
  part_one : (part : ShownPart) (a b : List ℕ) → IsPartText alphabet rules part a → IsPartText alphabet rules part b
      → a ≡ b
  part_one part a b p q =
      let same = text_one alphabet rules part.element part.read (element_name part.element) p.element q.element p.shows
      q.shows in
      p.is ∙ ap (λ (text : List ℕ). text ++ (codes " in " ++ shown_name rules part.rule)) same ∙ sym q.is

  texts_one : {parts : List ShownPart} {a b : List (List ℕ)} → ArePartTexts alphabet rules parts a
      → ArePartTexts alphabet rules parts b → a ≡ b
  texts_one no_text no_text = refl
  texts_one (part_text {part = part} {text = t} {texts = ts} p all) (part_text {text = u} q others) =
      ap (λ (text : List ℕ). text ∷ ts) (part_one part t u p q)
      ∙ ap (λ (texts : List (List ℕ)). u ∷ texts) (texts_one all others)

  pub after_one : (judged : ℕ) (x : List ℕ) (n : ℕ) (a b : List (List ℕ)) → AreTextsAfter alphabet rules judged x n a
      → AreTextsAfter alphabet rules judged x n b → a ≡ b
  after_one judged x n a b p q =
      let shown = reported_one (IsPartReported alphabet rules judged x n) p.reported q.reported in
      let texts = texts_one
      (subst (λ (parts : List ShownPart). ArePartTexts alphabet rules parts p.texts) shown p.listed) q.listed in
      p.is ∙ ap (texts_once []) texts ∙ sym q.is

  -- one part more
  texts_more : {parts : List ShownPart} {texts : List (List ℕ)} → ArePartTexts alphabet rules parts texts
      → (part : ShownPart) (text : List ℕ) → IsPartText alphabet rules part text
      → ArePartTexts alphabet rules (parts ++ part ∷ []) (texts ++ text ∷ [])
  texts_more no_text part text is = part_text is no_text
  texts_more (part_text one all) part text is = part_text one (texts_more all part text is)

-- a text, unless it is one of these
abbrev if_new : List (List ℕ) → List ℕ → List (List ℕ)
if_new seen t = if list_any (bytes_eq t) seen then [] else t ∷ []

-- texts and one more, each once
once_alone : (seen : List (List ℕ)) (t : List ℕ) (b : Bool) → list_any (bytes_eq t) seen ≡ b
    → texts_once seen (t ∷ []) ≡ if_new (seen ++ []) t
once_alone seen t b is = by b is ∙ ap (λ (s : List (List ℕ)). if_new s t) (sym (append-nil seen))
  where
    by : (b : Bool) → list_any (bytes_eq t) seen ≡ b → texts_once seen (t ∷ []) ≡ if_new seen t
    by true is = rw is refl
    by false is = rw is refl

once_after : (seen us : List (List ℕ)) (u t : List ℕ) (b : Bool) → list_any (bytes_eq u) seen ≡ b
    → texts_once seen (us ++ t ∷ []) ≡ texts_once seen us ++ if_new (seen ++ texts_once seen us) t
    → texts_once (seen ++ u ∷ []) (us ++ t ∷ [])
    ≡ texts_once (seen ++ u ∷ []) us ++ if_new ((seen ++ u ∷ []) ++ texts_once (seen ++ u ∷ []) us) t
    → texts_once seen (u ∷ (us ++ t ∷ [])) ≡ texts_once seen (u ∷ us) ++ if_new (seen ++ texts_once seen (u ∷ us)) t
once_after seen us u t true is known new = rw is known
once_after seen us u t false is known new =
    let rest = texts_once (seen ++ u ∷ []) us in
    let same : (seen ++ u ∷ []) ++ rest ≡ seen ++ u ∷ rest = append_assoc seen (u ∷ []) rest in
    rw is (ap (λ (texts : List (List ℕ)). u ∷ texts) (new ∙ ap (λ (s : List (List ℕ)). rest ++ if_new s t) same))

once_more : (seen ts : List (List ℕ)) (t : List ℕ)
    → texts_once seen (ts ++ t ∷ []) ≡ texts_once seen ts ++ if_new (seen ++ texts_once seen ts) t
once_more seen [] t = once_alone seen t (list_any (bytes_eq t) seen) refl
once_more seen (u ∷ us) t = once_after seen us u t (list_any (bytes_eq u) seen) refl (once_more seen us t)
    (once_more (seen ++ u ∷ []) us t)

-- a table finds a text exactly if one of its names is it
any_first : {X : Type 0} (p : X → Bool) (x : X) (xs : List X) (b : Bool) → p x ≡ b
    → list_any p xs ≡ nat_lt (position_or_len p xs) (length xs)
    → list_any p (x ∷ xs) ≡ nat_lt (position_or_len p (x ∷ xs)) (length (x ∷ xs))
any_first p x xs true e rest = grind (arith, e)
any_first p x xs false e rest = grind (arith, e, rest)

any_before : {X : Type 0} (p : X → Bool) (xs : List X) → list_any p xs ≡ nat_lt (position_or_len p xs) (length xs)
any_before p [] = refl
any_before p (x ∷ xs) = any_first p x xs (p x) refl (any_before p xs)

any_named : {E : Type 0} (name : List ℕ) (rules : List (table.Rule E))
    → list_any (bytes_eq name) (map (λ r. r.name) rules) ≡ list_any (λ r. bytes_eq name r.name) rules
any_named name [] = refl
any_named name (r ∷ rules) = ap (λ b. bytes_eq name r.name || b) (any_named name rules)

module _ {E : Type 0} (rules : table.Rules E) (exact : rules.names ≡ Exact) (name : List ℕ) where
  new_text : table.find_in rules name ≡ None → list_any (bytes_eq name) (table.names_of rules) ≡ false
  new_text none = any_named name rules.rules ∙ any_before (λ r. bytes_eq name r.name) rules.rules
      ∙ by (nat_lt _ _) refl (subst (λ c. position (λ r. table.same_name c name r.name) rules.rules ≡ None) exact none)
    where
      by : (b : Bool) → nat_lt (position_or_len (λ r. bytes_eq name r.name) rules.rules) (length rules.rules) ≡ b
          → position (λ r. bytes_eq name r.name) rules.rules ≡ None → b ≡ false
      by true e h = absurd (let is = ap (λ t. cond t (Some (position_or_len (λ r. bytes_eq name r.name) rules.rules))
          None) (sym e) ∙ h in cc is)
      by false e h = refl

  known_text : (id : ℕ) → table.find_in rules name ≡ Some id
      → list_any (bytes_eq name) (table.names_of rules) ≡ true
  known_text id some = any_named name rules.rules ∙ any_before (λ r. bytes_eq name r.name) rules.rules
      ∙ by (nat_lt _ _) refl
      (subst (λ c. position (λ r. table.same_name c name r.name) rules.rules ≡ Some id) exact some)
    where
      by : (b : Bool) → nat_lt (position_or_len (λ r. bytes_eq name r.name) rules.rules) (length rules.rules) ≡ b
          → position (λ r. bytes_eq name r.name) rules.rules ≡ Some id → b ≡ true
      by true e h = refl
      by false e h = absurd (let is = ap (λ t. cond t (Some (position_or_len (λ r. bytes_eq name r.name) rules.rules))
          None) (sym e) ∙ h in cc is)

-- a table with a text more
module _ (old new : table.Rules (Unit {0})) (rule : table.Rule (Unit {0})) (exact : old.names ≡ Exact) where
  -- its names are those texts, each once
  abbrev HasNew : Type 0
  HasNew = (new.names ≡ Exact) × (table.names_of new ≡ table.names_of old ++ if_new (table.names_of old) rule.name)

  text_defined : (defined : Defined) → table.Defines old new rule defined → HasNew
  text_defined (Added id) h =
      let fresh = new_text old exact rule.name h.0 in (
        ap (λ (t : table.Rules (Unit {0})). t.names) h.2 ∙ exact,
        ap table.names_of h.2 ∙ map-append (λ (r : table.Rule (Unit {0})). r.name) old.rules (rule ∷ [])
            ∙ ap (λ b. table.names_of old ++ cond b [] (rule.name ∷ [])) (sym fresh),
      )
  text_defined (Duplicate id) h =
      let known = known_text old exact rule.name id h.0 in (
        ap (λ (t : table.Rules (Unit {0})). t.names) h.1 ∙ exact,
        ap table.names_of h.1 ∙ sym (append-nil (table.names_of old))
            ∙ ap (λ b. table.names_of old ++ cond b [] (rule.name ∷ [])) (sym known),
      )

-- the texts of the first parts, each once
pub record AreFirstTexts (alphabet : Alphabet) (rules : List Rule) (parts : List AwaitedPart)
    (once : table.Rules (Unit {0})) : Type 0 where
  pub exact : once.names ≡ Exact
  pub texts : List (List ℕ)
  pub listed : ArePartTexts alphabet rules (map awaited_part parts) texts
  pub is : table.names_of once ≡ texts_once [] texts

pub first_texts_none : (alphabet : Alphabet) (rules : List Rule) (once : table.Rules (Unit {0})) → once.names ≡ Exact
    → once.rules ≡ [] → AreFirstTexts alphabet rules [] once
first_texts_none alphabet rules once exact none = record {
  exact = exact;
  texts = [];
  listed = no_text;
  is = ap (λ (rs : List (table.Rule (Unit {0}))). map (λ r. r.name) rs) none;
}

pub first_texts_more : (alphabet : Alphabet) (rules : List Rule) (parts : List AwaitedPart) (i : ℕ) (part : AwaitedPart)
    (old new : table.Rules (Unit {0})) (rule : table.Rule (Unit {0})) (defined : Defined) (text : List ℕ)
    → i < length parts → part ≡ get_or parts i part → AreFirstTexts alphabet rules (take i parts) old
    → IsPartText alphabet rules (awaited_part part) text → rule.name ≡ text → table.Defines old new rule defined
    → AreFirstTexts alphabet rules (take (i + 1) parts) new
first_texts_more alphabet rules parts i part old new rule defined text lt is before one named defines =
    let there = text_defined old new rule before.exact defined defines in
    let front : map awaited_part (take (i + 1) parts) ≡ map awaited_part (take i parts) ++ awaited_part part ∷ [] =
    ap (map awaited_part) (take_more parts i part lt)
    ∙ map-append awaited_part (take i parts) (get_or parts i part ∷ [])
    ∙ ap (λ p. map awaited_part (take i parts) ++ awaited_part p ∷ []) (sym is) in
    record {
      exact = there.0;
      texts = before.texts ++ text ∷ [];
      listed = subst (λ ps. ArePartTexts alphabet rules ps (before.texts ++ text ∷ [])) (sym front)
          (texts_more alphabet rules before.listed (awaited_part part) text one);
      is = there.1 ∙ (λ j. before.is j ++ if_new (before.is j) (named j)) ∙ sym (once_more [] before.texts text);
    }
