-- A text of which no name but the first begins a rule spells one definition.
-- Serves: joined_reading
use Rattle.std.proofs.Common.{◌≡◌, ℕ, zero, suc, ◌+◌, ◌≤◌, ◌&&◌, Bool, true, false, not}
use Rattle.std.proofs.Common.{Some, List, [], ◌∷◌, ◌++◌, length, drop, refl, sym, ap, ◌∙◌, arith}
use Rattle.std.proofs.Common.{append_assoc, length-append, subst}
use Rattle.std.proofs.lemmas.List.{drop_at}
use Rattle.std.specs.Char.{is_ascii_alphabetic}
use Rattle.ruletable.specs.declared.span.Span.{Span}
use Rattle.lexer.specs.TokenLists as lexing
use Rattle.lexer.specs.TokenLists.{Tok, tok, last_one, one_more}
use Rattle.lexer.specs.Viability.{say_none, say_more}
use Rattle.abnfread.specs.declared.kind.AbnfKind.{AbnfKind}
use Rattle.abnfread.specs.AbnfKinds.{ends_list}
use Rattle.abnfread.specs.declared.kind.AbnfKind.TheVariants as kinds
use Rattle.abnfread.specs.AbnfSays.{SayAll, SaysKind, says_name, says_is, says_adds, says_slash, says_lparen}
use Rattle.abnfread.specs.AbnfSays.{says_rparen, says_lbrack, says_rbrack, says_repeat, says_text, says_cased}
use Rattle.abnfread.specs.AbnfSays.{says_num, says_prose, says_end}
use Rattle.abnfread.specs.AbnfSlices.{White, First, Stands, name}
use Rattle.abnfread.specs.AbnfSpelling.{OneElement, parens, brackets, Repetition, once, repeated, Parts, one, further}
use Rattle.abnfread.specs.AbnfSpelling.{Alternatives, only, others, Alternation, alternatives, Assigns, definition}
use Rattle.abnfread.specs.AbnfSpelling.{Grammar}
use Rattle.abnfread.specs.AbnfSpelling.{last_rule, more_rules}
use Rattle.abnfread.specs.AbnfSpelling as spelling
use Rattle.abnfread.specs.AbnfWords.{Word, word, Said, Name}
use Rattle.abnfread.specs.Numerals.{SaysNum, says_values, says_range}
use Rattle.abnfread.specs.Element.{Definition, Element, Elements}
use Rattle.abnfread.specs.MarkedTokens.{begins_rule, indented, indent_at, is_first, marks}
use Rattle.abnfread.proofs.AbnfSliceLemmas.{first-less, white-ends}
use Rattle.abnftexts.proofs.LinkedTextLemmas.{begins-at_none}
use Rattle.abnftexts.proofs.LinkedTokenLemmas.{WordSaid, first-said, word-said}
use Rattle.abnftexts.proofs.EachLemmas.{Each, each_none, each_next}
use Rattle.abnftexts.proofs.OneRuleLemmas.{Later, is_dark, later-at}

abbrev pub IsName : Said → Type 0
IsName (Name z p) = Unit {0}
IsName s = ⊥

-- if the word is a name, it is the first of no line that begins a rule
abbrev pub NotFirst : Word → Type 0
NotFirst (word g f s) = IsName s → f ≡ false

module _ {P : Word → Type 0} where
  after-one : {w : Word} {r : List Word} → Each P (w ∷ r) → Each P r
  after-one (each_next p h) = h

  mutual
    element-each : {s r : List Word} {x : Element} → OneElement s r x → Each P s → Each P r
    element-each spelling.name (each_next p h) = h
    element-each spelling.text (each_next p h) = h
    element-each spelling.values (each_next p h) = h
    element-each spelling.range (each_next p h) = h
    element-each spelling.prose (each_next p h) = h
    element-each (parens y) (each_next p h) = after-one (alternation-each y h)
    element-each (brackets y) (each_next p h) = after-one (alternation-each y h)

    repetition-each : {s r : List Word} {x : Element} → Repetition s r x → Each P s → Each P r
    repetition-each (once y) h = element-each y h
    repetition-each (repeated n y) (each_next p h) = element-each y h

    parts-each : {s r : List Word} {xs : Elements} → Parts s r xs → Each P s → Each P r
    parts-each (one y) h = repetition-each y h
    parts-each (further y n ys) h = parts-each ys (repetition-each y h)

    alternatives-each : {s r : List Word} {xs : Elements} → Alternatives s r xs → Each P s → Each P r
    alternatives-each (only y) h = parts-each y h
    alternatives-each (others y ys) h = alternatives-each ys (after-one (parts-each y h))

    alternation-each : {s r : List Word} {x : Element} → Alternation s r x → Each P s → Each P r
    alternation-each (alternatives ys) h = alternatives-each ys h

-- the words spell one definition
pub record OneSpelled (ws : List Word) (ds : List Definition) : Type 0 where
  pub gap : Bool
  pub name : List ℕ
  pub span : Span
  pub sign : Word
  pub rest : List Word
  pub whole : ws ≡ word gap true (Name name span) ∷ sign ∷ rest
  pub assigns_more : Bool
  pub assigns : Assigns sign assigns_more
  pub body : Element
  pub is_one : ds ≡ definition assigns_more name span body ∷ []

no_rule-first : {ws : List Word} {ds : List Definition} → Grammar ws ds → Each NotFirst ws → ⊥
no_rule-first (last_rule a h) (each_next p k) = let e : true ≡ false = p tt in cc
no_rule-first (more_rules a h g) (each_next p k) = let e : true ≡ false = p tt in cc

pub one-spelled : {w : Word} {vs : List Word} {ds : List Definition} → Grammar (w ∷ vs) ds → Each NotFirst vs
    → OneSpelled (w ∷ vs) ds
one-spelled (last_rule {g} {a = a} {n} {p} {w = v} {s = s} {x = x} y h) k = record {
  gap = g;
  name = n;
  span = p;
  sign = v;
  rest = s;
  whole = refl;
  assigns_more = a;
  assigns = y;
  body = x;
  is_one = refl;
}
one-spelled (more_rules y h more) k = absurd (no_rule-first more (alternation-each h (after-one k)))

letter-not_dark : (c : ℕ) → is_ascii_alphabetic c ≡ true → is_dark c ≡ true → ⊥
letter-not_dark c e f = let bad : not true ≡ true = rw e at f in cc

dark-none : {c : ℕ} {v r : List ℕ} → is_dark c ≡ true → Stands kinds.Name (c ∷ v) r → ⊥
dark-none {c = c} e (name p h) = letter-not_dark c p e

number-names : {z : List ℕ} {s : Said} → SaysNum z s → IsName s → ⊥
number-names (says_values t l) i = i
number-names (says_range t e l h) i = i

-- a name is what a token of its kind says
name-kind : {k : AbnfKind} {z : List ℕ} {p : Span} {s : Said} → SaysKind k z p s → IsName s → k ≡ kinds.Name
name-kind says_name i = refl
name-kind says_is i = absurd i
name-kind says_adds i = absurd i
name-kind says_slash i = absurd i
name-kind says_lparen i = absurd i
name-kind says_rparen i = absurd i
name-kind says_lbrack i = absurd i
name-kind says_rbrack i = absurd i
name-kind (says_repeat h) i = absurd i
name-kind (says_text e) i = absurd i
name-kind (says_cased c e) i = absurd i
name-kind (says_num h) i = absurd (number-names h i)
name-kind (says_prose e) i = absurd i
name-kind says_end i = absurd i

false-or_true : (x : Bool) → (x ≡ true → ⊥) → x ≡ false
false-or_true true f = absurd (f refl)
false-or_true false f = refl

and-none : (x y : Bool) → y ≡ false → (x && y) ≡ false
and-none true y e = e
and-none false y e = refl

not-first : {k : AbnfKind} {z : List ℕ} {p : Span} {g f : Bool} {w : Word} → WordSaid k z p g f w
    → (k ≡ kinds.Name → f ≡ false) → NotFirst w
not-first o e = let is = o.is in rw is (λ i. e (name-kind o.says_it i))

module _ (b : ℕ) (rest : List ℕ) (later : Later (indented (Some 0) b) rest) where
  abbrev whole : List ℕ
  whole = b ∷ rest

  -- no name after the first byte begins a rule
  token-later : (front token : List ℕ) (n : ℕ) {k : AbnfKind} {r : List ℕ} → whole ≡ front ++ token → 1 ≤ n
      → n + length token ≡ length whole → Stands k token r → k ≡ kinds.Name
      → begins_rule (Some 0) (indent_at whole n) ≡ false
  token-later front token zero e le position s name_is = absurd (omega arith)
  token-later front [] (suc n) e le position s name_is = absurd (nothing-stands s)
    where
      nothing-stands : {k : AbnfKind} {r : List ℕ} → Stands k [] r → ⊥
      nothing-stands s = elim s [ ]
  token-later front (c ∷ v) (suc n) {r = r} e le position s name_is =
      let size = ap length e in
      let there : drop n rest ≡ c ∷ v =
      (let at : length front ≡ suc n = omega (arith, length-append front (c ∷ v)) in
      ap (drop (suc n)) e ∙ drop_at front (c ∷ v) (suc n) at) in
      false-or_true (begins_rule (Some 0) (indent_at whole (suc n)))
      (λ q. dark-none (later-at later n (begins-at_none (indent_at whole (suc n)) q) c v there)
      (subst (λ (x : AbnfKind). Stands x (c ∷ v) r) name_is s))

  all-later : (front : List ℕ) {t : List ℕ} {ts : List (Tok AbnfKind)} {ws : List Word} (n : ℕ) → whole ≡ front ++ t
      → 1 ≤ length front → lexing.AreTokens White First ends_list (length whole) t ts
      → SayAll (marks whole (Some 0) n ts) ws → Each NotFirst ws
  all-later front n e le (last_one {x = tok k z p} h is_end) (say_more y say_none) =
      let first : is_first whole (Some 0) (tok k z p) ≡ false = rw is_end refl in
      each_next (not-first (word-said y) (λ e. first)) each_none
  all-later front {t} n e le (one_more {r = r} {x = tok k z p} h goes more) (say_more y says_more) =
      let o = word-said y in
      let longest = first-said goes o.says_it h.first in
      let white = white-ends h.white in
      let before = front ++ white.front in
      let whole_is : whole ≡ before ++ h.token = e ∙ ap (λ (v : List ℕ). front ++ v) white.whole
      ∙ sym (append_assoc front white.front h.token) in
      let next_is : whole ≡ (before ++ z) ++ r = whole_is ∙ ap (λ (v : List ℕ). before ++ v) h.cut
      ∙ sym (append_assoc before z r) in
      let le_before : 1 ≤ length before = omega (arith, length-append front white.front) in
      let start : 1 ≤ p.start = (let size = ap length whole_is in let position = h.position in
      omega (arith, length-append before h.token)) in
      let le_next : 1 ≤ length (before ++ z) = omega (arith, length-append before z) in
      let none = token-later before h.token p.start whole_is start h.position longest.stands in
      each_next
      (not-first o (λ e. and-none (not (ends_list k)) (begins_rule (Some 0) (indent_at whole p.start)) (none e)))
      (all-later (before ++ z) p.end next_is le_next more says_more)

  -- all words but the first
  record FirstAlone (ws : List Word) : Type 0 where
    first : Word
    others : List Word
    whole_words : ws ≡ first ∷ others
    later_words : Each NotFirst others

  first-alone : {ts : List (Tok AbnfKind)} {ws : List Word}
      → lexing.AreTokens White First ends_list (length whole) whole ts
      → SayAll (marks whole (Some 0) 0 ts) ws → FirstAlone ws
  first-alone (last_one h is_end) (say_more {w} y say_none) = record {
    first = w;
    others = [];
    whole_words = refl;
    later_words = each_none;
  }
  first-alone (one_more {r = r} {x = tok k z p} h goes more) (say_more {w} {ws = vs} y says_more) =
      let white = white-ends h.white in
      let less = first-less goes h.first in
      let next_is : whole ≡ (white.front ++ z) ++ r = white.whole ∙ ap (λ (v : List ℕ). white.front ++ v) h.cut
      ∙ sym (append_assoc white.front z r) in
      let le_next : 1 ≤ length (white.front ++ z) =
      (let cut = ap length h.cut in omega (arith, length-append white.front z, length-append z r)) in
      record {
        first = w;
        others = vs;
        whole_words = refl;
        later_words = all-later (white.front ++ z) p.end next_is le_next more says_more;
      }

  pub text-one : {ts : List (Tok AbnfKind)} {ws : List Word} {ds : List Definition}
      → lexing.AreTokens White First ends_list (length whole) whole ts → SayAll (marks whole (Some 0) 0 ts) ws
      → Grammar ws ds → OneSpelled ws ds
  text-one t s g =
      let f = first-alone t s in
      let is_whole = f.whole_words in
      rw is_whole (one-spelled (rw is_whole at g) f.later_words)
