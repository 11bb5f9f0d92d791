-- The text of a rule's own lines spells one definition.
-- Serves: join_texts, joined_reading
use Rattle.std.proofs.Common.{◌≡◌, ℕ, ◌&&◌, Bool, true, false, Some, List, [], ◌∷◌, ◌++◌, drop, map, refl}
use Rattle.std.proofs.Common.{sym, ap, ◌∙◌, arith, subst, append-nil, append_assoc, min}
use Rattle.std.specs.Char.{is_ascii_alphabetic}
use Rattle.abnfblocks.specs.TextLines.{NumberedLine}
use Rattle.abnfread.specs.AbnfReading.{Reads}
use Rattle.abnfread.specs.AbnfSpelling.{definition}
use Rattle.abnfread.specs.CoreRules.{nowhere}
use Rattle.abnfread.specs.Element.{Definition}
use Rattle.abnfread.specs.MarkedTokens.{indented}
use Rattle.abnfblocks.specs.RuleLines.{begins_letter, begins_by, rest_after_margin, rest_after_name, margin_of}
use Rattle.abnfblocks.specs.RuleCuts.{cut_line, lines_text, opens_rule}
use Rattle.abnftexts.specs.GivenRules.{RuleGiven}
use Rattle.abnfblocks.specs.LinkedLines.{EndsLine, lf, after_byte}
use Rattle.abnftexts.specs.LinkedTexts.{SpellsAtMargin, moved_definition}
use Rattle.abnftexts.specs.SpelledRules.{unplaced}
use Rattle.abnftexts.specs.TextRules.{given_by}
use Rattle.abnftexts.proofs.LinkedTextLemmas.{reads-spells}
use Rattle.abnftexts.proofs.ClearLinesLemmas.{AreInside, IsClear}
use Rattle.abnftexts.proofs.EachLemmas.{Each, each_next, each-drop}
use Rattle.abnftexts.proofs.OneDefinitionLemmas.{text-one}
use Rattle.abnftexts.proofs.OneRuleLemmas.{Later, indented-inner, inner-later, lines-later}
use Rattle.abnftexts.proofs.OwnLinesLemmas.{OwnLines}

pub line-after : (front : List ℕ) {t : List ℕ} → EndsLine t → EndsLine (front ++ t)
line-after [] l = l
line-after (b ∷ front) l = after_byte (line-after front l)

-- The text of a rule begins with a letter, and LF ends it. No line but the first begins a rule.
pub record RuleText (m : ℕ) (lines : List NumberedLine) : Type 0 where
  pub first : ℕ
  pub tail : List ℕ
  pub whole : lines_text m lines ≡ first ∷ tail
  pub letter : is_ascii_alphabetic first ≡ true
  pub line : EndsLine (lines_text m lines)
  pub later : Later (indented (Some 0) first) tail

pub record LetterFirst (t : List ℕ) : Type 0 where
  pub first : ℕ
  pub tail : List ℕ
  pub is_letter : t ≡ first ∷ tail
  pub letter : is_ascii_alphabetic first ≡ true

pub letter-first : (t : List ℕ) → begins_letter t ≡ true → LetterFirst t
letter-first [] e = cc
letter-first (b ∷ t) e = record { first = b; tail = t; is_letter = refl; letter = e }

letter-later : {b : ℕ} {tail rest : List ℕ} → AreInside (b ∷ tail) → Later (Some 0) rest
    → Later (indented (Some 0) b) (tail ++ 10 ∷ rest)
letter-later {b} (each_next p h) r = inner-later (indented (Some 0) b) (indented-inner (Some 0) b p) h r

each-first : {X : Type 0} {P : X → Type 0} {x : X} {xs : List X} → Each P (x ∷ xs) → P x
each-first (each_next p h) = p

each-rest : {X : Type 0} {P : X → Type 0} {x : X} {xs : List X} → Each P (x ∷ xs) → Each P xs
each-rest (each_next p h) = h

pub lines-end : (m : ℕ) (line : NumberedLine) (lines : List NumberedLine) → EndsLine (lines_text m (line ∷ lines))
lines-end m line [] =
    let e = append-nil (cut_line m line) in
    rw e (line-after (drop (min m (margin_of line.bytes)) line.bytes) lf)
lines-end m line (next ∷ lines) = line-after (cut_line m line) (lines-end m next lines)

first-true : (x y : Bool) → (x && y) ≡ true → x ≡ true
first-true true y e = refl
first-true false y e = cc

min-same : (m : ℕ) → min m m ≡ m
min-same m = omega arith

own-line : {m : ℕ} {lines : List NumberedLine} (own : OwnLines m lines) → EndsLine (lines_text m lines)
own-line {m} own = subst EndsLine (sym (ap (lines_text m) own.whole)) (lines-end m own.line own.others)

-- the text of lines of which the first begins a rule
record LetterText (m : ℕ) (line : NumberedLine) (lines : List NumberedLine) : Type 0 where
  first : ℕ
  tail : List ℕ
  whole : lines_text m (line ∷ lines) ≡ first ∷ (tail ++ 10 ∷ lines_text m lines)
  is_line : rest_after_margin line.bytes ≡ first ∷ tail
  letter : is_ascii_alphabetic first ≡ true

letter-text : {m : ℕ} (line : NumberedLine) (lines : List NumberedLine) → margin_of line.bytes ≡ m
    → opens_rule line ≡ true → LetterText m line lines
letter-text {m} line lines margin opens =
    let bytes = line.bytes in
    let letter : begins_letter (rest_after_margin bytes) ≡ true = first-true (begins_letter (rest_after_margin bytes))
    (begins_by 61 (rest_after_margin (rest_after_name (rest_after_margin bytes)))) opens in
    let cut : min m (margin_of bytes) ≡ margin_of bytes =
    ap (λ (k : ℕ). min k (margin_of bytes)) (sym margin) ∙ min-same (margin_of bytes) in
    let others = lines_text m lines in
    let x = letter-first (rest_after_margin bytes) letter in
    let text : lines_text m (line ∷ lines) ≡ rest_after_margin bytes ++ 10 ∷ others =
    ap (λ (k : ℕ). (drop k bytes ++ 10 ∷ []) ++ others) cut ∙ append_assoc (rest_after_margin bytes) (10 ∷ []) others in
    record {
      first = x.first;
      tail = x.tail;
      whole = text ∙ ap (λ (t : List ℕ). t ++ 10 ∷ others) x.is_letter;
      is_line = x.is_letter;
      letter = x.letter;
    }

pub rule-text : {m : ℕ} {lines : List NumberedLine} → OwnLines m lines → RuleText m lines
rule-text {m} {lines} own =
    let x = letter-text own.line own.others own.margin_is own.opens in
    let clear : Each IsClear (own.line ∷ own.others) = subst (Each IsClear) own.whole own.clear in
    let first_clear = each-first clear in
    let bytes = own.line.bytes in
    let inside : AreInside (x.first ∷ x.tail) =
    subst AreInside x.is_line (each-drop (margin_of bytes) first_clear.inside) in
    record {
      first = x.first;
      tail = x.tail ++ 10 ∷ lines_text m own.others;
      whole = ap (lines_text m) own.whole ∙ x.whole;
      letter = x.letter;
      line = own-line own;
      later = letter-later inside (lines-later m (each-rest clear) own.goes);
    }

-- a text that begins so and reads is not indented
pub text-spells : {t u : List ℕ} {c : ℕ} {ds : List Definition} → t ≡ c ∷ u → is_ascii_alphabetic c ≡ true
    → Reads t ds → SpellsAtMargin t ds
text-spells e letter h = rw e (reads-spells letter (rw e at h))

pub rule-one : {m : ℕ} {lines : List NumberedLine} {ds : List Definition} → OwnLines m lines
    → SpellsAtMargin (lines_text m lines) ds → (d : Definition) × (ds ≡ d ∷ [])
rule-one {ds = ds} own h =
    let t = rule-text own in
    let k : SpellsAtMargin (t.first ∷ t.tail) ds = subst (λ (x : List ℕ). SpellsAtMargin x ds) t.whole h in
    let one = text-one t.first t.tail t.later k.are_tokens k.say k.grammar in
    (definition one.assigns_more one.name one.span one.body, one.is_one)

-- definitions that differ in where names stand alone
abbrev pub SameUnplaced : List Definition → List Definition → Type 0
SameUnplaced a b = map unplaced a ≡ map unplaced b

pub moved-same : (n : ℕ) (ds : List Definition) → SameUnplaced (map (moved_definition n) ds) ds
moved-same n [] = refl
moved-same n (d ∷ ds) = ap (λ (x : List RuleGiven). unplaced d ∷ x) (moved-same n ds)

-- it is seen without its position
abbrev given_of : RuleGiven → RuleGiven
given_of r = given_by (record { adds = r.adds; name = r.name; span = nowhere; body = r.body })

given-same : (x y : Definition) → unplaced x ≡ unplaced y → given_by x ≡ given_by y
given-same x y e = ap given_of e

pub all-given : (xs ys : List Definition) → SameUnplaced xs ys → map given_by xs ≡ map given_by ys
all-given [] [] e = refl
all-given [] (y ∷ ys) e = cc
all-given (x ∷ xs) [] e = cc
all-given (x ∷ xs) (y ∷ ys) e =
    let first : unplaced x ≡ unplaced y = cc in
    let rest : map unplaced xs ≡ map unplaced ys = cc in
    ap (λ (r : RuleGiven). r ∷ map given_by xs) (given-same x y first)
    ∙ ap (λ (rs : List RuleGiven). given_by y ∷ rs) (all-given xs ys rest)
