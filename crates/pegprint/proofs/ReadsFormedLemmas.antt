-- The patterns that a text reads as are formed.
-- Serves: is_read_back
use Rattle.std.proofs.Common.{◌≡◌, ℕ, ◌<◌, ◌≤◌, nat_lt, cond, Bool, false, List, [], ◌∷◌, ◌++◌, refl, subst, arith, ◌∙◌}
use Rattle.std.proofs.lemmas.Bool.{le-ltb}
use Rattle.pegread.specs.Actions.{IsAction, braced}
use Rattle.pegread.specs.Chars as chars
use Rattle.pegread.specs.Chars.{Char, Chars, Form, Octal, octal_digit, Hex, Letter}
use Rattle.pegread.specs.Classes.{SpellsSet, positive, negative}
use Rattle.pegread.specs.Formed.{AreBytes, IsByteSet, IsTemplate, IsFormed, AreFormed, AreFormedRules, IsSome}
use Rattle.pegread.specs.Names.{IsName}
use Rattle.pegread.specs.Pattern.{Pattern, Patterns, none, more, Rule}
use Rattle.pegread.specs.Reading.{Reads}
use Rattle.lexer.specs.SliceEnds.{no_more, piece}
use Rattle.pegread.specs.Slices as slices
use Rattle.pegread.specs.Slices.{White, Comment, Body}
use Rattle.pegread.specs.Spelling.{sequence, choice, Primary, name, literal, class, dot, action, begin, end_cap, parens}
use Rattle.pegread.specs.Spelling.{Suffixed, bare, quest, star, plus, Prefixed, plain, bang, amp, Items, no_item, item}
use Rattle.pegread.specs.Spelling.{Alternatives, only, further, Expression, expression, Grammar, last_definition}
use Rattle.pegread.specs.Spelling.{more_definitions}
use Rattle.lexer.specs.TokenLists.{slice_of, last_one, one_more}
use Rattle.pegread.specs.Tokens.{Tok, Next, AreTokens}
use Rattle.pegread.specs.Words as words
use Rattle.lexer.specs.Viability.{say_none, say_more}
use Rattle.pegread.specs.Words.{Word, Says, says_name, says_literal, says_class, says_action, SayAll}
use Rattle.pegprint.proofs.ListedRulesLemmas.{IsFull}
use Rattle.pegread.proofs.AreMarkedLemmas.{name-token, action-token}

-- what is known of a word
abbrev pub IsProper : Word → Type 0
IsProper (words.Ident n p) = IsName n
IsProper (words.Literal bs) = AreBytes bs
IsProper (words.Class f) = IsByteSet f
IsProper (words.Action t) = IsTemplate t
IsProper _ = Unit {0}

abbrev pub AreProper : List Word → Type 0
AreProper [] = Unit {0}
AreProper (w ∷ ws) = IsProper w × AreProper ws

are-front : (z r : List ℕ) → AreBytes (z ++ r) → AreBytes z
are-front [] r h = tt
are-front (b ∷ z) r h = (h.0, are-front z r h.1)

are-back : (z r : List ℕ) → AreBytes (z ++ r) → AreBytes r
are-back [] r h = h
are-back (b ∷ z) r h = are-back z r h.1

comment-bytes : {t r : List ℕ} → Comment t r → AreBytes t → AreBytes r
comment-bytes (slices.ended h) w = w
comment-bytes (slices.inside h c) w = comment-bytes c w.1

white-bytes : {t r : List ℕ} → White t r → AreBytes t → AreBytes r
white-bytes no_more w = w
white-bytes (piece (slices.blank h) c) w = white-bytes c w.1
white-bytes (piece (slices.comment h) c) w = white-bytes c (comment-bytes h w.1)

octal-most : {x k : ℕ} → Octal x k → k ≤ 7
octal-most (octal_digit h) = h

hex-most : {x k : ℕ} → Hex x k → k ≤ 15
hex-most (chars.hex_digit h) = omega arith
hex-most (chars.hex_upper h) = omega arith
hex-most (chars.hex_lower h) = omega arith

letter-most : {x k : ℕ} → Letter x k → k < 256
letter-most chars.letter_a = omega arith
letter-most chars.letter_b = omega arith
letter-most chars.letter_e = omega arith
letter-most chars.letter_f = omega arith
letter-most chars.letter_n = omega arith
letter-most chars.letter_r = omega arith
letter-most chars.letter_t = omega arith
letter-most chars.letter_v = omega arith

form-byte : {t r : List ℕ} {b : ℕ} → Form t r b → AreBytes t → (b < 256) × AreBytes r
form-byte (chars.unescaped h) w = w
form-byte (chars.letter h) w = (letter-most h, w.1.1)
form-byte (chars.octal_three h k i j) w = (let a = octal-most i in let b = octal-most j in omega arith, w.1.1.1.1)
form-byte (chars.octal_two h k) w = (let a = octal-most h in let b = octal-most k in omega arith, w.1.1.1)
form-byte (chars.octal_one h) w = (let a = octal-most h in omega arith, w.1.1)
form-byte (chars.hex_two h k) w = (let a = hex-most h in let b = hex-most k in omega arith, w.1.1.1.1)
form-byte (chars.hex_one h) w = (let a = hex-most h in omega arith, w.1.1.1)
form-byte (chars.itself h k) w = (w.1.0, w.1.1)

chars-bytes : {t bs : List ℕ} → Chars t bs → AreBytes t → AreBytes bs
chars-bytes chars.no_chars w = tt
chars-bytes (chars.more_chars c cs) w = let h = form-byte c.form w in (h.0, chars-bytes cs h.1)

none-above : (b : ℕ) (x y : Bool) → 256 ≤ b → cond (nat_lt b 256) x y ≡ y
none-above b x y h = let e = le-ltb b 256 h in rw e refl

set-formed : {z : List ℕ} {f : ℕ → Bool} → SpellsSet z f → IsByteSet f
set-formed (positive _ e n r s) b h = s b ∙ none-above b _ false h
set-formed (negative _ e r s) b h = s b ∙ none-above b _ false h

template-formed : {z : List ℕ} (t : List ℕ) → IsAction z → z ≡ 123 ∷ (t ++ 125 ∷ []) → IsTemplate t
template-formed t (braced {bs} h) e = let same : bs ≡ t ++ 125 ∷ [] = cc in subst (λ (x : List ℕ). Body x []) same h

-- a token's bytes
next-bytes : {n : ℕ} {t r : List ℕ} {x : Tok} → Next n t x r → AreBytes t → AreBytes (slice_of x ++ r)
next-bytes h w = subst AreBytes h.cut (white-bytes h.white w)

word-proper : {n : ℕ} {t r : List ℕ} {x : Tok} {w : Word} → Says x w → Next n t x r → AreBytes (slice_of x) → IsProper w
word-proper {n} {t} {r} (says_name {z} {p}) h w = name-token n t r z p h
word-proper (says_literal y) h w = chars-bytes y.chars (are-front y.inside (y.mark ∷ []) (subst AreBytes y.cut w).1)
word-proper (says_class y) h w = set-formed y
word-proper {n} {t} {r} (says_action {z} {t = s} {p} y) h w = template-formed s (action-token n t r z p h) y
word-proper _ h w = tt

tokens-proper : {n : ℕ} {t : List ℕ} {ts : List Tok} {ws : List Word} → AreTokens n t ts → SayAll ts ws → AreBytes t
    → AreProper ws
tokens-proper (last_one {r = r} {x} h e) (say_more y say_none) w =
    (word-proper y h (are-front (slice_of x) r (next-bytes h w)), tt)
tokens-proper (one_more {r = r} {x} h e k) (say_more y ys) w =
    let here = next-bytes h w in
    (word-proper y h (are-front (slice_of x) r here), tokens-proper k ys (are-back (slice_of x) r here))

sequence-formed : (es : Patterns) → AreFormed es → IsFormed (sequence es)
sequence-formed none w = (tt, tt)
sequence-formed (more x none) w = w.0
sequence-formed (more x (more y es)) w = (tt, w)

choice-formed : (es : Patterns) → IsFull es → AreFormed es → IsFormed (choice es)
choice-formed none h w = absurd h
choice-formed (more x none) h w = w.0
choice-formed (more x (more y es)) h w = (tt, w)

full-alternatives : {s r : List Word} {es : Patterns} → Alternatives s r es → IsFull es
full-alternatives (only h) = tt
full-alternatives (further h k) = tt

-- what proper words spell is formed, and they leave proper words
record Gives (x : Pattern) (r : List Word) : Type 0 where
  formed : IsFormed x
  proper : AreProper r

record GivesAll (es : Patterns) (r : List Word) : Type 0 where
  formed : AreFormed es
  proper : AreProper r

mutual
  primary-gives : {s r : List Word} {x : Pattern} → Primary s r x → AreProper s → Gives x r
  primary-gives name w = record { formed = w.0; proper = w.1 }
  primary-gives literal w = record { formed = w.0; proper = w.1 }
  primary-gives class w = record { formed = w.0; proper = w.1 }
  primary-gives dot w = record { formed = tt; proper = w.1 }
  primary-gives action w = record { formed = w.0; proper = w.1 }
  primary-gives begin w = record { formed = tt; proper = w.1 }
  primary-gives end_cap w = record { formed = tt; proper = w.1 }
  primary-gives (parens h) w = let g = expression-gives h w.1 in record { formed = g.formed; proper = g.proper.1 }

  suffixed-gives : {s r : List Word} {x : Pattern} → Suffixed s r x → AreProper s → Gives x r
  suffixed-gives (bare h) w = primary-gives h w
  suffixed-gives (quest h) w = let g = primary-gives h w in record { formed = g.formed; proper = g.proper.1 }
  suffixed-gives (star h) w = let g = primary-gives h w in record { formed = g.formed; proper = g.proper.1 }
  suffixed-gives (plus h) w = let g = primary-gives h w in record { formed = g.formed; proper = g.proper.1 }

  prefixed-gives : {s r : List Word} {x : Pattern} → Prefixed s r x → AreProper s → Gives x r
  prefixed-gives (plain h) w = suffixed-gives h w
  prefixed-gives (bang h) w = let g = suffixed-gives h w.1 in record { formed = g.formed; proper = g.proper }
  prefixed-gives (amp n h) w = let g = suffixed-gives h w.1 in record { formed = g.formed; proper = g.proper }

  items-give : {s r : List Word} {es : Patterns} → Items s r es → AreProper s → GivesAll es r
  items-give no_item w = record { formed = tt; proper = w }
  items-give (item h k) w = let g = prefixed-gives h w in let i = items-give k g.proper in
      record { formed = (g.formed, i.formed); proper = i.proper }

  alternatives-give : {s r : List Word} {bs : Patterns} → Alternatives s r bs → AreProper s → GivesAll bs r
  alternatives-give (only {xs = es} h) w = let i = items-give h w in
      record { formed = (sequence-formed es i.formed, tt); proper = i.proper }
  alternatives-give (further {xs = es} h a) w = let i = items-give h w in let b = alternatives-give a i.proper.1 in
      record { formed = (sequence-formed es i.formed, b.formed); proper = b.proper }

  expression-gives : {s r : List Word} {x : Pattern} → Expression s r x → AreProper s → Gives x r
  expression-gives (expression {ys = bs} h) w = let a = alternatives-give h w in
      record { formed = choice-formed bs (full-alternatives h) a.formed; proper = a.proper }

grammar-gives : {ws : List Word} {rules : List Rule} → Grammar ws rules → AreProper ws → AreFormedRules rules
grammar-gives (last_definition h) w = let g = expression-gives h w.1.1 in (w.0, g.formed, tt)
grammar-gives (more_definitions h k) w = let g = expression-gives h w.1.1 in (w.0, g.formed, grammar-gives k g.proper)

some-rules : {ws : List Word} {rules : List Rule} → Grammar ws rules → IsSome rules
some-rules (last_definition h) = tt
some-rules (more_definitions h k) = tt

pub reads-formed : (source : List ℕ) (rules : List Rule) → AreBytes source → Reads source rules → IsSome rules
    × AreFormedRules rules
reads-formed source rules w h = (some-rules h.grammar, grammar-gives h.grammar (tokens-proper h.are_tokens h.say w))
