-- What texts spell one after another, and how that is what they read as.
-- Serves: joined_reading, linked_reading
use Rattle.std.proofs.Common.{◌≡◌, ℕ, nat_le, ◌-◌, ◌≤◌, ◌&&◌, not, Bool, true, false, Option, Some, None, List, [], ◌∷◌}
use Rattle.std.proofs.Common.{◌++◌, length, map, refl, sym, ap, ◌∙◌, arith}
use Rattle.std.proofs.lemmas.Bool.Decides.{nat_tests}
use Rattle.std.specs.Char.{is_ascii_alphabetic}
use Rattle.lexer.specs.TokenLists as lexing
use Rattle.lexer.specs.TokenLists.{Tok, tok, last_one, one_more}
use Rattle.lexer.specs.SliceEnds.{no_more, found, bad, at_end}
use Rattle.lexer.specs.Viability.{say_none, say_more}
use Rattle.lexer.specs.declared.limits.TheConstants.{MAX_GRAMMAR, MAX_OPEN}
use Rattle.abnfread.specs.declared.kind.AbnfKind.{AbnfKind}
use Rattle.abnfread.specs.AbnfKinds.{ends_list}
use Rattle.abnfread.specs.AbnfReading.{Reads}
use Rattle.abnfread.specs.AbnfSays.{Says, says, SayAll, AreSmall, IsShallow}
use Rattle.abnfread.specs.AbnfSlices.{Piece, blank, crlf, comment, White, First, Stands}
use Rattle.abnfread.specs.AbnfSpelling.{Grammar, last_rule, more_rules}
use Rattle.abnfread.specs.AbnfWords.{End, Word, word}
use Rattle.abnfread.specs.Element.{Definition}
use Rattle.abnfread.specs.MarkedTokens.{marked, begins_rule, indent_at, margin, marks}
use Rattle.abnfread.proofs.AbnfFirstLemmas.{letter-dark}
use Rattle.abnfread.proofs.IndentLemmas.{margin-is}
use Rattle.abnfblocks.specs.LinkedLines.{EndsLine}
use Rattle.abnftexts.specs.LinkedTexts.{SpellsAtMargin, moved_definition}
use Rattle.abnftexts.proofs.LinkedTokenLemmas.{reports-first, reports-second}
use Rattle.abnftexts.proofs.MovedWordLemmas.{words_after, grammar-after, grammar-linked, shallow-after}
use Rattle.abnftexts.proofs.MovedWordLemmas.{shallow-linked}
use Rattle.abnftexts.proofs.MovedWordLemmas.{small-after, small-linked}

pub spells-linked : {a b : List ℕ} {first second : List Definition} → EndsLine a → SpellsAtMargin a first
    → SpellsAtMargin b second → SpellsAtMargin (a ++ b) (first ++ map (moved_definition (length a)) second)
spells-linked {a} {b} {first} {second} l h k =
    let n = length a in
    let t = reports-first a b (words_after n k.words) 0 l (omega arith) h.are_tokens h.say
    (λ u j lu w e. reports-second j l k.are_tokens k.say lu w e) in
    let whole = t.whole in
    let spelled : Grammar (t.front ++ word t.gap false End ∷ []) first = (let g = h.grammar in rw whole at g) in
    let shallow : IsShallow MAX_OPEN 0 (t.front ++ word t.gap false End ∷ []) =
    (let g = h.shallow in rw whole at g) in
    let small : AreSmall (t.front ++ word t.gap false End ∷ []) = (let g = h.small in rw whole at g) in
    let reported = t.reports in
    record {
      tokens = reported.tokens;
      are_tokens = reported.are_tokens;
      words = t.front ++ words_after n k.words;
      say = reported.say;
      grammar = grammar-linked t.front t.gap n spelled k.grammar;
      shallow = shallow-linked t.front t.gap MAX_OPEN n spelled k.grammar shallow k.shallow;
      small = small-linked t.front t.gap n k.words small k.small;
    }

-- after comments and blank lines
pub spells-after : {a b : List ℕ} {ds : List Definition} → EndsLine a → White a [] → SpellsAtMargin b ds
    → SpellsAtMargin (a ++ b) (map (moved_definition (length a)) ds)
spells-after {a} l w h =
    let n = length a in
    let reported = reports-second 0 l h.are_tokens h.say l w (omega arith) in
    record {
      tokens = reported.tokens;
      are_tokens = reported.are_tokens;
      words = words_after n h.words;
      say = reported.say;
      grammar = grammar-after n h.grammar;
      shallow = shallow-after MAX_OPEN n h.words h.shallow;
      small = small-after n h.words h.small;
    }

-- a token begins a rule at no indentation alone
both-true : (x y : Bool) → (x && y) ≡ true → y ≡ true
both-true true y e = e
both-true false y e = cc

none-least : (n : ℕ) → nat_le n 0 ≡ true → n ≡ 0
none-least n e = grind (arith, nat_tests)

pub begins-at_none : (i : Option ℕ) → begins_rule (Some 0) i ≡ true → i ≡ Some 0
begins-at_none None e = cc
begins-at_none (Some n) e = ap Some (none-least n e)

-- the first word of rules begins a rule
abbrev begins-first : List Word → Type 0
begins-first [] = ⊥
begins-first (word g f s ∷ ws) = f ≡ true

grammar-first : {ws : List Word} {ds : List Definition} → Grammar ws ds → begins-first ws
grammar-first (last_rule a h) = refl
grammar-first (more_rules a h k) = refl

said-first : {k : AbnfKind} {z : List ℕ} {p : _} {g f : Bool} {w : Word} (ws : List Word)
    → Says (marked (tok k z p) g f) w → begins-first (w ∷ ws) → f ≡ true
said-first ws (says h) e = e

spelled-margin : (text : List ℕ) (ts : List (Tok AbnfKind)) {ws : List Word} → SayAll (marks text (Some 0) 0 ts) ws
    → begins-first ws → margin text ts ≡ Some 0
spelled-margin text [] say_none e = absurd e
spelled-margin text (tok k z p ∷ ts) (say_more y more) e =
    begins-at_none (indent_at text p.start) (both-true (not (ends_list k)) (begins_rule (Some 0)
    (indent_at text p.start)) (said-first _ y e))

pub spells-reads : {text : List ℕ} {ds : List Definition} → SpellsAtMargin text ds → length text ≤ MAX_GRAMMAR
    → Reads text ds
spells-reads {text} h le =
    let at_none = spelled-margin text h.tokens h.say (grammar-first h.grammar) in
    record {
      size = le;
      tokens = marks text (Some 0) 0 h.tokens;
      are_tokens = record {
        tokens = h.tokens;
        are_tokens = h.are_tokens;
        same = ap (λ (i : Option ℕ). marks text i 0 h.tokens) (sym at_none);
      };
      words = h.words;
      say = h.say;
      grammar = h.grammar;
      shallow = h.shallow;
      small = h.small;
    }

pub letter-no_piece : {b : ℕ} {bytes : List ℕ} → is_ascii_alphabetic b ≡ true → (r : List ℕ) → Piece (b ∷ bytes) r → ⊥
letter-no_piece {b} e r (blank f) = letter-dark b e f
letter-no_piece e r crlf = cc
letter-no_piece e r (comment h s) = cc

-- a text that a letter begins is not indented
pub reads-spells : {b : ℕ} {bytes : List ℕ} {ds : List Definition} → is_ascii_alphabetic b ≡ true
    → Reads (b ∷ bytes) ds → SpellsAtMargin (b ∷ bytes) ds
reads-spells {b} {bytes} letter h =
    let text : List ℕ = b ∷ bytes in
    let m = h.are_tokens in
    let at_none : margin text m.tokens ≡ Some 0 = margin-is text text m.tokens m.are_tokens no_more
    (letter-no_piece letter) ∙ ap (indent_at text) (zero-less (length text)) in
    let same : h.tokens ≡ marks text (Some 0) 0 m.tokens = m.same
    ∙ ap (λ (i : Option ℕ). marks text i 0 m.tokens) at_none in
    record {
      tokens = m.tokens;
      are_tokens = m.are_tokens;
      words = h.words;
      say = (let s = h.say in rw same at s);
      grammar = h.grammar;
      shallow = h.shallow;
      small = h.small;
    }
  where
    zero-less : (n : ℕ) → n - n ≡ 0
    zero-less n = omega arith

empty-length : (t : List ℕ) → length t ≡ 0 → t ≡ []
empty-length [] e = refl
empty-length (b ∷ t) e = absurd (omega arith)

nothing-stands : (k : AbnfKind) (r : List ℕ) → Stands k [] r → ⊥
nothing-stands k r h = elim h [ ]

no_token-first : {k : AbnfKind} {t r : List ℕ} → t ≡ [] → First k t r → ends_list k ≡ false → ⊥
no_token-first e at_end f = cc
no_token-first e (bad p q) f = cc
no_token-first {k} {r = r} e (found l) f =
    nothing-stands k r (let h = l.stands in rw e at h)

-- in no bytes the end alone is a token, which is no rule's first
nothing-spelled : (m : Option ℕ) (ts : List (Tok AbnfKind)) {ws : List Word} {ds : List Definition}
    → lexing.AreTokens White First ends_list 0 [] ts → SayAll (marks [] m 0 ts) ws → Grammar ws ds → ⊥
nothing-spelled m [] h s g = elim h [ ]
nothing-spelled m (tok k z p ∷ []) (last_one h e) (say_more y more) g =
    let first : not (ends_list k) && begins_rule m (indent_at [] p.start) ≡ true = said-first _ y (grammar-first g) in
    let none : (not true && begins_rule m (indent_at [] p.start)) ≡ true = rw e at first in
    cc
nothing-spelled m (tok k z p ∷ ts) (one_more h e others) (say_more y more) g =
    no_token-first (empty-length h.token (let q = h.position in omega arith)) h.first e

-- a text without bytes reads as nothing
pub nothing-reads : {ds : List Definition} → Reads [] ds → ⊥
nothing-reads h =
    let m = h.are_tokens in
    let say = h.say in
    let same = m.same in
    nothing-spelled (margin [] m.tokens) m.tokens m.are_tokens (rw same at say) h.grammar
