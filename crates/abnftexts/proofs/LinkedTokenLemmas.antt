-- The tokens of texts one after another are those of each text.
-- Serves: joined_reading, linked_reading
use Rattle.std.proofs.Common.{◌≡◌, ℕ, ◌+◌, ◌≤◌, ◌<◌, ◌==◌, ◌&&◌, not, Bool, true, false, Option, Some, List, [], ◌∷◌}
use Rattle.std.proofs.Common.{◌++◌, length, take, map, refl, sym, ap, ◌∙◌, arith, length-append}
use Rattle.std.proofs.Math.Seq.{take-append-add}
use Rattle.std.proofs.lemmas.Bool.Decides.{nat_tests}
use Rattle.ruletable.specs.declared.span.Span.{Span}
use Rattle.lexer.specs.SliceEnds.{Longest, found, bad, at_end}
use Rattle.lexer.specs.TokenLists as lexing
use Rattle.lexer.specs.TokenLists.{Tok, tok, last_one, one_more}
use Rattle.lexer.specs.Viability.{say_none, say_more}
use Rattle.abnfread.specs.declared.kind.AbnfKind.{AbnfKind}
use Rattle.abnfread.specs.AbnfKinds.{ends_list}
use Rattle.abnfread.specs.AbnfSays.{SaysKind, says_name, says_is, says_adds, says_slash, says_lparen, says_rparen}
use Rattle.abnfread.specs.AbnfSays.{says_lbrack, says_rbrack, says_repeat, says_text, says_cased, says_num, says_prose}
use Rattle.abnfread.specs.AbnfSays.{says_end, Says, says, SayAll}
use Rattle.abnfread.specs.AbnfSlices.{White, First, Stands}
use Rattle.abnfread.specs.AbnfWords.{Said, End, Word, word}
use Rattle.abnfread.specs.Numerals.{says_values, says_range}
use Rattle.abnfread.specs.MarkedTokens.{marked, begins_rule, indented, indent_from, indent_at, is_first, marks}
use Rattle.abnfread.proofs.AbnfSliceLemmas.{first-last}
use Rattle.abnfblocks.specs.LinkedLines.{EndsLine, lf, after_byte, moved_span}
use Rattle.abnfblocks.proofs.LineEndLemmas.{LeftLine, no_text, some_text, stands-line, white-line, white-on}
use Rattle.abnfblocks.proofs.LineTokenLemmas.{indent-append, indent-front, line-length, moved_token, next-on}
use Rattle.abnfblocks.proofs.LineTokenLemmas.{tokens-moved, tokens-white}
use Rattle.abnftexts.proofs.MovedWordLemmas.{moved_said, moved_word, with_gap, words_after}

line-indent : {a : List ℕ} → EndsLine a → (i : Option ℕ) → indent_from i a ≡ Some 0
line-indent lf i = refl
line-indent (after_byte {b} l) i = line-indent l (indented i b)

-- a position after a line's end, and one before it
pub indent-after : {a : List ℕ} (b : List ℕ) (n : ℕ) → EndsLine a → indent_at (a ++ b) (length a + n) ≡ indent_at b n
indent-after {a} b n l = ap (indent_from (Some 0)) (take-append-add a b n) ∙ indent-append (Some 0) a (take n b)
    ∙ ap (λ (i : Option ℕ). indent_from i (take n b)) (line-indent l (Some 0))

kind-moved : (n : ℕ) {k : AbnfKind} {z : List ℕ} {p : Span} {s : Said} → SaysKind k z p s
    → SaysKind k z (moved_span n p) (moved_said n s)
kind-moved n says_name = says_name
kind-moved n says_is = says_is
kind-moved n says_adds = says_adds
kind-moved n says_slash = says_slash
kind-moved n says_lparen = says_lparen
kind-moved n says_rparen = says_rparen
kind-moved n says_lbrack = says_lbrack
kind-moved n says_rbrack = says_rbrack
kind-moved n (says_repeat h) = says_repeat h
kind-moved n (says_text e) = says_text e
kind-moved n (says_cased i e) = says_cased i e
kind-moved n (says_num (says_values a h)) = says_num (says_values a h)
kind-moved n (says_num (says_range a e b c)) = says_num (says_range a e b c)
kind-moved n (says_prose e) = says_prose e
kind-moved n says_end = says_end

eqb-moved : (n a b : ℕ) → not (n + a == n + b) ≡ not (a == b)
eqb-moved n a b = grind (arith, nat_tests)

-- a token whose marks are those
pub says-so : {k : AbnfKind} {z : List ℕ} {p : Span} {s : Said} {g h f e : Bool} → g ≡ h → f ≡ e → SaysKind k z p s
    → Says (marked (tok k z p) g f) (word h e s)
says-so p q k = rw (p, q) (says k)

pub say-moved : {a : List ℕ} (b : List ℕ) (n : ℕ) (ts : List (Tok AbnfKind)) {ws : List Word} → EndsLine a
    → SayAll (marks b (Some 0) n ts) ws
    → SayAll (marks (a ++ b) (Some 0) (length a + n) (map (moved_token (length a)) ts)) (map (moved_word (length a)) ws)
say-moved b n [] l say_none = say_none
say-moved {a} b n (tok k z p ∷ ts) l (say_more (says h) more) =
    say_more (says-so (eqb-moved (length a) p.start n)
    (ap (λ (i : Option ℕ). not (ends_list k) && begins_rule (Some 0) i) (indent-after b p.start l))
    (kind-moved (length a) h)) (say-moved b p.end ts l more)

-- the tokens of t, the end of the text, from that position on say these words
pub record ReportsAfter (text : List ℕ) (position : ℕ) (t : List ℕ) (ws : List Word) : Type 0 where
  pub tokens : List (Tok AbnfKind)
  pub are_tokens : lexing.AreTokens White First ends_list (length text) t tokens
  pub say : SayAll (marks text (Some 0) position tokens) ws

gap-after : (n m j : ℕ) → j < n → not (n + m == j) ≡ true
gap-after n m j lt = grind (arith, nat_tests)

-- white space stands before the first token, where the last one ended earlier
say-gap : (text : List ℕ) (n j m : ℕ) (ts : List (Tok AbnfKind)) {ws : List Word} → j < n
    → SayAll (marks text (Some 0) m (map (moved_token n) ts)) ws
    → SayAll (marks text (Some 0) j (map (moved_token n) ts)) (with_gap ws)
say-gap text n j m [] lt say_none = say_none
say-gap text n j m (tok k z p ∷ ts) lt (say_more (says h) more) =
    say_more (says-so (gap-after n p.start j lt) refl h) more

-- what a text says after one that LF ends, of which u is left, and is white space
pub reports-second : {a b u : List ℕ} {ts : List (Tok AbnfKind)} {ws : List Word} (j : ℕ) → EndsLine a
    → lexing.AreTokens White First ends_list (length b) b ts → SayAll (marks b (Some 0) 0 ts) ws → EndsLine u
    → White u [] → j + length u ≡ length a → ReportsAfter (a ++ b) j (u ++ b) (words_after (length a) ws)
reports-second {a} {b} {u} {ts} {ws} j l t s lu w e =
    let total : length a + length b ≡ length (a ++ b) = sym (length-append a b) in
    let moved = tokens-white (white-on b (some_text lu) w) (tokens-moved (length a) t) in
    let some = line-length lu in
    record {
      tokens = map (moved_token (length a)) ts;
      are_tokens = rw total at moved;
      say = say-gap (a ++ b) (length a) j (length a + 0) ts (omega arith) (say-moved b 0 ts l s);
    }

end-said : {k : AbnfKind} {z : List ℕ} {p : Span} {s : Said} → ends_list k ≡ true → SaysKind k z p s → s ≡ End
end-said e says_end = refl
end-said e _ = cc

pub first-said : {k : AbnfKind} {z t r : List ℕ} {p : Span} {s : Said} → ends_list k ≡ false → SaysKind k z p s
    → First k t r → Longest Stands k t r
first-said e h (found l) = l
first-said e h (bad x y) = elim h [ ]
first-said e h at_end = cc

stands-some : {k : AbnfKind} {t r : List ℕ} → LeftLine t → Stands k t r → EndsLine t
stands-some no_text h = elim h [ ]
stands-some (some_text l) h = l

-- the words of a text but its end, and what it says where words follow it
pub record ReportsFirst (text : List ℕ) (position : ℕ) (t : List ℕ) (ws others : List Word) : Type 0 where
  pub front : List Word
  pub gap : Bool
  pub whole : ws ≡ front ++ word gap false End ∷ []
  pub reports : ReportsAfter text position t (front ++ others)

pub first-same : (a b : List ℕ) (k : AbnfKind) (z : List ℕ) (p : Span) → p.start ≤ length a
    → is_first (a ++ b) (Some 0) (tok k z p) ≡ is_first a (Some 0) (tok k z p)
first-same a b k z p le =
    ap (λ (i : Option ℕ). not (ends_list k) && begins_rule (Some 0) i) (indent-front a b p.start le)

-- what a marked token says
pub record WordSaid (k : AbnfKind) (z : List ℕ) (p : Span) (g f : Bool) (w : Word) : Type 0 where
  pub said : Said
  pub says_it : SaysKind k z p said
  pub is : w ≡ word g f said

pub word-said : {k : AbnfKind} {z : List ℕ} {p : Span} {g f : Bool} {w : Word} → Says (marked (tok k z p) g f) w
    → WordSaid k z p g f w
word-said (says {s} h) = record { said = s; says_it = h; is = refl }

last-whole : {k : AbnfKind} {z : List ℕ} {p : Span} {g : Bool} (f : Bool) {w : Word} → ends_list k ≡ true
    → WordSaid k z p g (not (ends_list k) && f) w → w ∷ [] ≡ word g false End ∷ []
last-whole {g = g} f e o =
    let x = o.is in
    let y = end-said e o.says_it in
    rw (x, e, y) refl

front-whole : {v w : Word} {vs : List Word} (front : List Word) (g : Bool) → v ≡ w → vs ≡ front ++ word g false End ∷ []
    → v ∷ vs ≡ w ∷ (front ++ word g false End ∷ [])
front-whole front g p q = rw (p, q) refl

pub reports-first : (a b : List ℕ) {t : List ℕ} {ts : List (Tok AbnfKind)} {ws : List Word} (others : List Word) (n : ℕ)
    → EndsLine t → n + length t ≡ length a → lexing.AreTokens White First ends_list (length a) t ts
    → SayAll (marks a (Some 0) n ts) ws → ((u : List ℕ) (j : ℕ) → EndsLine u → White u [] → j + length u ≡ length a
    → ReportsAfter (a ++ b) j (u ++ b) others) → ReportsFirst (a ++ b) n (t ++ b) ws others
reports-first a b {t} others n l e (last_one {x = tok k z p} h is_end) (say_more y say_none) f =
    let nothing : h.token ≡ [] = first-last is_end h.first in
    record {
      front = [];
      gap = not (p.start == n);
      whole = last-whole (begins_rule (Some 0) (indent_at a p.start)) is_end (word-said y);
      reports = f t n l (let w = h.white in rw nothing at w) e;
    }
reports-first a b {t} others n l e (one_more {r = r} {x = tok k z p} h goes more) (say_more {ws = vs} y says_more) f =
    let o = word-said y in
    let longest = first-said goes o.says_it h.first in
    let line = stands-some (white-line (some_text l) h.white) longest.stands in
    let after = stands-line line longest.stands in
    let size : p.end + length r ≡ length a = (let x = ap length h.cut in let y = h.position in let v = h.size in
    omega (arith, length-append z r)) in
    let within : p.start ≤ length a = (let y = h.position in omega arith) in
    let rest = reports-first a b others p.end after size more says_more f in
    let reported = rest.reports in
    let gap = not (p.start == n) in
    let first = is_first a (Some 0) (tok k z p) in
    record {
      front = word gap first o.said ∷ rest.front;
      gap = rest.gap;
      whole = front-whole rest.front rest.gap o.is rest.whole;
      reports = record {
        tokens = tok k z p ∷ reported.tokens;
        are_tokens = one_more (next-on a b h l line longest) goes reported.are_tokens;
        say = say_more (says-so refl (first-same a b k z p within) o.says_it) reported.say;
      };
    }
