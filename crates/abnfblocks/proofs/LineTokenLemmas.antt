-- The tokens of a text that LF ends stand at the front of each longer text.
-- Serves: find_rules; joined_reading, linked_reading of abnftexts
use Rattle.std.proofs.Common.{◌≡◌, ℕ, ◌+◌, ◌≤◌, Bool, true, false, Option, Some, List, [], ◌∷◌, ◌++◌, length, map}
use Rattle.std.proofs.Common.{refl, sym, ap, ◌∙◌, arith, append_assoc, length-append, ◌⊎◌, inl, inr}
use Rattle.std.proofs.lemmas.List.{take-append-le}
use Rattle.ruletable.specs.declared.span.Span.{Span}
use Rattle.lexer.specs.SliceEnds.{Longest, found, bad, at_end}
use Rattle.lexer.specs.TokenLists as lexing
use Rattle.lexer.specs.TokenLists.{Tok, tok, kind_of, Next, last_one, one_more}
use Rattle.abnfread.specs.declared.kind.AbnfKind.{AbnfKind}
use Rattle.abnfread.specs.declared.kind.AbnfKind.TheVariants.{Bad}
use Rattle.abnfread.specs.AbnfKinds.{ends_list}
use Rattle.abnfread.specs.AbnfSlices.{White, First, Stands}
use Rattle.abnfread.specs.MarkedTokens.{AreTokens, indented, indent_from, indent_at}
use Rattle.abnfread.proofs.AbnfSliceLemmas.{first-last}
use Rattle.abnfblocks.specs.LinkedLines.{EndsLine, lf, after_byte, moved_span}
use Rattle.abnfblocks.proofs.LineEndLemmas.{some_text, longest-on, stands-line, white-line, white-on, white-through}
use Rattle.abnfblocks.proofs.LineEndLemmas.{LeftLine, no_text}

pub indent-append : (i : Option ℕ) (xs ys : List ℕ) → indent_from i (xs ++ ys) ≡ indent_from (indent_from i xs) ys
indent-append i [] ys = refl
indent-append i (x ∷ xs) ys = indent-append (indented i x) xs ys

pub indent-front : (a b : List ℕ) (n : ℕ) → n ≤ length a → indent_at (a ++ b) n ≡ indent_at a n
indent-front a b n le = ap (indent_from (Some 0)) (take-append-le n a b le)

-- the token, so many bytes further on
abbrev pub moved_token : ℕ → Tok AbnfKind → Tok AbnfKind
moved_token n (tok k z p) = tok k z (moved_span n p)

next-moved : (n : ℕ) {total : ℕ} {t r : List ℕ} (x : Tok AbnfKind) → Next White First total t x r
    → Next White First (n + total) t (moved_token n x) r
next-moved n (tok k z p) h = record {
  token = h.token;
  white = h.white;
  first = h.first;
  cut = h.cut;
  position = (let e = h.position in omega arith);
  size = (let e = h.size in omega arith);
}

ends-moved : (n : ℕ) (x : Tok AbnfKind) (e : Bool) → ends_list (lexing.kind_of x) ≡ e
    → ends_list (lexing.kind_of (moved_token n x)) ≡ e
ends-moved n (tok k z p) e h = h

pub tokens-moved : (n : ℕ) {total : ℕ} {t : List ℕ} {ts : List (Tok AbnfKind)}
    → lexing.AreTokens White First ends_list total t ts
    → lexing.AreTokens White First ends_list (n + total) t (map (moved_token n) ts)
tokens-moved n (last_one {x} h e) = last_one (next-moved n x h) (ends-moved n x true e)
tokens-moved n (one_more {x} h e more) = one_more (next-moved n x h) (ends-moved n x false e) (tokens-moved n more)

pub tokens-white : {total : ℕ} {t m : List ℕ} {ts : List (Tok AbnfKind)} → White t m
    → lexing.AreTokens White First ends_list total m ts → lexing.AreTokens White First ends_list total t ts
tokens-white w (last_one h e) = last_one (record {
  token = h.token;
  white = white-through w h.white;
  first = h.first;
  cut = h.cut;
  position = h.position;
  size = h.size;
}) e
tokens-white w (one_more h e more) = one_more (record {
  token = h.token;
  white = white-through w h.white;
  first = h.first;
  cut = h.cut;
  position = h.position;
  size = h.size;
}) e more

pub line-length : {t : List ℕ} → EndsLine t → 1 ≤ length t
line-length lf = omega arith
line-length (after_byte l) = omega arith

pub next-on : (a b : List ℕ) {t r : List ℕ} {k : AbnfKind} {z : List ℕ} {p : Span}
    (h : Next White First (length a) t (tok k z p) r) → EndsLine t → EndsLine h.token → Longest Stands k h.token r
    → Next White First (length (a ++ b)) (t ++ b) (tok k z p) (r ++ b)
next-on a b {t} {r} {z = z} h l lt longest = record {
  token = h.token ++ b;
  white = white-on b (some_text l) h.white;
  first = found (longest-on b lt longest);
  cut = ap (λ (v : List ℕ). v ++ b) h.cut ∙ append_assoc z r b;
  position = (let e = h.position in omega (arith, length-append h.token b, length-append a b));
  size = h.size;
}

-- a bad token is among them
pub data HasBad : List (Tok AbnfKind) → Type 0 where
  here : {z : List ℕ} {p : Span} {ts : List (Tok AbnfKind)} → HasBad (tok Bad z p ∷ ts)
  later : {x : Tok AbnfKind} {ts : List (Tok AbnfKind)} → HasBad ts → HasBad (x ∷ ts)

-- the tokens ts but their end, and then those of another text
pub record AreOnward (total n : ℕ) (t : List ℕ) (ts others : List (Tok AbnfKind)) : Type 0 where
  pub front : List (Tok AbnfKind)
  pub last : Tok AbnfKind
  pub whole : ts ≡ front ++ last ∷ []
  pub ends : ends_list (kind_of last) ≡ true
  pub are : lexing.AreTokens White First ends_list total t (front ++ map (moved_token n) others)

pub first-longest : {k : AbnfKind} {t r : List ℕ} → ends_list k ≡ false → First k t r → (k ≡ Bad) ⊎ Longest Stands k t r
first-longest e (found l) = inr l
first-longest e (bad x y) = inl refl
first-longest e at_end = cc

bad-here : (k : AbnfKind) (z : List ℕ) (p : Span) (ts : List (Tok AbnfKind)) → k ≡ Bad → HasBad (tok k z p ∷ ts)
bad-here k z p ts e = rw e here

pub stands-text : {k : AbnfKind} {t r : List ℕ} → LeftLine t → Stands k t r → EndsLine t
stands-text no_text h = elim h [ ]
stands-text (some_text l) h = l

module _ (a b : List ℕ) {others : List (Tok AbnfKind)} (after : AreTokens b others) where
  abbrev Onward : List ℕ → List (Tok AbnfKind) → Type 0
  Onward t ts = HasBad ts ⊎ AreOnward (length (a ++ b)) (length a) (t ++ b) ts others

  onward-end : {t r : List ℕ} (x : Tok AbnfKind) → EndsLine t → Next White First (length a) t x r
      → ends_list (kind_of x) ≡ true → Onward t (x ∷ [])
  onward-end {t} x l h e =
      let nothing : h.token ≡ [] = first-last e h.first in
      let white : White t [] = (let w = h.white in rw nothing at w) in
      let total : length a + length b ≡ length (a ++ b) = sym (length-append a b) in
      let moved = tokens-white (white-on b (some_text l) white) (tokens-moved (length a) after) in
      inr (record { front = []; last = x; whole = refl; ends = e; are = rw total at moved })

  onward-more : {t r : List ℕ} (k : AbnfKind) (z : List ℕ) (p : Span) {ts : List (Tok AbnfKind)} → EndsLine t
      → (h : Next White First (length a) t (tok k z p) r) → ends_list k ≡ false → EndsLine h.token
      → Longest Stands k h.token r → Onward r ts → Onward t (tok k z p ∷ ts)
  onward-more k z p l h e lt longest (inl is_bad) = inl (later is_bad)
  onward-more k z p l h e lt longest (inr more) = inr (record {
    front = tok k z p ∷ more.front;
    last = more.last;
    whole = ap (λ (xs : List (Tok AbnfKind)). tok k z p ∷ xs) more.whole;
    ends = more.ends;
    are = one_more (next-on a b h l lt longest) e more.are;
  })

  pub tokens-onward : {t : List ℕ} {ts : List (Tok AbnfKind)} → EndsLine t
      → lexing.AreTokens White First ends_list (length a) t ts → Onward t ts
  tokens-onward l (last_one {x} h e) = onward-end x l h e
  tokens-onward {t} l (one_more {r = r} {x = tok k z p} {ts = ts} h e more) = elim (first-longest e h.first) [
    | inl is_bad ↦ inl (bad-here k z p ts is_bad)
    | inr longest ↦ (
        let line = stands-text (white-line (some_text l) h.white) longest.stands in
        onward-more k z p l h e line longest (tokens-onward (stands-line line longest.stands) more))
  ]

pub line-after : (a : List ℕ) {b : List ℕ} → EndsLine b → EndsLine (a ++ b)
line-after [] l = l
line-after (x ∷ a) l = after_byte (line-after a l)
