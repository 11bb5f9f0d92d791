-- What stands at the front of a text that LF ends stands there too where more text follows, and the other way round.
-- Serves: find_rules; joined_reading, linked_reading of abnftexts
use Rattle.std.proofs.Common.{◌≡◌, ℕ, ◌==◌, ◌||◌, inl, inr, Bool, true, false, List, [], ◌∷◌, ◌++◌, length, refl, sym}
use Rattle.std.proofs.Common.{ap, ◌∙◌}
use Rattle.std.proofs.Common.{arith, length-append, append-nil}
use Rattle.lexer.specs.SliceEnds.{Longest, no_more, piece}
use Rattle.std.proofs.lemmas.Bool.Decides.{eqb_tells}
use Rattle.std.specs.Char.{is_ascii_alphabetic}
use Rattle.abnfread.specs.declared.kind.AbnfKind.{AbnfKind}
use Rattle.abnfread.specs.declared.kind.AbnfKind.TheVariants.{Name, Adds, Repeat, Text, Num, Prose}
use Rattle.abnfread.specs.AbnfSlices.{Run, none, more, Stops, is_inside, is_case, Digits}
use Rattle.abnfread.specs.AbnfSlices.{digits, Dotted, no_dot, dot, Numbers, values, range, Count, exactly, at_least}
use Rattle.abnfread.specs.AbnfSlices.{Piece, blank, crlf, comment, White, Stands, name, is, adds, slash, lparen, rparen}
use Rattle.abnfread.specs.AbnfSlices.{lbrack, rbrack, counted, star, text, cased, num, prose}
use Rattle.abnfread.specs.BaseDigits.{is_digit, NamesBase, binary, decimals, hexadecimal}
use Rattle.abnfblocks.specs.LinkedLines.{EndsLine, lf, after_byte}

-- a byte begins such a text, and x stands after it and before b
record Headed (c : ℕ) (x t b : List ℕ) : Type 0 where
  rest : List ℕ
  is_headed : t ≡ c ∷ rest
  tail : x ≡ rest ++ b
  line : EndsLine rest

first-back : {c : ℕ} {x t : List ℕ} (b : List ℕ) → (c == 10) ≡ false → EndsLine t → c ∷ x ≡ t ++ b → Headed c x t b
first-back b p lf e = let h = e in cc
first-back b p (after_byte {bytes} l) e = record {
  rest = bytes;
  is_headed = (let h = e in cc);
  tail = (let h = e in cc);
  line = l;
}

-- what holds of the longer text and s holds of the text, up to a position that is as far before its end
pub record Back (P : List ℕ → List ℕ → Type 0) (t b s : List ℕ) : Type 0 where
  pub rest : List ℕ
  pub same : s ≡ rest ++ b
  pub holds : P t rest
  pub line : EndsLine rest

at-headed : (P : List ℕ → List ℕ → Type 0) {t u r : List ℕ} → t ≡ u → P u r → P t r
at-headed P e h = rw e h

at-tail : (P : List ℕ → List ℕ → Type 0) {t u r : List ℕ} → t ≡ u → P r t → P r u
at-tail P e h = rw e at h

not-lf : (f : ℕ → Bool) {c : ℕ} → f 10 ≡ false → f c ≡ true → (c == 10) ≡ false
not-lf f {c} p q = elim (eqb_tells c 10) [
  | inl h ↦ absurd (let e = h.1 in let k = rw e at q in cc)
  | inr h ↦ h.0
]

module _ {f : ℕ → Bool} (no : f 10 ≡ false) (b : List ℕ) where
  run-on : {t r : List ℕ} → Run f t r → Run f (t ++ b) (r ++ b)
  run-on none = none
  run-on (more p h) = more p (run-on h)

  run-line : {t r : List ℕ} → EndsLine t → Run f t r → EndsLine r
  run-line l none = l
  run-line lf (more p h) = let e = not-lf f no p in cc
  run-line (after_byte l) (more p h) = run-line l h

  run-back : {t u s : List ℕ} → EndsLine t → u ≡ t ++ b → Run f u s → Back (Run f) t b s
  run-back {t} l e none = record { rest = t; same = e; holds = none; line = l }
  run-back {t} l e (more p h) =
      let x = first-back b (not-lf f no p) l e in
      let y = run-back {t = x.rest} x.line x.tail h in
      record { rest = y.rest; same = y.same; holds = at-headed (Run f) x.is_headed (more p y.holds); line = y.line }

module _ {base : ℕ} (no : is_digit base 10 ≡ false) (b : List ℕ) where
  digits-on : {t r : List ℕ} → Digits base t r → Digits base (t ++ b) (r ++ b)
  digits-on (digits p h) = digits p (run-on no b h)

  digits-back : {t u s : List ℕ} → EndsLine t → u ≡ t ++ b → Digits base u s → Back (Digits base) t b s
  digits-back l e (digits p h) =
      let x = first-back b (not-lf (is_digit base) no p) l e in
      let y = run-back no b x.line x.tail h in
      record {
        rest = y.rest;
        same = y.same;
        holds = at-headed (Digits base) x.is_headed (digits p y.holds);
        line = y.line;
      }

  dotted-on : {t r : List ℕ} → Dotted base t r → Dotted base (t ++ b) (r ++ b)
  dotted-on no_dot = no_dot
  dotted-on (dot d h) = dot (digits-on d) (dotted-on h)

  -- a dot and digits, where the rest is known
  dotted-from : {t bs m s : List ℕ} → EndsLine t → 46 ∷ bs ≡ t ++ b → Digits base bs m
      → ((v : List ℕ) → EndsLine v → m ≡ v ++ b → Back (Dotted base) v b s) → Back (Dotted base) t b s
  dotted-from l e d f =
      let x = first-back b refl l e in
      let y = digits-back x.line x.tail d in
      let z = f y.rest y.line y.same in
      record {
        rest = z.rest;
        same = z.same;
        holds = at-headed (Dotted base) x.is_headed (dot y.holds z.holds);
        line = z.line;
      }

  dotted-back : {u s : List ℕ} → Dotted base u s → (t : List ℕ) → EndsLine t → u ≡ t ++ b → Back (Dotted base) t b s
  dotted-back no_dot t l e = record { rest = t; same = e; holds = no_dot; line = l }
  dotted-back (dot d h) t l e = dotted-from l e d (λ v k q. dotted-back h v k q)

  numbers-on : {t r : List ℕ} → Numbers base t r → Numbers base (t ++ b) (r ++ b)
  numbers-on (values d h) = values (digits-on d) (dotted-on h)
  numbers-on (range d h) = range (digits-on d) (digits-on h)

  numbers-back : {t u s : List ℕ} → EndsLine t → u ≡ t ++ b → Numbers base u s → Back (Numbers base) t b s
  numbers-back l e (values d h) =
      let y = digits-back l e d in
      let z = dotted-back h y.rest y.line y.same in
      record { rest = z.rest; same = z.same; holds = values y.holds z.holds; line = z.line }
  numbers-back l e (range d h) =
      let y = digits-back l e d in
      let x = first-back b refl y.line y.same in
      let z = digits-back x.line x.tail h in
      record {
        rest = z.rest;
        same = z.same;
        holds = range (at-tail (Digits base) x.is_headed y.holds) z.holds;
        line = z.line;
      }

-- LF, and not the end, stops them
stops-on : (f : ℕ → Bool) (b : List ℕ) {r : List ℕ} → EndsLine r → Stops f r → Stops f (r ++ b)
stops-on f b lf h = h
stops-on f b (after_byte l) h = h

module _ (b : List ℕ) where
  count-on : {t r : List ℕ} → Count t r → Count (t ++ b) (r ++ b)
  count-on (exactly h) = exactly (run-on refl b h)
  count-on (at_least h k) = at_least (run-on refl b h) (run-on refl b k)

  count-back : {t u s : List ℕ} → EndsLine t → u ≡ t ++ b → Count u s → Back Count t b s
  count-back l e (exactly h) =
      let y = run-back refl b l e h in
      record { rest = y.rest; same = y.same; holds = exactly y.holds; line = y.line }
  count-back l e (at_least h k) =
      let y = run-back refl b l e h in
      let x = first-back b refl y.line y.same in
      let z = run-back refl b x.line x.tail k in
      record {
        rest = z.rest;
        same = z.same;
        holds = at_least (at-tail (Run (is_digit 10)) x.is_headed y.holds) z.holds;
        line = z.line;
      }

  reports-other : {c base : ℕ} → NamesBase c base → (c == 10) ≡ false
  reports-other (binary e) = not-lf (λ x. (x == 98) || (x == 66)) refl e
  reports-other (decimals e) = not-lf (λ x. (x == 100) || (x == 68)) refl e
  reports-other (hexadecimal e) = not-lf (λ x. (x == 120) || (x == 88)) refl e

  reports-no_lf : {c base : ℕ} → NamesBase c base → is_digit base 10 ≡ false
  reports-no_lf (binary e) = refl
  reports-no_lf (decimals e) = refl
  reports-no_lf (hexadecimal e) = refl

  stands-on : {k : AbnfKind} {t r : List ℕ} → Stands k t r → Stands k (t ++ b) (r ++ b)
  stands-on (name p h) = name p (run-on refl b h)
  stands-on is = is
  stands-on adds = adds
  stands-on slash = slash
  stands-on lparen = lparen
  stands-on rparen = rparen
  stands-on lbrack = lbrack
  stands-on rbrack = rbrack
  stands-on (counted p h) = counted p (count-on h)
  stands-on (star h) = star (run-on refl b h)
  stands-on (text h) = text (run-on refl b h)
  stands-on (cased p h) = cased p (run-on refl b h)
  stands-on (num p h) = num p (numbers-on (reports-no_lf p) b h)
  stands-on (prose h) = prose (run-on refl b h)

  -- a token of one byte
  one-back : {k : AbnfKind} {c : ℕ} {x t s : List ℕ} → (c == 10) ≡ false → ((r : List ℕ) → Stands k (c ∷ r) r)
      → EndsLine t → c ∷ x ≡ t ++ b → s ≡ x → Back (Stands k) t b s
  one-back {k} p f l e same =
      let x = first-back b p l e in
      record {
        rest = x.rest;
        same = same ∙ x.tail;
        holds = at-headed (Stands k) x.is_headed (f x.rest);
        line = x.line;
      }

  -- a byte, bytes of a class, and a mark that ends them
  closed-back : {f : ℕ → Bool} {d : ℕ} {t u s : List ℕ} → f 10 ≡ false → (d == 10) ≡ false → EndsLine t → u ≡ t ++ b
      → Run f u (d ∷ s) → Back (λ v r. Run f v (d ∷ r)) t b s
  closed-back {f} lacks p l e h =
      let y = run-back lacks b l e h in
      let x = first-back b p y.line y.same in
      record { rest = x.rest; same = x.tail; holds = at-tail (Run f) x.is_headed y.holds; line = x.line }

  pub stands-back : {k : AbnfKind} {t u s : List ℕ} → EndsLine t → u ≡ t ++ b → Stands k u s → Back (Stands k) t b s
  stands-back l e (name p h) =
      let x = first-back b (not-lf is_ascii_alphabetic refl p) l e in
      let y = run-back refl b x.line x.tail h in
      record {
        rest = y.rest;
        same = y.same;
        holds = at-headed (Stands Name) x.is_headed (name p y.holds);
        line = y.line;
      }
  stands-back l e is = one-back refl (λ r. is) l e refl
  stands-back l e adds =
      let x = first-back b refl l e in
      let y = first-back b refl x.line x.tail in
      record {
        rest = y.rest;
        same = y.tail;
        holds = at-headed (Stands Adds) (x.is_headed ∙ ap (λ (z : List ℕ). 61 ∷ z) y.is_headed) adds;
        line = y.line;
      }
  stands-back l e slash = one-back refl (λ r. slash) l e refl
  stands-back l e lparen = one-back refl (λ r. lparen) l e refl
  stands-back l e rparen = one-back refl (λ r. rparen) l e refl
  stands-back l e lbrack = one-back refl (λ r. lbrack) l e refl
  stands-back l e rbrack = one-back refl (λ r. rbrack) l e refl
  stands-back l e (counted p h) =
      let x = first-back b (not-lf (is_digit 10) refl p) l e in
      let y = count-back x.line x.tail h in
      record {
        rest = y.rest;
        same = y.same;
        holds = at-headed (Stands Repeat) x.is_headed (counted p y.holds);
        line = y.line;
      }
  stands-back l e (star h) =
      let x = first-back b refl l e in
      let y = run-back refl b x.line x.tail h in
      record {
        rest = y.rest;
        same = y.same;
        holds = at-headed (Stands Repeat) x.is_headed (star y.holds);
        line = y.line;
      }
  stands-back l e (text h) =
      let x = first-back b refl l e in
      let y = closed-back refl refl x.line x.tail h in
      record { rest = y.rest; same = y.same; holds = at-headed (Stands Text) x.is_headed (text y.holds); line = y.line }
  stands-back l e (cased {c} p h) =
      let x = first-back b refl l e in
      let y = first-back b (not-lf is_case refl p) x.line x.tail in
      let z = first-back b refl y.line y.tail in
      let w = closed-back refl refl z.line z.tail h in
      record {
        rest = w.rest;
        same = w.same;
        holds = at-headed (Stands Text) (x.is_headed ∙ ap (λ (v : List ℕ). 37 ∷ v) (y.is_headed
            ∙ ap (λ (v : List ℕ). c ∷ v) z.is_headed)) (cased p w.holds);
        line = w.line;
      }
  stands-back l e (num {c = c} p h) =
      let x = first-back b refl l e in
      let y = first-back b (reports-other p) x.line x.tail in
      let z = numbers-back (reports-no_lf p) b y.line y.tail h in
      record {
        rest = z.rest;
        same = z.same;
        holds = at-headed (Stands Num) (x.is_headed ∙ ap (λ (v : List ℕ). 37 ∷ v) y.is_headed) (num p z.holds);
        line = z.line;
      }
  stands-back l e (prose h) =
      let x = first-back b refl l e in
      let y = closed-back refl refl x.line x.tail h in
      record {
        rest = y.rest;
        same = y.same;
        holds = at-headed (Stands Prose) x.is_headed (prose y.holds);
        line = y.line;
      }

  pub longest-on : {k : AbnfKind} {t r : List ℕ} → EndsLine t → Longest Stands k t r
      → Longest Stands k (t ++ b) (r ++ b)
  longest-on {k} {t} {r} l h = record {
    stands = stands-on h.stands;
    longest = λ other s g.
        let y = stands-back l refl g in
        let le = h.longest other y.rest y.holds in
        let same = ap length y.same in
        omega (arith, length-append r b, length-append y.rest b);
  }

  piece-on : {t m : List ℕ} → EndsLine t → Piece t m → Piece (t ++ b) (m ++ b)
  piece-on l (blank p) = blank p
  piece-on l crlf = crlf
  piece-on (after_byte l) (comment h stop) =
      comment (run-on refl b h) (stops-on is_inside b (run-line refl b l h) stop)

pub stands-line : {k : AbnfKind} {t r : List ℕ} → EndsLine t → Stands k t r → EndsLine r
stands-line {t = t} {r} l h =
    let y = stands-back [] l (sym (append-nil t)) h in
    let same : r ≡ y.rest = y.same ∙ append-nil y.rest in
    at-line same y.line
  where
    at-line : {u v : List ℕ} → u ≡ v → EndsLine v → EndsLine u
    at-line e h = rw e h

-- after white space such a text ends, or LF ends what is left
pub data LeftLine : List ℕ → Type 0 where
  no_text : LeftLine []
  some_text : {t : List ℕ} → EndsLine t → LeftLine t

piece-line : {t m : List ℕ} → EndsLine t → Piece t m → LeftLine m
piece-line lf (blank p) = no_text
piece-line (after_byte l) (blank p) = some_text l
piece-line (after_byte lf) crlf = no_text
piece-line (after_byte (after_byte l)) crlf = some_text l
piece-line (after_byte l) (comment h stop) = some_text (run-line refl [] l h)

pub white-line : {t m : List ℕ} → LeftLine t → White t m → LeftLine m
white-line l no_more = l
white-line (some_text l) (piece p w) = white-line (piece-line l p) w
white-line no_text (piece p w) = elim p [ ]

pub white-on : {t m : List ℕ} (b : List ℕ) → LeftLine t → White t m → White (t ++ b) (m ++ b)
white-on b l no_more = no_more
white-on b (some_text l) (piece p w) = piece (piece-on b l p) (white-on b (piece-line l p) w)
white-on b no_text (piece p w) = elim p [ ]

pub white-through : {t m r : List ℕ} → White t m → White m r → White t r
white-through no_more k = k
white-through (piece p h) k = piece p (white-through h k)
