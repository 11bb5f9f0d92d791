-- A text is cut in one way.
-- Serves: AbnfKind::are_cut, abnf_tokens, read_abnf
use Rattle.std.proofs.Common.{◌≡◌, ℕ, ◌<◌, ◌⊎◌, Bool, true, false, List, [], ◌∷◌, ◌++◌, length, refl, sym, ap, arith}
use Rattle.std.proofs.Common.{◌∙◌, append_assoc}
use Rattle.std.specs.Char.{is_ascii_alphabetic}
use Rattle.lexer.specs.SliceEnds.{IsEnd, IsPart, StandsAlone, no_more, piece, Longest, NoToken}
use Rattle.lexer.proofs.FirstLemmas as firsts
use Rattle.lexer.proofs.FirstLemmas.{end-more, end-here, end-both, less-one}
use Rattle.abnfread.specs.declared.kind.AbnfKind.{AbnfKind}
use Rattle.abnfread.specs.declared.kind.AbnfKind.TheVariants.{Name, Repeat, Bad, End}
use Rattle.abnfread.specs.AbnfKinds.{ends_list}
use Rattle.abnfread.specs.BaseDigits.{is_digit}
use Rattle.abnfread.specs.AbnfSlices.{Run, none, more, Stops, is_inside, Digits, digits, Dotted, no_dot, dot, Numbers}
use Rattle.abnfread.specs.AbnfSlices.{Count, exactly, at_least, Piece, blank, crlf, comment, White, Stands, name, is}
use Rattle.abnfread.specs.AbnfSlices.{values, range, adds, counted, star, text, cased, num, prose, First}
use Rattle.abnfread.proofs.ByteRunLemmas.{run-to}
use Rattle.abnfread.proofs.AbnfFirstLemmas.{letter-digit, letter-dark, digit-dark, reports-case}

pub run-end : {f : ℕ → Bool} {t r : List ℕ} → Run f t r → IsEnd t r
run-end none = end-here
run-end (more e h) = end-more _ (run-end h)

-- up to a byte, and with it
is_end-after : {t r : List ℕ} (c : ℕ) → IsEnd t (c ∷ r) → IsEnd t r
is_end-after c h = end-both h (end-more c end-here)

digits-end : {base : ℕ} {t r : List ℕ} → Digits base t r → IsEnd t r
digits-end (digits e h) = end-more _ (run-end h)

dotted-end : {base : ℕ} {t r : List ℕ} → Dotted base t r → IsEnd t r
dotted-end no_dot = end-here
dotted-end (dot d h) = end-more _ (end-both (digits-end d) (dotted-end h))

numbers-end : {base : ℕ} {t r : List ℕ} → Numbers base t r → IsEnd t r
numbers-end (values d h) = end-both (digits-end d) (dotted-end h)
numbers-end (range d h) = end-both (is_end-after 45 (digits-end d)) (digits-end h)

count-end : {t r : List ℕ} → Count t r → IsEnd t r
count-end (exactly h) = run-end h
count-end (at_least h k) = end-both (is_end-after 42 (run-end h)) (run-end k)

stands-part : (k : AbnfKind) (t r : List ℕ) → Stands k t r → IsPart t r
stands-part k t r (name e h) = less-one _ (run-end h)
stands-part k t r adds = less-one _ (end-more _ end-here)
stands-part k t r (counted e h) = less-one _ (count-end h)
stands-part k t r (star h) = less-one _ (run-end h)
stands-part k t r (text h) = less-one _ (is_end-after 34 (run-end h))
stands-part k t r (cased e h) = less-one _ (end-more _ (end-more _ (is_end-after 34 (run-end h))))
stands-part k t r (num e h) = less-one _ (end-more _ (numbers-end h))
stands-part k t r (prose h) = less-one _ (is_end-after 62 (run-end h))
stands-part k t r _ = less-one _ end-here

letter-kind : {k : AbnfKind} {b : ℕ} {bs r : List ℕ} → is_ascii_alphabetic b ≡ true → Stands k (b ∷ bs) r → k ≡ Name
letter-kind e (name h n) = refl
letter-kind {b = b} e (counted h n) = absurd (letter-digit b e h)
letter-kind e _ = cc

digit-kind : {k : AbnfKind} {b : ℕ} {bs r : List ℕ} → is_digit 10 b ≡ true → Stands k (b ∷ bs) r → k ≡ Repeat
digit-kind {b = b} e (name h n) = absurd (letter-digit b h e)
digit-kind e (counted h n) = refl
digit-kind e (star h) = refl
digit-kind e _ = cc

-- two tokens of one position and one end are of one kind
kinds-one : {k j : AbnfKind} {t r s : List ℕ} → r ≡ s → Stands k t r → Stands j t s → k ≡ j
kinds-one e (name h n) y = sym (letter-kind h y)
kinds-one e x (name h n) = letter-kind h x
kinds-one e (counted h n) y = sym (digit-kind h y)
kinds-one e x (counted h n) = digit-kind h x
kinds-one e is adds = absurd (omega (arith, ap length e))
kinds-one e adds is = absurd (omega (arith, ap length e))
kinds-one e (cased h n) (num p q) = absurd (reports-case p h)
kinds-one e (num p q) (cased h n) = absurd (reports-case p h)
kinds-one e _ _ = refl

stands-one : (k j : AbnfKind) (t r : List ℕ) → Stands k t r → Stands j t r → k ≡ j
stands-one k j t r x y = kinds-one refl x y

piece-end : (t r : List ℕ) → Piece t r → IsEnd t r
piece-end t r (blank e) = end-more _ end-here
piece-end t r crlf = end-more _ (end-more _ end-here)
piece-end t r (comment h s) = end-more _ (run-end h)

piece-one : (t m n : List ℕ) → Piece t m → Piece t n → m ≡ n
piece-one t m n (blank e) (blank f) = refl
piece-one t m n (blank e) crlf = cc
piece-one t m n (blank e) (comment h s) = cc
piece-one t m n crlf (blank e) = cc
piece-one t m n crlf crlf = refl
piece-one t m n (comment h s) (blank e) = cc
piece-one t m n (comment h s) (comment k u) = run-to k u h s

no-letter-blank : {b : ℕ} {bs m : List ℕ} → is_ascii_alphabetic b ≡ true → Piece (b ∷ bs) m → ⊥
no-letter-blank {b} e (blank f) = letter-dark b e f
no-letter-blank e crlf = cc
no-letter-blank e (comment h s) = cc

no-digit-blank : {b : ℕ} {bs m : List ℕ} → is_digit 10 b ≡ true → Piece (b ∷ bs) m → ⊥
no-digit-blank {b} e (blank f) = digit-dark b e f
no-digit-blank e crlf = cc
no-digit-blank e (comment h s) = cc

stands-dark : (k : AbnfKind) (t r m : List ℕ) → Stands k t r → Piece t m → ⊥
stands-dark k t r m (name e h) p = no-letter-blank e p
stands-dark k t r m (counted e h) p = no-digit-blank e p
stands-dark k t r m _ (blank f) = cc

nothing-dark : (m : List ℕ) → Piece [] m → ⊥
nothing-dark m h = elim h [ ]

pub first-dark : {k : AbnfKind} {t r : List ℕ} → First k t r → (m : List ℕ) → Piece t m → ⊥
first-dark h = firsts.first-dark Piece Stands Bad End stands-part stands-one piece-end piece-one stands-dark
    nothing-dark h

-- bytes that pass, whatever follows them
record RunAnywhere (f : ℕ → Bool) (t r : List ℕ) : Type 0 where
  part : List ℕ
  cut : t ≡ part ++ r
  anywhere : (s : List ℕ) → Run f (part ++ s) s

run-anywhere : {f : ℕ → Bool} {t r : List ℕ} → Run f t r → RunAnywhere f t r
run-anywhere none = record { part = []; cut = refl; anywhere = λ s. none }
run-anywhere (more {b} e h) = let x = run-anywhere h in
    record { part = b ∷ x.part; cut = ap (λ (z : List ℕ). b ∷ z) x.cut; anywhere = λ s. more e (x.anywhere s) }

-- a prefix of what such bytes do not begin
stops-front : (f : ℕ → Bool) (w r : List ℕ) {t : List ℕ} → t ≡ w ++ r → Stops f t → Stops f w
stops-front f [] r e h = tt
stops-front f (b ∷ w) r e h = rw e at h

-- white space is white space by itself too
pub white-alone : {t r : List ℕ} → White t r → StandsAlone White t r
white-alone no_more = record { part = record { front = []; whole = refl }; alone = no_more }
white-alone (piece (blank {b} p) h) =
    let x = white-alone h in
    let after = x.part in
    record {
      part = record { front = b ∷ after.front; whole = ap (λ (z : List ℕ). b ∷ z) after.whole };
      alone = piece (blank p) x.alone;
    }
white-alone (piece crlf h) =
    let x = white-alone h in
    let after = x.part in
    record {
      part = record {
        front = 13 ∷ 10 ∷ after.front;
        whole = ap (λ (z : List ℕ). 13 ∷ 10 ∷ z) after.whole;
      };
      alone = piece crlf x.alone;
    }
white-alone {r} (piece (comment c stop) h) =
    let x = run-anywhere c in
    let y = white-alone h in
    let after = y.part in
    record {
      part = record {
        front = 59 ∷ (x.part ++ after.front);
        whole = ap (λ (z : List ℕ). 59 ∷ z) (x.cut ∙ ap (λ (z : List ℕ). x.part ++ z) after.whole
            ∙ sym (append_assoc x.part after.front r));
      };
      alone = piece (comment (x.anywhere after.front) (stops-front is_inside after.front r after.whole stop))
          y.alone;
    }

pub white-ends : {t r : List ℕ} → White t r → IsEnd t r
white-ends h = firsts.white-end Piece piece-end piece-one h

pub white-unique : {t m n : List ℕ} → ((r : List ℕ) → Piece m r → ⊥) → ((r : List ℕ) → Piece n r → ⊥) → White t m
    → White t n → m ≡ n
white-unique p q h k = firsts.white-one Piece piece-end piece-one p q h k

pub first-ends : {k : AbnfKind} {t r : List ℕ} → First k t r → IsEnd t r
first-ends h = firsts.first-ends Piece Stands Bad End stands-part h

pub first-less : {k : AbnfKind} {t r : List ℕ} → ends_list k ≡ false → First k t r → length r < length t
first-less e h = firsts.first-less Piece Stands Bad End stands-part ends_list refl e h

pub first-longest : {k : AbnfKind} {t r : List ℕ} → First k t r → Longest Stands k t r ⊎ NoToken Stands t
first-longest h = firsts.first-longest Piece Stands Bad End stands-part h

ends-none : (k : AbnfKind) (t r : List ℕ) → ends_list k ≡ true → Stands k t r → ⊥
ends-none End t r e h = elim h [ ]
ends-none _ t r e h = cc

pub first-last : {k : AbnfKind} {t r : List ℕ} → ends_list k ≡ true → First k t r → t ≡ []
first-last e h = firsts.first-last Piece Stands Bad End stands-part ends_list refl ends-none e h

pub one-next : (j k : AbnfKind) (t a b r s : List ℕ) → White t a → First j a r → White t b → First k b s → (j ≡ k)
    × (a ≡ b) × (r ≡ s)
one-next = firsts.one-next Piece Stands Bad End stands-part stands-one piece-end piece-one stands-dark nothing-dark
