-- Which tokens a first byte leaves, and how far each reaches.
-- Serves: AbnfKind::after_white, AbnfKind::are_cut, AbnfKind::first_token, abnf_tokens, read_abnf
use Rattle.std.proofs.Common.{◌≡◌, ◌≢◌, ℕ, ◌≤◌, ◌-◌, ◌||◌, ◌==◌, Bool, true, false, List, [], ◌∷◌, length, take, drop}
use Rattle.std.proofs.Common.{refl, sym, arith, ◌⊎◌, inl, inr, ◌∙◌, cond}
use Rattle.std.specs.Char.{is_ascii_alphabetic}
use Rattle.std.proofs.lemmas.Bool.Decides.{nat_tests}
use Rattle.std.proofs.lemmas.Bool.{eqb-true, or_cases}
use Rattle.lexer.specs.SliceEnds.{Lacks, NoPiece, Longest, NoToken, found, bad, at_end}
use Rattle.abnfread.specs.declared.kind.AbnfKind.{AbnfKind}
use Rattle.abnfread.specs.declared.kind.AbnfKind.TheVariants.{Name, Is, Adds, Repeat, Text, Num, Prose, Bad, End}
use Rattle.abnfread.specs.BaseDigits.{is_digit, NamesBase, binary, decimals, hexadecimal}
use Rattle.abnfread.specs.AbnfSlices.{continues_name, is_quotable, is_prose, is_case, is_blank, is_inside, Run, Stops}
use Rattle.abnfread.specs.AbnfSlices.{Numbers, Count, Piece, blank, crlf, comment, Stands, name, is, adds, slash}
use Rattle.abnfread.specs.AbnfSlices.{lparen, rparen, lbrack, rbrack, counted, star, text, cased, num, prose, First}
use Rattle.abnfread.proofs.ByteRunLemmas.{run-longest}

-- a letter is no decimal digit
pub letter-digit : (b : ℕ) → is_ascii_alphabetic b ≡ true → is_digit 10 b ≡ true → ⊥
letter-digit b e f = absurd (grind (arith, nat_tests))

-- neither is white space
pub letter-dark : (b : ℕ) → is_ascii_alphabetic b ≡ true → is_blank b ≡ true → ⊥
letter-dark b e f = absurd (grind (arith, nat_tests))

pub digit-dark : (b : ℕ) → is_digit 10 b ≡ true → is_blank b ≡ true → ⊥
digit-dark b e f = absurd (grind (arith, nat_tests))

pub stands-longest : {k : AbnfKind} {t r : List ℕ} → Stands k t r
    → ((j : AbnfKind) (s : List ℕ) → Stands j t s → length r ≤ length s) → Longest Stands k t r
stands-longest h f = record { stands = h; longest = f }

name-run : {k : AbnfKind} {b : ℕ} {bs s : List ℕ} → is_ascii_alphabetic b ≡ true → Stands k (b ∷ bs) s
    → Run continues_name bs s
name-run e (name h n) = n
name-run {b = b} e (counted h n) = absurd (letter-digit b e h)
name-run e _ = cc

pub longest-name : {b : ℕ} {bs r : List ℕ} → is_ascii_alphabetic b ≡ true → Run continues_name bs r
    → Stops continues_name r → Longest Stands Name (b ∷ bs) r
longest-name e h stop = stands-longest (name e h) (λ j s x. run-longest h stop (name-run e x))

digit-count : {k : AbnfKind} {b : ℕ} {bs s : List ℕ} → is_digit 10 b ≡ true → Stands k (b ∷ bs) s → Count bs s
digit-count {b = b} e (name h n) = absurd (letter-digit b h e)
digit-count e (counted h n) = n
digit-count e _ = cc

pub longest-count : {b : ℕ} {bs r : List ℕ} → is_digit 10 b ≡ true → Count bs r
    → ((s : List ℕ) → Count bs s → length r ≤ length s) → Longest Stands Repeat (b ∷ bs) r
longest-count e h f = stands-longest (counted e h) (λ j s x. f s (digit-count e x))

star-run : {k : AbnfKind} {bs s : List ℕ} → Stands k (42 ∷ bs) s → Run (is_digit 10) bs s
star-run (name h n) = cc
star-run (counted h n) = cc
star-run (star h) = h

pub longest-star : {b : ℕ} {bs r : List ℕ} → b ≡ 42 → Run (is_digit 10) bs r → Stops (is_digit 10) r
    → Longest Stands Repeat (b ∷ bs) r
longest-star e h stop = rw e (stands-longest (star h) (λ j s x. run-longest h stop (star-run x)))

equals-longest : {k : AbnfKind} {bs s : List ℕ} → Stands k (61 ∷ 47 ∷ bs) s → length bs ≤ length s
equals-longest (name h n) = cc
equals-longest (counted h n) = cc
equals-longest is = omega arith
equals-longest adds = omega arith

equals-lone : {k : AbnfKind} {bs s : List ℕ} → Lacks 47 bs → Stands k (61 ∷ bs) s → bs ≡ s
equals-lone l (name h n) = cc
equals-lone l (counted h n) = cc
equals-lone l is = refl
equals-lone l adds = absurd (l refl)

pub longest-adds : {bs m : List ℕ} → bs ≡ 47 ∷ m → Longest Stands Adds (61 ∷ bs) m
longest-adds e = rw e (stands-longest adds (λ j s x. equals-longest x))

pub longest-is : {bs : List ℕ} → Lacks 47 bs → Longest Stands Is (61 ∷ bs) bs
longest-is l = stands-longest is (λ j s x. let e = equals-lone l x in rw e (omega arith))

-- a byte that is a token, wherever it stands
abbrev is_sign : ℕ → Bool
is_sign b = (b == 47) || (b == 40) || (b == 41) || (b == 91) || (b == 93)

sign-ends : {k : AbnfKind} {b : ℕ} {bs s : List ℕ} → is_sign b ≡ true → is_ascii_alphabetic b ≡ false
    → is_digit 10 b ≡ false → Stands k (b ∷ bs) s → bs ≡ s
sign-ends e l d (name h n) = cc
sign-ends e l d (counted h n) = cc
sign-ends e l d slash = refl
sign-ends e l d lparen = refl
sign-ends e l d rparen = refl
sign-ends e l d lbrack = refl
sign-ends e l d rbrack = refl
sign-ends e l d _ = cc

pub longest-sign : {k : AbnfKind} {b c : ℕ} {bs : List ℕ} → b ≡ c → is_sign c ≡ true → is_ascii_alphabetic c ≡ false
    → is_digit 10 c ≡ false → Stands k (c ∷ bs) bs → Longest Stands k (b ∷ bs) bs
longest-sign e g l d h = rw e (stands-longest h (λ j s x. let f = sign-ends g l d x in rw f (omega arith)))

-- what a mark closes
quoted-run : {k : AbnfKind} {bs s : List ℕ} → Stands k (34 ∷ bs) s → Run is_quotable bs (34 ∷ s)
quoted-run (name h n) = cc
quoted-run (counted h n) = cc
quoted-run (text h) = h

prose-run : {k : AbnfKind} {bs s : List ℕ} → Stands k (60 ∷ bs) s → Run is_prose bs (62 ∷ s)
prose-run (name h n) = cc
prose-run (counted h n) = cc
prose-run (prose h) = h

-- a mark that isn't of the class ends its bytes at one position
closed-longest : {f : ℕ → Bool} {c : ℕ} {t r s : List ℕ} → f c ≡ false → Run f t (c ∷ r) → Run f t (c ∷ s)
    → length r ≤ length s
closed-longest p h k = let l = run-longest h p k in omega arith

pub longest-text : {b : ℕ} {bs r : List ℕ} → b ≡ 34 → Run is_quotable bs (34 ∷ r) → Longest Stands Text (b ∷ bs) r
longest-text e h = rw e (stands-longest (text h) (λ j s x. closed-longest refl h (quoted-run x)))

pub no-text : {b : ℕ} {bs : List ℕ} → b ≡ 34 → ((r : List ℕ) → Run is_quotable bs (34 ∷ r) → ⊥)
    → NoToken Stands (b ∷ bs)
no-text e f = rw e (λ k r x. f r (quoted-run x))

pub longest-prose : {b : ℕ} {bs r : List ℕ} → b ≡ 60 → Run is_prose bs (62 ∷ r) → Longest Stands Prose (b ∷ bs) r
longest-prose e h = rw e (stands-longest (prose h) (λ j s x. closed-longest refl h (prose-run x)))

pub no-prose : {b : ℕ} {bs : List ℕ} → b ≡ 60 → ((r : List ℕ) → Run is_prose bs (62 ∷ r) → ⊥) → NoToken Stands (b ∷ bs)
no-prose e f = rw e (λ k r x. f r (prose-run x))

-- a byte of a letter's two cases
either-of : (c x y : ℕ) → ((c == x) || (c == y)) ≡ true → (c ≡ x) ⊎ (c ≡ y)
either-of c x y e = elim (or_cases (c == x) (c == y) e) [ inl h ↦ inl (eqb-true c x h) | inr h ↦ inr (eqb-true c y h) ]

-- a letter that names a base names no case
pub reports-case : {c base : ℕ} → NamesBase c base → is_case c ≡ true → ⊥
reports-case {c} (binary e) f = elim (either-of c 98 66 e)
    [ inl p ↦ (let g = rw p at f in cc) | inr p ↦ (let g = rw p at f in cc) ]
reports-case {c} (decimals e) f = elim (either-of c 100 68 e)
    [ inl p ↦ (let g = rw p at f in cc) | inr p ↦ (let g = rw p at f in cc) ]
reports-case {c} (hexadecimal e) f = elim (either-of c 120 88 e)
    [ inl p ↦ (let g = rw p at f in cc) | inr p ↦ (let g = rw p at f in cc) ]

-- a letter names one base
base_reported : ℕ → ℕ
base_reported c = cond ((c == 98) || (c == 66)) 2 (cond ((c == 100) || (c == 68)) 10 16)

reports-is : {c base : ℕ} → NamesBase c base → base ≡ base_reported c
unfolding base_reported
reports-is {c} (binary e) = rw e refl
reports-is {c} (decimals e) = elim (either-of c 100 68 e) [ inl p ↦ rw p refl | inr p ↦ rw p refl ]
reports-is {c} (hexadecimal e) = elim (either-of c 120 88 e) [ inl p ↦ rw p refl | inr p ↦ rw p refl ]

pub reports-one : {c a b : ℕ} → NamesBase c a → NamesBase c b → a ≡ b
reports-one h k = reports-is h ∙ sym (reports-is k)

-- after `%`
PercentCase : AbnfKind → ℕ → List ℕ → List ℕ → Type 0
PercentCase k c bs s = ((is_case c ≡ true) × (m : List ℕ) × (bs ≡ 34 ∷ m) × Run is_quotable m (34 ∷ s))
    ⊎ ((base : ℕ) × NamesBase c base × Numbers base bs s)

percent-by : {k : AbnfKind} {c : ℕ} {bs s : List ℕ} → Stands k (37 ∷ c ∷ bs) s → PercentCase k c bs s
unfolding PercentCase
percent-by (name h n) = cc
percent-by (counted h n) = cc
percent-by (cased {bs} e h) = inl (e, bs, refl, h)
percent-by (num {base} t h) = inr (base, t, h)

cased-run : {k : AbnfKind} {c : ℕ} {bs s : List ℕ} → is_case c ≡ true → Stands k (37 ∷ c ∷ bs) s → (m : List ℕ)
    × (bs ≡ 34 ∷ m) × Run is_quotable m (34 ∷ s)
unfolding PercentCase
cased-run e x = elim (percent-by x) [ inl h ↦ (h.1, h.2, h.3) | inr h ↦ absurd (reports-case h.1 e) ]

based-numbers : {k : AbnfKind} {c : ℕ} {bs s : List ℕ} → is_case c ≡ false → Stands k (37 ∷ c ∷ bs) s → (base : ℕ)
    × NamesBase c base × Numbers base bs s
unfolding PercentCase
based-numbers e x = elim (percent-by x) [ inl h ↦ (let f = h.0 in cc) | inr h ↦ (h.0, h.1, h.2) ]

pub longest-cased : {c : ℕ} {bs m r : List ℕ} → is_case c ≡ true → bs ≡ 34 ∷ m → Run is_quotable m (34 ∷ r)
    → Longest Stands Text (37 ∷ c ∷ bs) r
longest-cased {c} {bs} {m} {r} e q h = rw q (stands-longest (cased e h)
    (λ j s x. (let k = cased-run e x in let same : m ≡ k.0 = (let z = k.1 in cc) in
    closed-longest refl h (rw (sym same) at k.2))))

pub no-cased : {c : ℕ} {bs m : List ℕ} → is_case c ≡ true → bs ≡ 34 ∷ m
    → ((r : List ℕ) → Run is_quotable m (34 ∷ r) → ⊥) → NoToken Stands (37 ∷ c ∷ bs)
no-cased {c} {bs} {m} e q f k r x = let h = cased-run e x in let same : h.0 ≡ m = (let z = h.1 in cc) in
    f r (rw same at h.2)

lacks-quote : {bs m : List ℕ} → bs ≡ 34 ∷ m → Lacks 34 bs → ⊥
lacks-quote e l = let k = rw e at l in k refl

pub no-quote : {c : ℕ} {bs : List ℕ} → is_case c ≡ true → Lacks 34 bs → NoToken Stands (37 ∷ c ∷ bs)
no-quote e l k r x = let h = cased-run e x in lacks-quote h.1 l

pub longest-num : {c base : ℕ} {bs r : List ℕ} → is_case c ≡ false → NamesBase c base → Numbers base bs r
    → ((s : List ℕ) → Numbers base bs s → length r ≤ length s) → Longest Stands Num (37 ∷ c ∷ bs) r
longest-num e t h f =
    stands-longest (num t h) (λ j s x. (let k = based-numbers e x in f s (rw (reports-one k.1 t) at k.2)))

pub no-num : {c base : ℕ} {bs : List ℕ} → is_case c ≡ false → NamesBase c base → ((r : List ℕ) → Numbers base bs r → ⊥)
    → NoToken Stands (37 ∷ c ∷ bs)
no-num e t f k r x = let h = based-numbers e x in f r (rw (reports-one h.1 t) at h.2)

pub no-base : {c : ℕ} {bs : List ℕ} → is_case c ≡ false → ((base : ℕ) → NamesBase c base → ⊥)
    → NoToken Stands (37 ∷ c ∷ bs)
no-base e f k r x = let h = based-numbers e x in f h.0 h.1

pub no-percent : {bs : List ℕ} → length bs ≡ 0 → NoToken Stands (37 ∷ bs)
no-percent e k r (name h n) = cc
no-percent e k r (counted h n) = cc
no-percent e k r (cased p h) = cc
no-percent e k r (num t h) = cc

-- white space
pub piece-blank : {b : ℕ} {t bs : List ℕ} → t ≡ b ∷ bs → is_blank b ≡ true → Piece t bs
piece-blank e h = rw e (blank h)

pub piece-crlf : {b : ℕ} {t bs m : List ℕ} → t ≡ b ∷ bs → b ≡ 13 → bs ≡ 10 ∷ m → Piece t m
piece-crlf e p q = rw (e, p, q) crlf

pub piece-comment : {b : ℕ} {t bs m : List ℕ} → t ≡ b ∷ bs → b ≡ 59 → Run is_inside bs m → Stops is_inside m → Piece t m
piece-comment e p h stop = rw (e, p) (comment h stop)

no_piece-cr : {bs : List ℕ} → Lacks 10 bs → NoPiece Piece (13 ∷ bs)
no_piece-cr l r (blank h) = cc
no_piece-cr l r crlf = absurd (l refl)

pub no-crlf : {b : ℕ} {t bs : List ℕ} → t ≡ b ∷ bs → b ≡ 13 → Lacks 10 bs → NoPiece Piece t
no-crlf e p l = rw (e, p) (no_piece-cr l)

no_piece-other : {b : ℕ} {bs : List ℕ} → is_blank b ≡ false → b ≢ 13 → b ≢ 59 → NoPiece Piece (b ∷ bs)
no_piece-other e p q r (blank h) = cc
no_piece-other e p q r crlf = p refl
no_piece-other e p q r (comment h s) = q refl

pub no-piece : {b : ℕ} {t bs : List ℕ} → t ≡ b ∷ bs → is_blank b ≡ false → b ≢ 13 → b ≢ 59 → NoPiece Piece t
no-piece e h p q = rw e (no_piece-other h p q)

pub no_piece-nothing : {t : List ℕ} → length t ≡ 0 → NoPiece Piece t
no_piece-nothing e r (blank h) = cc
no_piece-nothing e r crlf = cc
no_piece-nothing e r (comment h s) = cc

-- the first token of a text
pub first-found : {b : ℕ} {t bs r : List ℕ} (k : AbnfKind) → t ≡ b ∷ bs → Longest Stands k (b ∷ bs) r → First k t r
first-found k e h = rw e (found h)

nothing-left : (t : List ℕ) → take (length t - length t) (drop (length t) t) ≡ []
nothing-left t = grind (arith)

pub first-bad : {b : ℕ} {t bs : List ℕ} → t ≡ b ∷ bs → NoPiece Piece t → NoToken Stands (b ∷ bs)
    → First Bad t (take (length t - length t) (drop (length t) t))
first-bad {b} {t} {bs} e w f = rw (nothing-left t, e) (bad (rw e at w) f)

pub first-end : (t : List ℕ) → length t ≡ 0 → First End t t
first-end [] e = at_end
first-end (b ∷ bs) e = cc
