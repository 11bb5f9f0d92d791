-- A token says one thing at most, and something unless it is bad.
-- Serves: one_tree, read_abnf
use Rattle.std.proofs.Common.{◌≡◌, ◌≢◌, ℕ, ◌||◌, ◌==◌, Bool, true, Option, List, [], ◌∷◌, ◌++◌, refl, sym, ◌∙◌, ap}
use Rattle.std.proofs.Common.{append_assoc, arith}
use Rattle.std.proofs.lemmas.List.{append_cancel_right}
use Rattle.std.specs.Str.Parse.{digits_value}
use Rattle.ruletable.specs.declared.span.Span.{Span}
use Rattle.lexer.specs.SliceEnds.{found, bad, at_end}
use Rattle.lexer.specs.TokenLists as lexed
use Rattle.lexer.specs.TokenLists.{Tok, tok, Next, last_one, one_more}
use Rattle.abnfread.specs.declared.kind.AbnfKind.{AbnfKind}
use Rattle.abnfread.specs.declared.kind.AbnfKind.TheVariants as kinds
use Rattle.abnfread.specs.AbnfKinds.{ends_list, is_repeat}
use Rattle.abnfread.specs.AbnfReader.{IsSaid}
use Rattle.abnfread.specs.AbnfSays.{SaysKind, says_name, says_is, says_adds, says_slash, says_lparen, says_rparen}
use Rattle.abnfread.specs.AbnfSays.{says_lbrack, says_rbrack, says_repeat, says_text, says_cased, says_num, says_prose}
use Rattle.abnfread.specs.AbnfSays.{says_end, Says, says, IsSmall}
use Rattle.abnfread.specs.AbnfSlices.{White, First, none, more, Digits, digits, Dotted, no_dot, dot, values, range}
use Rattle.abnfread.specs.AbnfSlices.{Count, exactly, at_least, Stands, name, is, adds, slash, lparen, rparen, lbrack}
use Rattle.abnfread.specs.AbnfSlices.{rbrack, counted, star, text, cased, num, prose}
use Rattle.abnfread.specs.AbnfWords as words
use Rattle.abnfread.specs.AbnfWords.{Said, Word, word, Repeat, Text, Values, Range, Prose}
use Rattle.abnfread.specs.BaseDigits.{is_digit}
use Rattle.abnfread.specs.MarkedTokens.{Marked, marked, tok_of, marks, AreMarked}
use Rattle.abnfread.specs.Numerals.{says_exactly, says_between, SaysNum, says_values, says_range, Listed, last_number}
use Rattle.abnfread.specs.Numerals.{more_numbers}
use Rattle.abnfread.proofs.AbnfFirstLemmas.{reports-one}
use Rattle.abnfread.proofs.ByteRunLemmas.{no-digit}
use Rattle.abnfread.proofs.NumberStepLemmas as numbers
use Rattle.abnfread.proofs.NumeralLemmas.{heads-equal, tails-equal, run-part, digits-run, one-repeat, one-listed}
use Rattle.abnfread.proofs.NumeralLemmas.{ends-range}
use Rattle.abnfread.proofs.NumeralLemmas.{listed-no_range}
use Rattle.abnfread.proofs.SaysNumLemmas.{reports-most}

one-num : {z : List ℕ} {s t : Said} → SaysNum z s → SaysNum z t → s ≡ t
one-num (says_values {t} a h) (says_values d k) = ap Values (one-listed _ t (reports-most a) h
    (rw (reports-one d a) at k))
one-num (says_values {t} a h) (says_range {ds} {es} d e f g) =
    absurd (listed-no_range _ t ds es (reports-most a) h e (digits-run (rw (reports-one d a) at f)))
one-num (says_range {t} {ds} {es} d e f g) (says_values a h) =
    absurd (listed-no_range _ t ds es (reports-most d) (rw (reports-one a d) at h) e (digits-run f))
one-num (says_range {base} {t} {ds} {es} a e f g) (says_range {base = b} {ds = us} {es = vs} d i j k) =
    let ends = ends-range base t us vs ds (45 ∷ es) (reports-most a) i (rw (reports-one d a) at j) e (digits-run f)
    (no-digit base 45 36 refl (reports-most a)) in
    let after : vs ≡ es = tails-equal ends.1 in
    ap (λ (n : ℕ). Range (digits_value n ds) (digits_value n es)) (sym (reports-one d a))
    ∙ ap (λ (x : List ℕ). Range (digits_value b x) (digits_value b es)) (sym ends.0)
    ∙ ap (λ (x : List ℕ). Range (digits_value b us) (digits_value b x)) (sym after)

pub one-said : {k : AbnfKind} {z : List ℕ} {p : Span} {s t : Said} → SaysKind k z p s → SaysKind k z p t → s ≡ t
one-said says_name says_name = refl
one-said says_is says_is = refl
one-said says_adds says_adds = refl
one-said says_slash says_slash = refl
one-said says_lparen says_lparen = refl
one-said says_rparen says_rparen = refl
one-said says_lbrack says_lbrack = refl
one-said says_rbrack says_rbrack = refl
one-said (says_repeat {a} {b} h) (says_repeat {a = c} {b = d} k) = let e = one-repeat h k in ap (λ n. Repeat n b) e.0
    ∙ ap (Repeat c) e.1
one-said (says_text {t = a} e) (says_text {t = b} f) =
    ap (Text true) (append_cancel_right a b (34 ∷ []) (tails-equal (sym e ∙ f)))
one-said (says_text e) (says_cased i f) = absurd (let h = heads-equal (sym e ∙ f) in omega arith)
one-said (says_cased i f) (says_text e) = absurd (let h = heads-equal (sym e ∙ f) in omega arith)
one-said (says_cased {t = a} {c} i e) (says_cased {t = b} {c = d} j f) =
    let k = tails-equal (sym e ∙ f) in
    ap (λ (n : ℕ). Text ((n == 105) || (n == 73)) a) (heads-equal k)
    ∙ ap (Text ((d == 105) || (d == 73))) (append_cancel_right a b (34 ∷ []) (tails-equal (tails-equal k)))
one-said (says_num h) (says_num k) = one-num h k
one-said (says_prose {t = a} e) (says_prose {t = b} f) =
    ap Prose (append_cancel_right a b (62 ∷ []) (tails-equal (sym e ∙ f)))
one-said says_end says_end = refl

pub one-word : (m : Marked) (v w : Word) → Says m v → Says m w → v ≡ w
one-word m v w (says {g} {f} h) (says k) = ap (word g f) (one-said h k)

-- the text of a token, by itself, and what it says
record Own (k : AbnfKind) (t r : List ℕ) (p : Span) : Type 0 where
  own : List ℕ
  cut : t ≡ own ++ r
  said : Said
  says : SaysKind k own p said

-- what stands between two bytes
closed-cut : (c : ℕ) (bs ts r : List ℕ) → bs ≡ ts ++ c ∷ r → bs ≡ (ts ++ c ∷ []) ++ r
closed-cut c bs ts r e = e ∙ sym (append_assoc ts (c ∷ []) r)

digits-part : {base : ℕ} {t r : List ℕ} → Digits base t r → (ds : List ℕ) × (t ≡ ds ++ r) × Digits base ds []
digits-part (digits {b} e h) = let p = run-part h in (b ∷ p.0, ap (λ (x : List ℕ). b ∷ x) p.1, digits e p.2)

joined-cut : (c : ℕ) (t ds m es r : List ℕ) → t ≡ ds ++ c ∷ m → m ≡ es ++ r → t ≡ (ds ++ c ∷ es) ++ r
joined-cut c t ds m es r e f = e ∙ ap (λ (x : List ℕ). ds ++ c ∷ x) f ∙ sym (append_assoc ds (c ∷ es) r)

listed-part : {base : ℕ} {t m r : List ℕ} → Digits base t m → Dotted base m r → (own : List ℕ) × (vs : List ℕ)
    × (t ≡ own ++ r) × Listed base own vs
listed-part d no_dot = let p = digits-part d in (p.0, _, p.1, last_number p.2)
listed-part {t = t} {r = r} d (dot {bs} e h) =
    let p = digits-part d in
    let q = listed-part e h in
    (p.0 ++ 46 ∷ q.0, _, joined-cut 46 t p.0 bs q.0 r p.1 q.2, more_numbers refl p.2 q.3)

module _ (p : Span) where
  counted-own : {b : ℕ} {bs r : List ℕ} → is_digit 10 b ≡ true → Count bs r → Own kinds.Repeat (b ∷ bs) r p
  counted-own {b} e (exactly h) = let q = run-part h in
      record {
        own = b ∷ q.0;
        cut = ap (λ (x : List ℕ). b ∷ x) q.1;
        said = _;
        says = says_repeat (says_exactly (digits e q.2));
      }
  counted-own {b} {bs} {r} e (at_least {m} h k) =
      let q = run-part h in
      let u = run-part k in
      record {
        own = b ∷ (q.0 ++ 42 ∷ u.0);
        cut = ap (λ (x : List ℕ). b ∷ x) (joined-cut 42 bs q.0 m u.0 r q.1 u.1);
        said = _;
        says = says_repeat (says_between {ds = b ∷ q.0} {es = u.0} refl (more e q.2) u.2);
      }

  own-of : {k : AbnfKind} {t r : List ℕ} → Stands k t r → Own k t r p
  own-of (name {b} e h) = let q = run-part h in record {
    own = b ∷ q.0;
    cut = ap (λ (x : List ℕ). b ∷ x) q.1;
    said = _;
    says = says_name;
  }
  own-of is = record { own = 61 ∷ []; cut = refl; said = _; says = says_is }
  own-of adds = record { own = 61 ∷ 47 ∷ []; cut = refl; said = _; says = says_adds }
  own-of slash = record { own = 47 ∷ []; cut = refl; said = _; says = says_slash }
  own-of lparen = record { own = 40 ∷ []; cut = refl; said = _; says = says_lparen }
  own-of rparen = record { own = 41 ∷ []; cut = refl; said = _; says = says_rparen }
  own-of lbrack = record { own = 91 ∷ []; cut = refl; said = _; says = says_lbrack }
  own-of rbrack = record { own = 93 ∷ []; cut = refl; said = _; says = says_rbrack }
  own-of (counted e h) = counted-own e h
  own-of (star {bs} {r} h) = let q = run-part h in
      record {
        own = 42 ∷ q.0;
        cut = ap (λ (x : List ℕ). 42 ∷ x) q.1;
        said = _;
        says = says_repeat (says_between {ds = []} {es = q.0} refl none q.2);
      }
  own-of (text {bs} {r} h) =
      let q = run-part h in
      record {
        own = 34 ∷ (q.0 ++ 34 ∷ []);
        cut = ap (λ (x : List ℕ). 34 ∷ x) (closed-cut 34 bs q.0 r q.1);
        said = _;
        says = says_text {t = q.0} refl;
      }
  own-of (cased {c} {bs} {r} e h) =
      let q = run-part h in
      record {
        own = 37 ∷ c ∷ 34 ∷ (q.0 ++ 34 ∷ []);
        cut = ap (λ (x : List ℕ). 37 ∷ c ∷ 34 ∷ x) (closed-cut 34 bs q.0 r q.1);
        said = _;
        says =
            says_cased {t = q.0} e refl;
      }
  own-of (num {c} {bs} {r} reports (values d h)) =
      let q = listed-part d h in
      record {
        own = 37 ∷ c ∷ q.0;
        cut = ap (λ (x : List ℕ). 37 ∷ c ∷ x) q.2;
        said = _;
        says = says_num (says_values reports q.3);
      }
  own-of (num {c} {bs} {r} reports (range {m} d k)) =
      let q = digits-part d in
      let u = digits-part k in
      record {
        own = 37 ∷ c ∷ (q.0 ++ 45 ∷ u.0);
        cut = ap (λ (x : List ℕ). 37 ∷ c ∷ x) (joined-cut 45 bs q.0 m u.0 r q.1 u.1);
        said = _;
        says = says_num (says_range reports refl q.2 u.2);
      }
  own-of (prose {bs} {r} h) =
      let q = run-part h in
      record {
        own = 60 ∷ (q.0 ++ 62 ∷ []);
        cut = ap (λ (x : List ℕ). 60 ∷ x) (closed-cut 62 bs q.0 r q.1);
        said = _;
        says = says_prose {t = q.0} refl;
      }

first-said : {k : AbnfKind} {t r : List ℕ} (z : List ℕ) (p : Span) → First k t r → t ≡ z ++ r → (k ≡ kinds.Bad → ⊥)
    → (s : Said) × SaysKind k z p s
first-said {r = r} z p (found h) cut f =
    let o = own-of p h.stands in
    let same : o.own ≡ z = append_cancel_right o.own z r (sym o.cut ∙ cut) in
    (o.said, rw same at o.says)
first-said z p (bad w n) cut f = absurd (f refl)
first-said z p at_end cut f = (words.End, says_end)

pub bad-silent : (z : List ℕ) (p : Span) (s : Said) → SaysKind kinds.Bad z p s → ⊥
bad-silent z p s h = elim h [ ]

pub token-says : (total : ℕ) (t r z : List ℕ) (k : AbnfKind) (p : Span) → Next White First total t (tok k z p) r
    → k ≢ kinds.Bad → (s : Said) × SaysKind k z p s
token-says total t r z k p n f = first-said z p n.first n.cut f

is-said : (k : AbnfKind) (z : List ℕ) (p : Span) → ((k ≡ kinds.Bad → ⊥) → (s : Said) × SaysKind k z p s) → IsSaid k z p
is-said kinds.Bad z p f = tt
is-said _ z p f = f (λ e. cc)

pub said-there : (k : AbnfKind) (z : List ℕ) (p : Span) → IsSaid k z p → (k ≡ kinds.Bad → ⊥) → (s : Said)
    × SaysKind k z p s
said-there kinds.Bad z p h f = absurd (f refl)
said-there _ z p h f = h

-- a token that was cut says something unless it is bad
pub next-said : {total : ℕ} {t r : List ℕ} (k : AbnfKind) (z : List ℕ) (p : Span)
    → Next White First total t (tok k z p) r → IsSaid k z p
next-said k z p n = is-said k z p (λ f. first-said z p n.first n.cut f)

abbrev AreSaid : List (Tok AbnfKind) → Type 0
AreSaid [] = Unit {0}
AreSaid (tok k z p ∷ ts) = IsSaid k z p × AreSaid ts

tokens-said : {total : ℕ} {t : List ℕ} {ts : List (Tok AbnfKind)} → lexed.AreTokens White First ends_list total t ts
    → AreSaid ts
tokens-said (last_one {x = tok k z p} n e) = (next-said k z p n, tt)
tokens-said (one_more {x = tok k z p} n e others) = (next-said k z p n, tokens-said others)

-- marks change no token
tokens_of : List Marked → List (Tok AbnfKind)
tokens_of [] = []
tokens_of (m ∷ ms) = tok_of m ∷ tokens_of ms

marks-tokens : (src : List ℕ) (m : Option ℕ) (n : ℕ) (ts : List (Tok AbnfKind)) → tokens_of (marks src m n ts) ≡ ts
unfolding tokens_of
marks-tokens src m n [] = refl
marks-tokens src m n (x ∷ xs) = ap (λ (ys : List (Tok AbnfKind)). x ∷ ys) (marks-tokens src m (lexed.end_of x) xs)

said-at : (ms : List Marked) (k : AbnfKind) (z : List ℕ) (p : Span) (g f : Bool) (others : List Marked)
    → AreSaid (tokens_of (ms ++ marked (tok k z p) g f ∷ others)) → IsSaid k z p
unfolding tokens_of
said-at [] k z p g f others h = h.0
said-at (marked (tok j y q) a b ∷ ms) k z p g f others h = said-at ms k z p g f others h.1

-- each token of a text says something unless it is bad
pub marked-said : (src : List ℕ) (ms : List Marked) (k : AbnfKind) (z : List ℕ) (p : Span) (g f : Bool)
    (others : List Marked) → AreMarked src (ms ++ marked (tok k z p) g f ∷ others) → IsSaid k z p
marked-said src ms k z p g f others a =
    let same = ap tokens_of a.same ∙ marks-tokens src _ 0 a.tokens in
    said-at ms k z p g f others (rw same (tokens-said a.are_tokens))

-- what is too large is a number
pub large-number : {k : AbnfKind} {z : List ℕ} {p : Span} {s : Said} → SaysKind k z p s → (IsSmall s → ⊥)
    → numbers.Number (is_repeat k) s
large-number (says_repeat h) f = numbers.repeat
large-number (says_num (says_values a h)) f = numbers.values
large-number (says_num (says_range a e d h)) f = numbers.range
large-number says_name f = absurd (f tt)
large-number says_is f = absurd (f tt)
large-number says_adds f = absurd (f tt)
large-number says_slash f = absurd (f tt)
large-number says_lparen f = absurd (f tt)
large-number says_rparen f = absurd (f tt)
large-number says_lbrack f = absurd (f tt)
large-number says_rbrack f = absurd (f tt)
large-number (says_text e) f = absurd (f tt)
large-number (says_cased i e) f = absurd (f tt)
large-number (says_prose e) f = absurd (f tt)
large-number says_end f = absurd (f tt)
