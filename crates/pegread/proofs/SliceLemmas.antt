-- A text is cut in one way, and how far the relations of specs/Slices.antt reach.
-- Serves: Kind::after_white, Kind::are_cut, Kind::first_token, is_read_back, read_peg
use Rattle.std.proofs.Common.{◌≡◌, ◌≢◌, ℕ, ◌≤◌, ◌<◌, true, false, List, [], ◌∷◌, length, refl, sym, ap, arith, zero}
use Rattle.std.proofs.Common.{suc, ◌++◌, ◌⊎◌, inl, inr, ◌∙◌, append_assoc}
use Rattle.std.proofs.lemmas.Bool.Decides.{nat_tests}
use Rattle.lexer.specs.SliceEnds.{IsEnd, IsPart, StandsAlone, NoPiece, no_more, piece, Longest, NoToken}
use Rattle.lexer.proofs.FirstLemmas.{end-more, end-here, end-both, less-one}
use Rattle.lexer.proofs.TokenListLemmas.{end-shorter}
use Rattle.pegread.specs.declared.kind.Kind.{Kind}
use Rattle.pegread.specs.declared.kind.Kind.TheVariants.{Ident, Bad, End}
use Rattle.pegread.specs.Kinds.{is_end}
use Rattle.pegread.specs.Slices.{starts_name, is_blank, Names, none, more, Closes, close, escape, plain, Body, last}
use Rattle.pegread.specs.Slices.{nested, other, Stands, ident, arrow, begin, single, double, class, action, Comment}
use Rattle.pegread.specs.Slices.{ended, inside, Piece, blank, comment, White, First, continues_name, ends_line}
use Rattle.pegread.specs.Slices.{IsLineEnd}
use Rattle.pegread.specs.Tokens.{Tok, AreTokens}
use Rattle.lexer.proofs.FirstLemmas as firsts
use Rattle.lexer.proofs.TokenListLemmas as lists

names-end : {t r : List ℕ} → Names t r → IsEnd t r
names-end none = end-here
names-end (more h n) = end-more _ (names-end n)

closes-end : {m : ℕ} {t r : List ℕ} → Closes m t r → IsEnd t r
closes-end close = end-more _ end-here
closes-end (escape c) = end-more _ (end-more _ (closes-end c))
closes-end (plain p q c) = end-more _ (closes-end c)

body-end : {t r : List ℕ} → Body t r → IsEnd t r
body-end last = end-more _ end-here
body-end (nested h k) = end-more _ (end-both (body-end h) (body-end k))
body-end (other p q h) = end-more _ (body-end h)

pub stands-part : (k : Kind) (t r : List ℕ) → Stands k t r → IsPart t r
stands-part k t r (ident h n) = less-one _ (names-end n)
stands-part k t r arrow = less-one _ (end-more _ end-here)
stands-part k t r (single c) = less-one _ (closes-end c)
stands-part k t r (double c) = less-one _ (closes-end c)
stands-part k t r (class c) = less-one _ (closes-end c)
stands-part k t r (action c) = less-one _ (body-end c)
stands-part k t r _ = less-one _ end-here

pub stands-no_end : {t r : List ℕ} → Stands End t r → ⊥
stands-no_end h = elim h [ ]

letter-kind : {k : Kind} {b : ℕ} {bs r : List ℕ} → starts_name b ≡ true → Stands k (b ∷ bs) r → k ≡ Ident
letter-kind e (ident h n) = refl
letter-kind e _ = cc

-- two tokens that stand at one position and end at one position are of one kind
kinds-one : {k j : Kind} {t r s : List ℕ} → r ≡ s → Stands k t r → Stands j t s → k ≡ j
kinds-one e (ident h n) y = sym (letter-kind h y)
kinds-one e x (ident h n) = letter-kind h x
kinds-one e arrow begin = absurd (omega (arith, ap length e))
kinds-one e begin arrow = absurd (omega (arith, ap length e))
kinds-one e _ _ = refl

stands-one : (k j : Kind) (t r : List ℕ) → Stands k t r → Stands j t r → k ≡ j
stands-one k j t r x y = kinds-one refl x y

comment-end : {t r : List ℕ} → Comment t r → IsEnd t r
comment-end (ended h) = end-here
comment-end (inside p h) = end-more _ (comment-end h)

comment-one : {t m n : List ℕ} → Comment t m → Comment t n → m ≡ n
comment-one (ended h) (ended k) = refl
comment-one (ended h) (inside p k) = cc
comment-one (inside p h) (ended k) = cc
comment-one (inside p h) (inside q k) = comment-one h k

piece-end : (t r : List ℕ) → Piece t r → IsEnd t r
piece-end t r (blank e) = end-more _ end-here
piece-end t r (comment h) = end-more _ (comment-end h)

piece-one : (t m n : List ℕ) → Piece t m → Piece t n → m ≡ n
piece-one t m n (blank e) (blank f) = refl
piece-one t m n (blank e) (comment k) = absurd (let x : is_blank 35 ≡ true = e in cc)
piece-one t m n (comment h) (blank f) = absurd (let x : is_blank 35 ≡ true = f in cc)
piece-one t m n (comment h) (comment k) = comment-one h k

letter-dark : {b : ℕ} {bs m : List ℕ} → starts_name b ≡ true → Piece (b ∷ bs) m → ⊥
letter-dark {b} e (blank f) = let g : is_blank b ≡ false = grind (arith, nat_tests) in cc
letter-dark e (comment h) = let f : starts_name 35 ≡ true = e in cc

stands-dark : (k : Kind) (t r m : List ℕ) → Stands k t r → Piece t m → ⊥
stands-dark k t r m (ident e n) p = letter-dark e p
stands-dark k t r m _ (blank f) = cc

nothing-dark : (m : List ℕ) → Piece [] m → ⊥
nothing-dark m h = elim h [ ]

-- no white space begins nothing, or what begins with a byte that begins none
pub none-dark : (t : List ℕ) → length t ≡ 0 → NoPiece Piece t
none-dark [] e m p = nothing-dark m p
none-dark (b ∷ bs) e m p = cc

pub byte-dark : {b : ℕ} {t bs : List ℕ} → t ≡ b ∷ bs → is_blank b ≡ false → b ≢ 35 → NoPiece Piece t
byte-dark {b} e f n m (blank {b = c} h) = let same : c ≡ b = cc in let g = rw same at h in cc
byte-dark {b} e f n m (comment h) = let same : b ≡ 35 = cc in n same

pub white-ends : {t r : List ℕ} → White t r → IsEnd t r
white-ends h = firsts.white-end Piece piece-end piece-one h

-- a comment's inside, which ends before each line end
record CommentPart (t r : List ℕ) : Type 0 where
  part : List ℕ
  cut : t ≡ part ++ r
  ends : IsLineEnd r
  alone : (s : List ℕ) → IsLineEnd s → Comment (part ++ s) s

comment-part : {t r : List ℕ} → Comment t r → CommentPart t r
comment-part (ended h) = record { part = []; cut = refl; ends = h; alone = λ s e. ended e }
comment-part (inside {b} p c) = let x = comment-part c in
    record {
      part = b ∷ x.part;
      cut = ap (λ (z : List ℕ). b ∷ z) x.cut;
      ends = x.ends;
      alone = λ s e. inside p (x.alone s e);
    }

-- a prefix of what a line end begins, or nothing
line_end-front : (w r : List ℕ) {t : List ℕ} → t ≡ w ++ r → IsLineEnd t → IsLineEnd w
line_end-front [] r e h = tt
line_end-front (b ∷ w) r e h = rw e at h

-- white space is white space by itself too
pub white-alone : {t r : List ℕ} → White t r → StandsAlone White t r
white-alone no_more = record { part = record { front = []; whole = refl }; alone = no_more }
white-alone (piece (blank {b} p) h) =
    let x = white-alone h in
    let after = x.part in
    record {
      part = record { front = b ∷ after.front; whole = ap (λ (z : List ℕ). b ∷ z) after.whole };
      alone = piece (blank p) x.alone;
    }
white-alone {r} (piece (comment c) h) =
    let x = comment-part c in
    let y = white-alone h in
    let after = y.part in
    record {
      part = record {
        front = 35 ∷ (x.part ++ after.front);
        whole = ap (λ (z : List ℕ). 35 ∷ z) (x.cut ∙ ap (λ (z : List ℕ). x.part ++ z) after.whole
            ∙ sym (append_assoc x.part after.front r));
      };
      alone = piece (comment (x.alone after.front (line_end-front after.front r after.whole x.ends))) y.alone;
    }

pub white-shorter : {t r : List ℕ} → White t r → length r ≤ length t
white-shorter h = end-shorter (white-ends h)

pub first-ends : {k : Kind} {t r : List ℕ} → First k t r → IsEnd t r
first-ends h = firsts.first-ends Piece Stands Bad End stands-part h

pub first-less : {k : Kind} {t r : List ℕ} → is_end k ≡ false → First k t r → length r < length t
first-less e h = firsts.first-less Piece Stands Bad End stands-part is_end refl e h

pub first-longest : {k : Kind} {t r : List ℕ} → First k t r → Longest Stands k t r ⊎ NoToken Stands t
first-longest h = firsts.first-longest Piece Stands Bad End stands-part h

ends-none : (k : Kind) (t r : List ℕ) → is_end k ≡ true → Stands k t r → ⊥
ends-none End t r e h = stands-no_end h
ends-none _ t r e h = cc

pub first-last : {k : Kind} {t r : List ℕ} → is_end k ≡ true → First k t r → t ≡ []
first-last e h = firsts.first-last Piece Stands Bad End stands-part is_end refl ends-none e h

pub one-next : (j k : Kind) (t a b r s : List ℕ) → White t a → First j a r → White t b → First k b s → (j ≡ k) × (a ≡ b)
    × (r ≡ s)
one-next = firsts.one-next Piece Stands Bad End stands-part stands-one piece-end piece-one stands-dark nothing-dark

pub tokens-one : {total : ℕ} {t : List ℕ} {xs ys : List Tok} → AreTokens total t xs → AreTokens total t ys → xs ≡ ys
tokens-one h k = lists.tokens-one White First is_end one-next h k

-- the text doesn't go on with a byte of a name
abbrev pub NoMore : List ℕ → Type 0
NoMore [] = Unit {0}
NoMore (b ∷ bs) = continues_name b ≡ false

pub names-shorter : {t r : List ℕ} → Names t r → length r ≤ length t
names-shorter none = omega arith
names-shorter (more h n) = let ih = names-shorter n in omega arith

pub names-longest : {t r s : List ℕ} → Names t r → NoMore r → Names t s → length r ≤ length s
names-longest n stop none = names-shorter n
names-longest (more h n) stop (more k m) = names-longest n stop m
names-longest none stop (more k m) = cc

-- a call of `split_first` took one byte more of the name
pub names-on : {b : ℕ} {t bs r : List ℕ} → t ≡ b ∷ bs → continues_name b ≡ true → Names bs r → Names t r
names-on e h n = rw (e) (more h n)

unfoldable pub Decided : ℕ → ℕ → List ℕ → List ℕ → Type 0
Decided mark b bs r = ((b ≡ mark) × (r ≡ bs)) ⊎ (((b ≡ 92) × (d : ℕ) × (ds : List ℕ) × (bs ≡ d ∷ ds) × Closes mark ds r)
    ⊎ ((b ≢ mark) × (b ≢ 92) × Closes mark bs r))

-- how a text that begins with b is closed
pub closes-by : {mark b : ℕ} {bs r : List ℕ} → Closes mark (b ∷ bs) r → Decided mark b bs r
unfolding Decided
closes-by close = inl (refl, refl)
closes-by (escape {b} {bs} c) = inr (inl (refl, b, bs, refl, c))
closes-by (plain p q c) = inr (inr (p, q, c))

pub closes-here : {mark b : ℕ} {t bs : List ℕ} → t ≡ b ∷ bs → b ≡ mark → Closes mark t bs
closes-here e h = rw (e, h) close

module _ {mark b : ℕ} {t bs : List ℕ} (e : t ≡ b ∷ bs) where
  pub closes-plain : {r : List ℕ} → b ≢ mark → b ≢ 92 → Closes mark bs r → Closes mark t r
  closes-plain p q c = rw (e) (plain p q c)

  pub closes-plain-back : {r : List ℕ} → b ≢ mark → b ≢ 92 → Closes mark t r → Closes mark bs r
  unfolding Decided
  closes-plain-back p q c = elim (closes-by (rw e at c))
      [ inl x ↦ absurd (p x.0) | inr y ↦ elim y [ inl z ↦ absurd (q z.0) | inr w ↦ w.2 ] ]

  pub closes-escape : {d : ℕ} {ds r : List ℕ} → b ≡ 92 → bs ≡ d ∷ ds → Closes mark ds r → Closes mark t r
  closes-escape p q c = rw (e, p, q) (escape c)

  pub closes-escape-back : {d : ℕ} {ds r : List ℕ} → b ≢ mark → b ≡ 92 → bs ≡ d ∷ ds → Closes mark t r
      → Closes mark ds r
  unfolding Decided
  closes-escape-back m p q c = elim (closes-by (rw e at c)) [
    | inl x ↦ absurd (m x.0)
    | inr y ↦ elim y [
      | inl z ↦ (let same : z.2 ≡ _ = cc in rw same at z.4)
      | inr w ↦ absurd (w.1 p)
    ]
  ]

-- as many bodies, one after another, as braces are open
abbrev pub Bodies : ℕ → List ℕ → List ℕ → Type 0
Bodies zero t r = Body t r
Bodies (suc d) t r = (m : List ℕ) × Body t m × Bodies d m r

pub BodyCase : ℕ → List ℕ → List ℕ → Type 0
BodyCase b bs r = ((b ≡ 125) × (r ≡ bs)) ⊎ (((b ≡ 123) × (m : List ℕ) × Body bs m × Body m r)
    ⊎ ((b ≢ 123) × (b ≢ 125) × Body bs r))

pub body-by : {b : ℕ} {bs r : List ℕ} → Body (b ∷ bs) r → BodyCase b bs r
unfolding BodyCase
body-by last = inl (refl, refl)
body-by (nested {m} h k) = inr (inl (refl, m, h, k))
body-by (other p q h) = inr (inr (p, q, h))

pub no-body : {t r : List ℕ} → length t ≡ 0 → Body t r → ⊥
no-body e last = cc
no-body e (nested h k) = cc
no-body e (other p q h) = cc

pub no-bodies : (d : ℕ) (t r : List ℕ) → length t ≡ 0 → Bodies d t r → ⊥
no-bodies zero t r e h = no-body e h
no-bodies (suc d) t r e h = no-body e h.1

pub line_end-nothing : (t : List ℕ) → length t ≡ 0 → IsLineEnd t
line_end-nothing [] e = tt
line_end-nothing (b ∷ bs) e = cc

module _ {b : ℕ} {t bs : List ℕ} (e : t ≡ b ∷ bs) where
  pub body-last : b ≡ 125 → Body t bs
  body-last p = rw (e, p) last

  pub bodies-open : (r : List ℕ) (d : ℕ) → b ≡ 123 → Bodies (suc d) bs r → Bodies d t r
  bodies-open r zero p h = rw (e, p) (nested h.1 h.2)
  bodies-open r (suc d) p h = let k = h.2 in (k.0, rw (e, p) (nested h.1 k.1), k.2)

  body-open-back : {r : List ℕ} → b ≡ 123 → Body t r → (m : List ℕ) × Body bs m × Body m r
  unfolding BodyCase
  body-open-back p h = elim (body-by (rw e at h)) [
    | inl x ↦ absurd (let q : b ≡ 125 = x.0 in omega arith)
    | inr y ↦ elim y [ inl z ↦ (z.1, z.2, z.3) | inr w ↦ absurd (w.0 p) ]
  ]

  pub bodies-open-back : (r : List ℕ) (d : ℕ) → b ≡ 123 → Bodies d t r → Bodies (suc d) bs r
  bodies-open-back r zero p h = body-open-back p h
  bodies-open-back r (suc d) p h = let x = body-open-back p h.1 in (x.0, x.1, (h.0, x.2, h.2))

  pub bodies-close : (r : List ℕ) (d : ℕ) → b ≡ 125 → Bodies d bs r → Bodies (suc d) t r
  bodies-close r d p h = (bs, body-last p, h)

  body-close-back : {r : List ℕ} → b ≡ 125 → Body t r → r ≡ bs
  unfolding BodyCase
  body-close-back p h = elim (body-by (rw e at h)) [
    | inl x ↦ x.1
    | inr y ↦ elim y [
      | inl z ↦ absurd (let q : b ≡ 123 = z.0 in omega arith)
      | inr w ↦ absurd (w.1 p)
    ]
  ]

  pub bodies-close-back : (r : List ℕ) (d : ℕ) → b ≡ 125 → Bodies (suc d) t r → Bodies d bs r
  bodies-close-back r d p h = let same = body-close-back p h.1 in rw same at h.2

  pub bodies-other : (r : List ℕ) (d : ℕ) → b ≢ 123 → b ≢ 125 → Bodies d bs r → Bodies d t r
  bodies-other r zero p q h = rw (e) (other p q h)
  bodies-other r (suc d) p q h = (h.0, rw (e) (other p q h.1), h.2)

  body-other-back : {r : List ℕ} → b ≢ 123 → b ≢ 125 → Body t r → Body bs r
  unfolding BodyCase
  body-other-back p q h = elim (body-by (rw e at h))
      [ inl x ↦ absurd (q x.0) | inr y ↦ elim y [ inl z ↦ absurd (p z.0) | inr w ↦ w.2 ] ]

  pub bodies-other-back : (r : List ℕ) (d : ℕ) → b ≢ 123 → b ≢ 125 → Bodies d t r → Bodies d bs r
  bodies-other-back r zero p q h = body-other-back p q h
  bodies-other-back r (suc d) p q h = (h.0, body-other-back p q h.1, h.2)

  pub comment-on : {r : List ℕ} → ends_line b ≡ false → Comment bs r → Comment t r
  comment-on p h = rw (e) (inside p h)

  pub blank-on : {r : List ℕ} → is_blank b ≡ true → White bs r → White t r
  blank-on p h = rw (e) (piece (blank p) h)

  pub comment-off : {m r : List ℕ} → b ≡ 35 → Comment bs m → White m r → White t r
  comment-off p h k = rw (e, p) (piece (comment h) k)

-- what follows does not matter
pub names-before : {t m : List ℕ} (r : List ℕ) → Names t m → Names (t ++ r) (m ++ r)
names-before r none = none
names-before r (more h n) = more h (names-before r n)

pub body-before : {t m : List ℕ} (r : List ℕ) → Body t m → Body (t ++ r) (m ++ r)
body-before r last = last
body-before r (nested h k) = nested (body-before r h) (body-before r k)
body-before r (other p q h) = other p q (body-before r h)
