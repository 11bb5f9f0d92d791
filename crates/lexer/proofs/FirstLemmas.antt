-- The first token of a text is found in one way, where two tokens of one position and one end are of one kind.
-- Serves: Kind::are_cut, AbnfKind::are_cut, read_peg, read_abnf
use Rattle.std.proofs.Common.{◌≡◌, ℕ, ◌<◌, Bool, true, false, List, [], ◌∷◌, ◌++◌, length, drop, refl, sym, ap, arith}
use Rattle.std.proofs.Common.{length-append, append_assoc, ◌∙◌, ◌⊎◌, inl, inr}
use Rattle.std.proofs.lemmas.List.{drop_at}
use Rattle.lexer.specs.SliceEnds.{IsEnd, IsPart, White, no_more, piece, NoPiece, Longest, NoToken, First}
use Rattle.lexer.specs.SliceEnds.{found, bad, at_end}

pub end-more : {t r : List ℕ} (b : ℕ) → IsEnd t r → IsEnd (b ∷ t) r
end-more b h = record { front = b ∷ h.front; whole = ap (λ (x : List ℕ). b ∷ x) h.whole }

pub end-here : {t : List ℕ} → IsEnd t t
end-here = record { front = []; whole = refl }

pub end-both : {t m r : List ℕ} → IsEnd t m → IsEnd m r → IsEnd t r
end-both {t} {m} {r} h k = record {
  front = h.front ++ k.front;
  whole = h.whole ∙ ap (λ (x : List ℕ). h.front ++ x) k.whole ∙ sym (append_assoc h.front k.front r);
}

pub less-one : {t r : List ℕ} (b : ℕ) → IsEnd t r → IsPart (b ∷ t) r
less-one {t} {r} b h = record {
  part = end-more b h;
  less = (let e = ap length h.whole in
      omega (arith, length-append h.front r));
}

pub end-whole : (t : List ℕ) → IsEnd t []
end-whole [] = end-here
end-whole (b ∷ bs) = end-more b (end-whole bs)

pub same-end : {t r s : List ℕ} → IsEnd t r → IsEnd t s → length r ≡ length s → r ≡ s
same-end {t} {r} {s} h k e =
    let a = drop_at h.front r (length h.front) refl in
    let b = drop_at k.front s (length k.front) refl in
    let f : length h.front ≡ length k.front = omega (
      arith,
      ap length h.whole,
      ap length k.whole,
      length-append h.front r,
      length-append k.front s,
    ) in
    sym a ∙ ap (drop (length h.front)) (sym h.whole ∙ k.whole) ∙ ap (λ (n : ℕ). drop n (k.front ++ s)) f ∙ b

module _ (Piece : List ℕ → List ℕ → Type 0)
    (piece_end : (t r : List ℕ) → Piece t r → IsEnd t r)
    (piece_one : (t m n : List ℕ) → Piece t m → Piece t n → m ≡ n) where
  pub white-end : {t r : List ℕ} → White Piece t r → IsEnd t r
  white-end no_more = end-here
  white-end (piece p w) = end-both (piece_end _ _ p) (white-end w)

  pub white-one : {t m n : List ℕ} → NoPiece Piece m → NoPiece Piece n → White Piece t m → White Piece t n → m ≡ n
  white-one p q no_more no_more = refl
  white-one p q no_more (piece x w) = absurd (p _ x)
  white-one p q (piece x w) no_more = absurd (q _ x)
  white-one p q (piece x w) (piece y v) = white-one p q w (rw (sym (piece_one _ _ _ x y)) at v)

module _ {K : Type 0} (Piece : List ℕ → List ℕ → Type 0) (Stands : K → List ℕ → List ℕ → Type 0) (bad_kind end_kind : K)
    (part : (k : K) (t r : List ℕ) → Stands k t r → IsPart t r) where
  pub first-ends : {k : K} {t r : List ℕ} → First Piece Stands bad_kind end_kind k t r → IsEnd t r
  first-ends (found h) = (part _ _ _ h.stands).part
  first-ends (bad {b} {bs} w f) = end-whole (b ∷ bs)
  first-ends at_end = end-here

  pub first-less : (is_end : K → Bool) → is_end end_kind ≡ true → {k : K} {t r : List ℕ} → is_end k ≡ false
      → First Piece Stands bad_kind end_kind k t r → length r < length t
  first-less is_end at e (found h) = (part _ _ _ h.stands).less
  first-less is_end at e (bad w f) = omega arith
  first-less is_end at e at_end = cc

  nothing-stands : {k : K} {r : List ℕ} → Stands k [] r → ⊥
  nothing-stands h = let p = part _ _ _ h in let l = p.less in absurd (omega arith)

  -- it is the longest token that stands there, or none stands there
  pub first-longest : {k : K} {t r : List ℕ} → First Piece Stands bad_kind end_kind k t r
      → Longest Stands k t r ⊎ NoToken Stands t
  first-longest (found h) = inl h
  first-longest (bad w f) = inr f
  first-longest at_end = inr (λ k r h. nothing-stands h)

  -- the end of a list stands where the text ends
  pub first-last : (is_end : K → Bool) → is_end bad_kind ≡ false
      → ((k : K) (t r : List ℕ) → is_end k ≡ true → Stands k t r → ⊥) → {k : K} {t r : List ℕ} → is_end k ≡ true
      → First Piece Stands bad_kind end_kind k t r → t ≡ []
  first-last is_end goes none e (found h) = absurd (none _ _ _ e h.stands)
  first-last is_end goes none e (bad w f) = cc
  first-last is_end goes none e at_end = refl

  -- each token that stands there ends where this one does
  pub first-alone : {k : K} {t r : List ℕ} → Stands k t r → ((j : K) (s : List ℕ) → Stands j t s → r ≡ s)
      → First Piece Stands bad_kind end_kind k t r
  first-alone h f = found (record { stands = h; longest = λ j s x. let e = f j s x in rw e (omega arith) })

  module _ (stands_one : (k j : K) (t r : List ℕ) → Stands k t r → Stands j t r → k ≡ j) where
    pub first-one : {k j : K} {t r s : List ℕ} → First Piece Stands bad_kind end_kind k t r
        → First Piece Stands bad_kind end_kind j t s → (k ≡ j) × (r ≡ s)
    first-one {r} {s} (found h) (found k) =
        let a = h.longest _ s k.stands in
        let b = k.longest _ r h.stands in
        let e : r ≡ s = same-end (part _ _ _ h.stands).part (part _ _ _ k.stands).part (omega arith) in
        (stands_one _ _ _ _ h.stands (rw (sym e) at k.stands), e)
    first-one (found h) (bad w f) = absurd (f _ _ h.stands)
    first-one (bad w f) (found h) = absurd (f _ _ h.stands)
    first-one (bad w f) (bad v g) = (refl, refl)
    first-one at_end at_end = (refl, refl)
    first-one (found h) at_end = absurd (nothing-stands h.stands)
    first-one at_end (found h) = absurd (nothing-stands h.stands)

    module _ (piece_end : (t r : List ℕ) → Piece t r → IsEnd t r)
        (piece_one : (t m n : List ℕ) → Piece t m → Piece t n → m ≡ n)
        (stands_dark : (k : K) (t r m : List ℕ) → Stands k t r → Piece t m → ⊥)
        (nothing_dark : (m : List ℕ) → Piece [] m → ⊥) where
      pub first-dark : {k : K} {t r : List ℕ} → First Piece Stands bad_kind end_kind k t r → NoPiece Piece t
      first-dark (found h) m p = stands_dark _ _ _ m h.stands p
      first-dark (bad w f) m p = w m p
      first-dark at_end m p = nothing_dark m p

      pub one-next : (j k : K) (t a b r s : List ℕ) → White Piece t a → First Piece Stands bad_kind end_kind j a r
          → White Piece t b → First Piece Stands bad_kind end_kind k b s → (j ≡ k) × (a ≡ b) × (r ≡ s)
      one-next j k t a b r s v f w g =
          let same : a ≡ b = white-one Piece piece_end piece_one (first-dark f) (first-dark g) v w in
          let o = first-one (rw same at f) g in
          (o.0, same, o.1)
