-- A text is cut into tokens in one way, where the first token is found in one way.
-- Serves: TokenIter::next, one_list, have_tokens, abnf_tokens, read_peg, read_abnf
use Rattle.std.proofs.Common.{◌≡◌, ℕ, ◌+◌, ◌-◌, ◌≤◌, Bool, true, false, cond, Some, None, List, [], ◌∷◌, ◌++◌, length}
use Rattle.std.proofs.Common.{take, refl, sym, ap, arith, append_assoc, append-nil, length-append, ◌∙◌}
use Rattle.std.proofs.lemmas.List.{take_at, append_cancel_right}
use Rattle.ruletable.specs.declared.span.Span.{Span}
use Rattle.lexer.specs.SliceEnds.{IsEnd}
use Rattle.lexer.specs.declared.token_iter.Token.{Token}
use Rattle.lexer.specs.declared.token_iter.TokenIter.{TokenIter}
use Rattle.lexer.specs.TokenLists.{Tok, tok, kind_of, slice_of, start_of, end_of, tok_of, Next, AreTokens, last_one}
use Rattle.lexer.specs.TokenLists.{one_more, total_of, IsAtStart, GivesToken, AreLeft, GivesFirst, LeadsTo}

pub end-shorter : {t r : List ℕ} → IsEnd t r → length r ≤ length t
end-shorter {t} {r} h = let e = ap length h.whole in omega (arith, length-append h.front r)

front-taken : (f r : List ℕ) → f ++ r ≡ take (length (f ++ r) - length r) (f ++ r) ++ r
front-taken f r =
    let e : length (f ++ r) - length r ≡ length f = omega (arith, length-append f r) in
    rw (e, take_at f r) refl

pub cut-front : {t r : List ℕ} → IsEnd t r → t ≡ take (length t - length r) t ++ r
cut-front h = rw (h.whole) (front-taken h.front _)

-- as much of it as stands before r
length-front : {t r : List ℕ} → IsEnd t r → length (take (length t - length r) t) ≡ length t - length r
length-front {t} {r} h = let e = ap length (cut-front h) in
    omega (arith, length-append (take (length t - length r) t) r, ap length h.whole, length-append h.front r)

same-span : (p q : Span) → p.start ≡ q.start → p.end ≡ q.end → p ≡ q
same-span p q a b = ap (λ (n : ℕ). record { start = n; end = p.end }) a
    ∙ ap (λ (n : ℕ). record { start = q.start; end = n }) b

module _ {K : Type 0} where
  same-token : (x y : Tok K) → kind_of x ≡ kind_of y → slice_of x ≡ slice_of y → start_of x ≡ start_of y
      → end_of x ≡ end_of y → x ≡ y
  same-token (tok j y p) (tok k z q) a b c d =
      ap (λ (i : K). tok i y p) a ∙ ap (λ (x : List ℕ). tok k x p) b ∙ ap (λ (s : Span). tok k z s) (same-span p q c d)

  ends-differ : (is_end : K → Bool) {x y : Tok K} → x ≡ y → is_end (kind_of x) ≡ true → is_end (kind_of y) ≡ false → ⊥
  ends-differ is_end e a b = let f = rw e at a in cc

module _ {K : Type 0} (White : List ℕ → List ℕ → Type 0) (First : K → List ℕ → List ℕ → Type 0) (is_end : K → Bool)
    (one_next : (j k : K) (t a b r s : List ℕ) → White t a → First j a r → White t b → First k b s → (j ≡ k) × (a ≡ b)
    × (r ≡ s)) where
  next-one : {total : ℕ} {t r s : List ℕ} {x y : Tok K} → Next White First total t x r → Next White First total t y s
      → (x ≡ y) × (r ≡ s)
  next-one {total} {t} {r} {s} {x} {y} h k =
      let one = one_next _ _ t _ _ r s h.white h.first k.white k.first in
      let token : h.token ≡ k.token = one.1 in
      let slice : slice_of x ≡ slice_of y = append_cancel_right (slice_of x) (slice_of y) s
      (ap (λ (z : List ℕ). slice_of x ++ z) (sym one.2) ∙ sym h.cut ∙ token ∙ k.cut) in
      let position : start_of x ≡ start_of y = (let e = ap length token in let p = h.position in let q = k.position in
      omega arith) in
      let end : end_of x ≡ end_of y = (let e = ap length slice in let p = h.size in let q = k.size in omega arith) in
      ((let kind = one.0 in same-token x y kind slice position end), one.2)

  pub tokens-one : {total : ℕ} {t : List ℕ} {xs ys : List (Tok K)} → AreTokens White First is_end total t xs
      → AreTokens White First is_end total t ys → xs ≡ ys
  tokens-one (last_one h e) (last_one k f) = ap (λ (i : Tok K). i ∷ []) (next-one h k).0
  tokens-one (last_one h e) (one_more k f more) = absurd (ends-differ is_end (next-one h k).0 e f)
  tokens-one (one_more h e more) (last_one k f) = absurd (ends-differ is_end (sym (next-one h k).0) f e)
  tokens-one (one_more {x} h e more) (one_more {x = y} k f others) =
      let same = next-one h k in
      let rest = tokens-one more (rw (sym same.1) at others) in
      let first = same.0 in
      cc

  -- the rest of a list that begins with what `next` gave
  left-others : {total : ℕ} {t r : List ℕ} {x : Tok K} {ts : List (Tok K)} (e : Bool) → e ≡ is_end (kind_of x)
      → Next White First total t x r → AreTokens White First is_end total t ts → (others : List (Tok K))
      × (ts ≡ x ∷ others) × cond e (others ≡ []) (AreTokens White First is_end total r others)
  left-others true h n (last_one k f) = ([], ap (λ (i : Tok K). i ∷ []) (sym (next-one n k).0), refl)
  left-others true h n (one_more k f more) = absurd (ends-differ is_end (next-one n k).0 (sym h) f)
  left-others false h n (last_one k f) = absurd (ends-differ is_end (sym (next-one n k).0) f (sym h))
  left-others false h n (one_more {ts = items} k f more) =
      (items, ap (λ (i : Tok K). i ∷ items) (sym (next-one n k).0), rw (sym (next-one n k).1) at more)

  at-total : (e : Bool) (n m : ℕ) (r : List ℕ) (items : List (Tok K)) → n ≡ m
      → cond e (items ≡ []) (AreTokens White First is_end n r items)
      → cond e (items ≡ []) (AreTokens White First is_end m r items)
  at-total e n m r items same h = rw same at h

  at-start : (e : Bool) (n : ℕ) (r : List ℕ) (items : List (Tok K)) → e ≡ false
      → cond e (items ≡ []) (AreTokens White First is_end n r items) → AreTokens White First is_end n r items
  at-start true n r items h k = cc
  at-start false n r items h k = k

  takes-first : (s t : TokenIter K) (x : Token K) → GivesToken White First is_end s (Some x) t → (items : List (Tok K))
      → AreLeft White First is_end s items → (others : List (Tok K)) × (items ≡ tok_of x ∷ others)
      × AreLeft White First is_end t others
  takes-first s t x g items h =
      let steps = g.1 in
      let o = left-others t.ended steps.2 steps.1 (at-start s.ended (total_of s) s.rest.now items steps.0 h) in
      (o.0, o.1, at-total t.ended (total_of s) (total_of t) t.rest.now o.0 (sym g.0) o.2)

  pub gives-first : {s t : TokenIter K} {x : Token K} → GivesToken White First is_end s (Some x) t
      → GivesFirst White First is_end s (Some x) t
  gives-first {s} {t} {x} g = record { step = g; first = takes-first s t x g }

module _ {K : Type 0} (White : List ℕ → List ℕ → Type 0) (First : K → List ℕ → List ℕ → Type 0)
    (is_end : K → Bool) where
  pub next-made : {k : K} {t m r : List ℕ} (start : ℕ) → IsEnd t m → IsEnd m r → White t m → First k m r
      → Next White First (start + length t) t (tok k (take (length m - length r) m)
      (record { start = start + (length t - length m); end = start + (length t - length m) + (length m - length r) })) r
  next-made {m} {r} start a b w f = record {
    token = m;
    white = w;
    first = f;
    cut = cut-front b;
    position = (let h = end-shorter a in omega arith);
    size = (let h = length-front b in omega (arith, h));
  }

  left-then : {total : ℕ} {t r : List ℕ} {x : Tok K} {ts : List (Tok K)} (e : Bool) → e ≡ is_end (kind_of x)
      → Next White First total t x r → cond e (ts ≡ []) (AreTokens White First is_end total r ts)
      → AreTokens White First is_end total t (x ∷ ts)
  left-then true h n a = rw a (last_one n (sym h))
  left-then false h n a = one_more n (sym h) a

  pub left-step : (s t : TokenIter K) (x : Token K) (items : List (Tok K)) → GivesToken White First is_end s (Some x) t
      → AreLeft White First is_end t items → AreLeft White First is_end s (tok_of x ∷ items)
  left-step s t x items g h =
      let steps = g.1 in
      rw (steps.0) (left-then t.ended steps.2 steps.1 (let same : total_of t ≡ total_of s = g.0 in rw same at h))

  left-none : (s t : TokenIter K) → GivesToken White First is_end s None t → AreLeft White First is_end s []
  left-none s t g = let ended = g.1 in rw (ended.0) refl

  pub left-first : (s : TokenIter K) (t : List ℕ) (items : List (Tok K)) → IsAtStart s t
      → AreLeft White First is_end s items → AreTokens White First is_end (length t) t items
  left-first s t items at_start h =
      let z = at_start.1 in
      let total : total_of s ≡ length t = omega (arith, ap length at_start.0) in
      rw (at_start.2, total, at_start.0) at h

  -- whatever tokens the text has are left at first
  pub left-at_start : (s : TokenIter K) {t : List ℕ} {ts : List (Tok K)} → IsAtStart s t
      → AreTokens White First is_end (length t) t ts → AreLeft White First is_end s ts
  left-at_start s {t} at_start h =
      let total : total_of s ≡ length t = omega (arith, ap length at_start.0) in
      rw (at_start.2, total, at_start.0) h

  -- no token leads to the whole text
  pub leads-first : (s : TokenIter K) {t : List ℕ} → IsAtStart s t → LeadsTo White First is_end t [] s
  leads-first s at_start = record {
    joins = λ items h. left-first s _ items at_start h;
    splits = λ all h. (all, refl, left-at_start s at_start h);
  }

  module _ {text : List ℕ} {ts : List (Tok K)} (s t : TokenIter K) (h : LeadsTo White First is_end text ts s) where
    -- one token more
    pub leads-snoc : (x : Token K) → GivesFirst White First is_end s (Some x) t
        → LeadsTo White First is_end text (ts ++ tok_of x ∷ []) t
    leads-snoc x g = record {
      joins = λ items k. rw (append_assoc ts (tok_of x ∷ []) items)
          (h.joins (tok_of x ∷ items) (left-step s t x items g.step k));
      splits = λ all k.
          let p = h.splits all k in
          let q = g.first p.0 p.2 in
          (q.0, p.1 ∙ ap (λ (us : List (Tok K)). ts ++ us) q.1 ∙ sym (append_assoc ts (tok_of x ∷ []) q.0), q.2);
    }

    -- where none is left, the text has a list of tokens
    pub leads-end : GivesFirst White First is_end s None t → AreTokens White First is_end (length text) text ts
    leads-end g = simp append-nil at (h.joins [] (left-none s t g.step))

    -- where the text has one, the next token follows there
    pub leads-next : (x : Token K) → GivesFirst White First is_end s (Some x) t → (all : List (Tok K))
        → AreTokens White First is_end (length text) text all → (others : List (Tok K))
        × AreTokens White First is_end (length text) text (ts ++ tok_of x ∷ others)
    leads-next x g all k =
        let p = h.splits all k in
        let q = g.first p.0 p.2 in
        let e : all ≡ ts ++ tok_of x ∷ q.0 = p.1 ∙ ap (λ (us : List (Tok K)). ts ++ us) q.1 in
        (q.0, rw e at k)
