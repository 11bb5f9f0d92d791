-- What a text's tokens are.
use Rattle.std.specs.Prelude.{◌≡◌, ℕ, ◌+◌, Bool, true, false, cond, List, [], ◌∷◌, ◌++◌, length, Option, MatchOption}
use Rattle.std.specs.Iterator.{Count, at_most}
use Rattle.ruletable.specs.declared.span.Span.{Span}
use Rattle.lexer.specs.declared.token_iter.Token.{Token}
use Rattle.lexer.specs.declared.token_iter.TokenIter.{TokenIter}

-- a token: its kind, its slice of the text, and where that slice lies
pub data Tok (K : Type 0) : Type 0 where
  tok : K → List ℕ → Span → Tok K

-- its parts
module _ {K : Type 0} where
  abbrev pub kind_of : Tok K → K
  kind_of (tok k z p) = k

  abbrev pub slice_of : Tok K → List ℕ
  slice_of (tok k z p) = z

  abbrev pub start_of : Tok K → ℕ
  start_of (tok k z p) = p.start

  abbrev pub end_of : Tok K → ℕ
  end_of (tok k z p) = p.end

  -- what the code's token stands for
  abbrev pub tok_of : Token K → Tok K
  tok_of t = tok t.kind t.slice.now t.span

module _ {K : Type 0} (White : List ℕ → List ℕ → Type 0) (First : K → List ℕ → List ℕ → Type 0) where
  -- White space and then the token's slice begin t, and r follows. The whole text has `total` bytes, of which t are the
  -- last.
  pub record Next (total : ℕ) (t : List ℕ) (x : Tok K) (r : List ℕ) : Type 0 where
    pub token : List ℕ
    pub white : White t token
    pub first : First (kind_of x) token r
    pub cut : token ≡ slice_of x ++ r
    pub position : start_of x + length token ≡ total
    pub size : end_of x ≡ start_of x + length (slice_of x)

-- The tokens of t, the end of a text of `total` bytes: as many as there are, and the end.
pub data AreTokens {K : Type 0} (White : List ℕ → List ℕ → Type 0) (First : K → List ℕ → List ℕ → Type 0)
    (is_end : K → Bool) (total : ℕ) : List ℕ → List (Tok K) → Type 0 where
  last_one : {t r : List ℕ} {x : Tok K} → Next White First total t x r → is_end (kind_of x) ≡ true
      → AreTokens White First is_end total t (x ∷ [])
  one_more : {t r : List ℕ} {x : Tok K} {ts : List (Tok K)} → Next White First total t x r → is_end (kind_of x) ≡ false
      → AreTokens White First is_end total r ts → AreTokens White First is_end total t (x ∷ ts)

-- the bytes of the whole text
abbrev pub total_of : {K : Type 0} → TokenIter K → ℕ
total_of s = s.start + length s.rest.now

-- at most so many calls give a token
abbrev pub tokens_bound : {K : Type 0} → TokenIter K → Count
tokens_bound s = at_most (cond s.ended 0 (length s.rest.now + 1))

-- the iterator has taken nothing of the text
abbrev pub IsAtStart : {K : Type 0} → TokenIter K → List ℕ → Type 0
IsAtStart s text = (s.rest.now ≡ text) × (s.start ≡ 0) × (s.ended ≡ false)

module _ {K : Type 0} (White : List ℕ → List ℕ → Type 0) (First : K → List ℕ → List ℕ → Type 0)
    (is_end : K → Bool) where
  -- what a call of `next` gives
  abbrev pub GivesToken : TokenIter K → Option (Token K) → TokenIter K → Type 0
  GivesToken s r t = (total_of t ≡ total_of s) × MatchOption r ((s.ended ≡ true) × (t.ended ≡ true))
      (λ x. (s.ended ≡ false) × Next White First (total_of s) s.rest.now (tok_of x) t.rest.now
      × (t.ended ≡ is_end x.kind))

  -- what is left
  abbrev pub AreLeft : TokenIter K → List (Tok K) → Type 0
  AreLeft s ts = cond s.ended (ts ≡ []) (AreTokens White First is_end (total_of s) s.rest.now ts)

  -- What a call of `next` gives, in the words of the whole list: whichever tokens are left, it gave the first of them,
  -- and left the others.
  abbrev pub TakesFirst : TokenIter K → Option (Token K) → TokenIter K → Type 0
  TakesFirst s r t = (ts : List (Tok K)) → AreLeft s ts
      → MatchOption r (ts ≡ []) (λ x. (others : List (Tok K)) × (ts ≡ tok_of x ∷ others) × AreLeft t others)

  -- both
  pub record GivesFirst (s : TokenIter K) (r : Option (Token K)) (t : TokenIter K) : Type 0 where
    pub step : GivesToken s r t
    pub first : TakesFirst s r t

  -- The tokens ts lead from the text to what the iterator has left. Whichever tokens are left, the text has ts and then
  -- these; and if the text has a list of tokens, that is ts and then what is left.
  pub record LeadsTo (text : List ℕ) (ts : List (Tok K)) (s : TokenIter K) : Type 0 where
    pub joins : (items : List (Tok K)) → AreLeft s items
        → AreTokens White First is_end (length text) text (ts ++ items)
    pub splits : (all : List (Tok K)) → AreTokens White First is_end (length text) text all → (items : List (Tok K))
        × (all ≡ ts ++ items) × AreLeft s items
