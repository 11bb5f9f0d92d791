-- An iterator over tokens that is run to its end gives as many as are left.
-- Serves: count_tokens
use Rattle.std.proofs.Common.{◌≡◌, ℕ, ◌+◌, Bool, None, List, [], ◌∷◌, length, refl, arith}
use Rattle.std.specs.Iterator.{Yields}
use Rattle.lexer.specs.declared.token_iter.Token.{Token}
use Rattle.lexer.specs.declared.token_iter.TokenIter.{TokenIter}
use Rattle.lexer.specs.TokenLists.{Tok, AreTokens, IsAtStart, AreLeft, GivesFirst}

module _ {K : Type 0} (White : List ℕ → List ℕ → Type 0) (First : K → List ℕ → List ℕ → Type 0)
    (is_end : K → Bool) where
  pub all-given : (s t u : TokenIter K) (xs : List (Token K)) (ts : List (Tok K)) → AreLeft White First is_end s ts →
      Yields (GivesFirst White First is_end) s xs t → GivesFirst White First is_end t None u → length xs ≡ length ts
  all-given s t u [] ts left at last = let none : ts ≡ [] = last.first ts (rw at at left) in rw none refl
  all-given s t u (x ∷ xs) ts left (j, step, more) last =
      let first = step.first ts left in
      let rest : length xs ≡ length first.0 = all-given j t u xs first.0 first.2 more last in
      rw (first.1, rest) refl

  -- at its start all are left
  pub at-start : (s : TokenIter K) (text : List ℕ) (ts : List (Tok K)) → IsAtStart s text
      → AreTokens White First is_end (length text) text ts →
      AreLeft White First is_end s ts
  at-start s text ts (rest, start, ended) are =
      let e : 0 + length text ≡ length text = omega arith in
      rw (ended, start, rest, e) are
