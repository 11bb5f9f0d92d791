-- The tokens of a list that a loop has not taken.
-- Serves: positions_by
use Rattle.std.proofs.Common.{◌≡◌, ℕ, suc, ◌+◌, ◌≤◌, ◌<◌, List, [], ◌∷◌, length, map, get_or, drop, refl, sym, ap, ◌∙◌}
use Rattle.std.proofs.Common.{add-one}
use Rattle.std.proofs.Math.ListN.{drop_of_length-le}
use Rattle.std.proofs.Math.Seq.{drop-cons}
use Rattle.lexer.specs.TokenLists.{Tok, tok_of}
use Rattle.lexer.specs.declared.token_iter.Token.{Token}

-- they are those from the i-th on
abbrev pub AreFrom : {K : Type 0} → List (Token K) → ℕ → List (Tok K) → Type 0
AreFrom tokens i items = items ≡ map tok_of (drop i tokens)

module _ {K : Type 0} (tokens : List (Token K)) (i : ℕ) {rest : List (Tok K)} (are : AreFrom tokens i rest) where
  -- the next one is the first of them
  pub from-next : (t : Token K) → i < length tokens → t ≡ get_or tokens i t → (others : List (Tok K))
      × (rest ≡ tok_of t ∷ others) × AreFrom tokens (i + 1) others
  from-next t lt is = (
    map tok_of (drop (suc i) tokens),
    are ∙ ap (map tok_of) (drop-cons tokens i t lt)
        ∙ ap (λ (x : Token K). tok_of x ∷ map tok_of (drop (suc i) tokens)) (sym is),
    rw (add-one i) refl,
  )

  -- after the last one there is none
  pub from-end : length tokens ≤ i → rest ≡ []
  from-end le = are ∙ ap (map tok_of) (drop_of_length-le tokens le)
