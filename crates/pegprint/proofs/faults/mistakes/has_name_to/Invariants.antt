use Rattle.std.proofs.Common.{◌≡◌, ℕ, List, length, drop}
use Rattle.std.specs.List.{list_any}
use Rattle.pegread.specs.Tokens.{Tok, AreTokens}
use Rattle.pegprint.specs.PegMistakes.{names_to}
use Rattle.pegprint.proofs.TakenTokensLemmas.{AreLeft}
use Rattle.pegprint.proofs.faults.mistakes.has_name_to.Given as goal

-- the tokens that are left have such a name exactly if those after the first one have
pub record IsSought (at : ℕ) (left : List Tok → Type 0) (all : List Tok) : Type 0 where
  pub rest : List Tok
  pub are_left : left rest
  pub same : list_any (names_to at) rest ≡ list_any (names_to at) (drop 1 all)

abbrev pub invariant-loop-token : goal.invariant-loop-token
invariant-loop-token l = (all : List Tok) → AreTokens (length l.text) l.text all
    → IsSought l.at (AreLeft l.token-iterator) all
