-- Which token of a text decides that it is no grammar.
use Rattle.std.specs.Prelude.{◌≡◌, ℕ, ◌≤◌, ◌⊎◌, true, false, length, slice_get, List, Some}
use Rattle.lexer.specs.GrammarLimits.{max_open}
use Rattle.lexer.specs.TokenLists.{tok_of}
use Rattle.pegread.specs.declared.kind.Kind.{Kind}
use Rattle.pegread.specs.Reading.{IsHopeless, IsTooDeep}
use Rattle.pegread.specs.Tokens.{Tok, AreTokens}
use Rattle.pegprint.specs.declared.faults.deciding_token.Decision.{Decision}
use Rattle.pegprint.specs.declared.faults.deciding_token.Decision.TheVariants.{Hopeless, TooDeep}
use Rattle.pegprint.specs.declared.faults.stand.Position.{Position}
use Rattle.pegprint.specs.PegExpected.{CanStand}
use Rattle.pegprint.specs.PegStands.{allows}

-- the token of the text for which that holds
pub record IsTokenOf (text : List ℕ) (t : Tok) (Holds : List Tok → ℕ → Type 0) : Type 0 where
  pub all : List Tok
  pub are_tokens : AreTokens (length text) text all
  pub number : ℕ
  pub there : slice_get all number ≡ Some t
  pub holds : Holds all number

-- the position says which kinds can stand where token i does
pub record ReportsKinds (position : Position) (ts : List Tok) (i : ℕ) : Type 0 where
  pub stand : (k : Kind) → allows position k ≡ true → CanStand ts i k
  pub other : (k : Kind) → allows position k ≡ false → CanStand ts i k → ⊥

abbrev pub token_of : Decision → Tok
token_of (Hopeless position token) = tok_of token
token_of (TooDeep token) = tok_of token

abbrev pub Decides : List ℕ → Decision → Type 0
Decides text (Hopeless position token) =
    IsTokenOf text (tok_of token) (λ ts i. IsHopeless ts i × ReportsKinds position ts i) × (position.depth ≤ max_open)
Decides text (TooDeep token) = IsTokenOf text (tok_of token) IsTooDeep

-- no token of the text decides
abbrev pub NoneDecides : List ℕ → Type 0
NoneDecides text = (all : List Tok) → AreTokens (length text) text all → (i : ℕ) → IsHopeless all i ⊎ IsTooDeep all i
    → ⊥
