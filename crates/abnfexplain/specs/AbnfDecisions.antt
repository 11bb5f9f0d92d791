-- Which token of a text decides that it is no grammar.
use Rattle.std.specs.Prelude.{◌≡◌, ℕ, ◌⊎◌, true, false, slice_get, take, List, [], ◌∷◌, Option, Some, None}
use Rattle.std.specs.Option.{option_map}
use Rattle.ruletable.specs.declared.fault.ReadFault.{ReadFault}
use Rattle.ruletable.specs.declared.fault.ReadFault.TheVariants as faults
use Rattle.abnfread.specs.AbnfReading.{is_bracket}
use Rattle.abnfread.specs.AbnfSays.{IsHopeless, IsOver}
use Rattle.lexer.specs.TokenLists.{Tok}
use Rattle.abnfread.specs.MarkedTokens.{Marked, tok_of, marked_of, AreMarked}
use Rattle.abnfread.specs.declared.kind.AbnfKind.{AbnfKind}
use Rattle.abnfexplain.specs.declared.abnf_decide.Decision.{Decision}
use Rattle.abnfexplain.specs.declared.abnf_decide.Decision.TheVariants.{Hopeless, TooDeep, TooLarge}
use Rattle.abnfexplain.specs.declared.abnf_decide.Refused.{Refused}
use Rattle.abnfexplain.specs.declared.abnf_stand.Form.{Form}
use Rattle.abnfexplain.specs.declared.abnf_stand.Position.{Position}
use Rattle.abnfexplain.specs.AbnfExpected.{CanStand}
use Rattle.abnfexplain.specs.AbnfPositions.{position_allows}

abbrev pub first_marked : List Marked → Option Marked
first_marked [] = None
first_marked (m ∷ ms) = Some m

abbrev pub last_marked : List Marked → Option Marked
last_marked [] = None
last_marked (m ∷ []) = Some m
last_marked (m ∷ n ∷ ms) = last_marked (n ∷ ms)

-- the one before the last
abbrev pub earlier_marked : List Marked → Option Marked
earlier_marked [] = None
earlier_marked (m ∷ []) = None
earlier_marked (m ∷ n ∷ []) = Some m
earlier_marked (m ∷ n ∷ o ∷ ms) = earlier_marked (n ∷ o ∷ ms)

-- the token of the text for which that holds
pub record IsTokenOf (text : List ℕ) (m : Marked) (Holds : List Marked → ℕ → Type 0) : Type 0 where
  pub all : List Marked
  pub are_tokens : AreMarked text all
  pub number : ℕ
  pub there : slice_get all number ≡ Some m
  pub holds : Holds all number

-- the position says which tokens can stand where token i does
pub record ReportsForms (position : Position) (ms : List Marked) (i : ℕ) : Type 0 where
  pub stand : (form : Form) → position_allows position form ≡ true → CanStand ms i form
  pub other : (form : Form) → position_allows position form ≡ false → CanStand ms i form → ⊥

-- with that token the tokens begin no grammar, and what is known of those before it
pub record IsRefused (r : Refused) (ms : List Marked) (i : ℕ) : Type 0 where
  pub hopeless : IsHopeless ms i
  pub reports : ReportsForms r.position ms i
  pub origin : option_map marked_of r.origin ≡ first_marked (take i ms)
  pub before : option_map marked_of r.before ≡ last_marked (take i ms)
  pub earlier : option_map marked_of r.earlier ≡ earlier_marked (take i ms)

abbrev pub Decides : List ℕ → Decision → Type 0
Decides text (Hopeless r) = IsTokenOf text (marked_of r.token) (IsRefused r)
Decides text (TooDeep t) = IsTokenOf text (marked_of t) (λ ms i. IsOver ms i × (is_bracket (marked_of t) ≡ true))
Decides text (TooLarge t) = IsTokenOf text (marked_of t) (λ ms i. IsOver ms i × (is_bracket (marked_of t) ≡ false))

abbrev pub token_of : Decision → Marked
token_of (Hopeless r) = marked_of r.token
token_of (TooDeep t) = marked_of t
token_of (TooLarge t) = marked_of t

-- the fault on that line
abbrev pub fault_of : Decision → ℕ → ReadFault
fault_of (Hopeless r) line = faults.Syntax line
fault_of (TooDeep t) line = faults.Depth line
fault_of (TooLarge t) line = faults.NumberTooLarge line

-- that token of the text decides: with it the tokens begin no grammar, or pass a limit
pub record IsFaultToken (text : List ℕ) (x : Tok AbnfKind) : Type 0 where
  pub all : List Marked
  pub are_tokens : AreMarked text all
  pub number : ℕ
  pub token : Marked
  pub there : slice_get all number ≡ Some token
  pub is : x ≡ tok_of token
  pub decides : IsHopeless all number ⊎ IsOver all number

-- no token of the text decides
abbrev pub NoneDecides : List ℕ → Type 0
NoneDecides text = (all : List Marked) → AreMarked text all → (i : ℕ) → IsHopeless all i ⊎ IsOver all i → ⊥
