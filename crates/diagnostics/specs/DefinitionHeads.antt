-- Where a grammar's text defines its rules.
use Rattle.std.specs.Prelude.{◌≡◌, ℕ, Bool, true, false, List, [], ◌∷◌, ◌++◌, Option, Some, None, length, map}
use Rattle.ruletable.specs.Lines.{line_at}
use Rattle.ruletable.specs.declared.lines.LineRule.{LineRule}
use Rattle.lexer.specs.TokenLists.{Tok, kind_of, slice_of, start_of, AreTokens}
use Rattle.diagnostics.specs.declared.noteplaces.heads.Head.{Head}
use Rattle.diagnostics.specs.declared.noteplaces.heads.Signed.{Signed}
use Rattle.diagnostics.specs.declared.noteplaces.sign.Sign.{Sign}
use Rattle.diagnostics.specs.declared.noteplaces.sign.Sign.TheVariants.{Name, Defines, Adds}

-- a token: what it is to the definitions of a grammar, its slice, and where that begins
pub record SignAt : Type 0 where
  pub sign : Sign
  pub slice : List ℕ
  pub start : ℕ

abbrev pub sign_at : {K : Type 0} → (K → Sign) → Tok K → SignAt
sign_at sign_of t = record { sign = sign_of (kind_of t); slice = slice_of t; start = start_of t }

-- what the code's token stands for
abbrev pub signed_at : Signed → SignAt
signed_at s = record { sign = s.sign; slice = s.slice.now; start = s.start }

-- a definition: its name as it is spelled, the line and the position of that, and whether it adds to a rule
pub record DefinedAt : Type 0 where
  pub name : List ℕ
  pub line : ℕ
  pub adds : Bool
  pub start : ℕ

-- what the code's head stands for
abbrev pub defined_at : Head → DefinedAt
defined_at h = record { name = h.name.items; line = h.line; adds = h.adds; start = h.start }

-- whether a definition adds to a rule, if one begins with a token of the first sign and one of the second after it
abbrev pub begun_by : Sign → Sign → Option Bool
begun_by Name Defines = Some false
begun_by Name Adds = Some true
begun_by _ _ = None

-- that definition, of a name on a line, at a position
abbrev pub definition_of : Option Bool → List ℕ → ℕ → ℕ → List DefinedAt
definition_of None name line start = []
definition_of (Some adds) name line start =
    record { name = name; line = line; adds = adds; start = start } ∷ []

-- the definitions that the tokens of a text begin, in order: each name with the sign of a definition right after it
abbrev pub definitions_in : LineRule → List ℕ → List SignAt → List DefinedAt
definitions_in rule text [] = []
definitions_in rule text (t ∷ []) = []
definitions_in rule text (t ∷ u ∷ ts) = definition_of (begun_by t.sign u.sign) t.slice (line_at rule text t.start)
    t.start ++ definitions_in rule text (u ∷ ts)

-- the definitions of a text
pub record AreDefinitions {K : Type 0} (White : List ℕ → List ℕ → Type 0) (First : K → List ℕ → List ℕ → Type 0)
    (is_end : K → Bool) (sign_of : K → Sign) (rule : LineRule) (text : List ℕ) (definitions : List DefinedAt) : Type
    0 where
  pub tokens : List (Tok K)
  pub are_tokens : AreTokens White First is_end (length text) text tokens
  pub all : definitions ≡ definitions_in rule text (map (sign_at sign_of) tokens)
