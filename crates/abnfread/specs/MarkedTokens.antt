-- The marks of a text's tokens.
use Rattle.std.specs.Prelude.{◌≡◌, ℕ, ◌+◌, ◌==◌, ◌||◌, ◌&&◌, nat_le, not, Bool, false, List, [], ◌∷◌, length, take}
use Rattle.std.specs.Prelude.{Option, Some, None, if◌then◌else◌}
use Rattle.lexer.specs.TokenLists as lexing
use Rattle.lexer.specs.TokenLists.{Tok, kind_of, start_of, end_of}
use Rattle.abnfread.specs.declared.kind.AbnfKind.{AbnfKind}
use Rattle.abnfread.specs.declared.marks.MarkedToken.{MarkedToken}
use Rattle.abnfread.specs.AbnfKinds.{ends_list}
use Rattle.abnfread.specs.AbnfSlices.{White, First}

-- so many more
abbrev pub plus : ℕ → Option ℕ → Option ℕ
plus n None = None
plus n (Some k) = Some (k + n)

-- a byte more on the line: LF begins the next, a space or tab goes on, and any other byte is something else
abbrev pub indented : Option ℕ → ℕ → Option ℕ
indented n b = if b == 10 then Some 0 else if (b == 32) || (b == 9) then plus 1 n else None

abbrev pub indent_from : Option ℕ → List ℕ → Option ℕ
indent_from n [] = n
indent_from n (b ∷ bs) = indent_from (indented n b) bs

-- how many spaces and tabs stand before the position on its line, if nothing else does
abbrev pub indent_at : List ℕ → ℕ → Option ℕ
indent_at text position = indent_from (Some 0) (take position text)

-- the spaces and tabs of the first line that holds more than these and a comment: it is the line of the first token
abbrev pub margin : List ℕ → List (Tok AbnfKind) → Option ℕ
margin text [] = None
margin text (x ∷ xs) = indent_at text (start_of x)

-- whether a line that begins with so many begins a rule: not more than the margin
abbrev pub begins_rule : Option ℕ → Option ℕ → Bool
begins_rule (Some m) (Some n) = nat_le n m
begins_rule _ _ = false

-- a token, whether white space stands directly before it, and whether it is the first of a line that begins a rule
pub data Marked : Type 0 where
  marked : Tok AbnfKind → Bool → Bool → Marked

abbrev pub tok_of : Marked → Tok AbnfKind
tok_of (marked x g f) = x

-- The end of the text is the first token of no line that begins a rule.
abbrev pub is_first : List ℕ → Option ℕ → Tok AbnfKind → Bool
is_first text m x = not (ends_list (kind_of x)) && begins_rule m (indent_at text (start_of x))

-- the tokens from the position n on, with their marks
abbrev pub marks : List ℕ → Option ℕ → ℕ → List (Tok AbnfKind) → List Marked
marks text m n [] = []
marks text m n (x ∷ xs) = marked x (not (start_of x == n)) (is_first text m x) ∷ marks text m (end_of x) xs

abbrev pub AreTokens : List ℕ → List (Tok AbnfKind) → Type 0
AreTokens text ts = lexing.AreTokens White First ends_list (length text) text ts

-- the text's tokens, with their marks
pub record AreMarked (text : List ℕ) (ms : List Marked) : Type 0 where
  pub tokens : List (Tok AbnfKind)
  pub are_tokens : AreTokens text tokens
  pub same : ms ≡ marks text (margin text tokens) 0 tokens

-- what the code's token stands for
abbrev pub marked_of : MarkedToken → Marked
marked_of x = marked (lexing.tok_of x.token) x.gap x.first
