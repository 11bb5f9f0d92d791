-- The tokens of a grammar's text.
use Rattle.std.specs.Prelude.{ℕ, List}
use Rattle.lexer.specs.TokenLists as lexed
use Rattle.pegread.specs.declared.kind.Kind.{Kind}
use Rattle.pegread.specs.Kinds.{is_end}
use Rattle.pegread.specs.Slices.{White, First}

-- a token: its kind, its slice of the text, and where that slice lies
abbrev pub Tok : Type 0
Tok = lexed.Tok Kind

-- White space and then the token's slice begin t, and r follows. The whole text has `total` bytes, of which t are the
-- last.
abbrev pub Next : ℕ → List ℕ → Tok → List ℕ → Type 0
Next = lexed.Next White First

-- The tokens of t, the end of a text of `total` bytes: as many as there are, and `End`.
abbrev pub AreTokens : ℕ → List ℕ → List Tok → Type 0
AreTokens = lexed.AreTokens White First is_end
