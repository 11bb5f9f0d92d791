-- Marks of some texts.
use Rattle.std.proofs.Common.{◌≡◌, ℕ, true, false, Some, None, List, [], ◌∷◌, refl}
use Rattle.std.specs.Prelude.{codes}
use Rattle.lexer.specs.TokenLists.{Tok, tok}
use Rattle.abnfread.specs.declared.kind.AbnfKind.{AbnfKind}
use Rattle.abnfread.specs.declared.kind.AbnfKind.TheVariants.{Name, Is, Slash, End}
use Rattle.abnfread.specs.MarkedTokens.{indent_at, begins_rule, margin, marks, marked}

abbrev at : AbnfKind → ℕ → ℕ → Tok AbnfKind
at k a b = tok k [] (record { start = a; end = b })

-- a margin of two: what begins with five is a continuation, what begins with two a rule
abbrev indented : List ℕ
indented = codes "  s = t\n     / u\n  t = v\n"

deeper-continues : begins_rule (indent_at indented 2) (indent_at indented 13) ≡ false
deeper-continues = refl

same_margin-begins : begins_rule (indent_at indented 2) (indent_at indented 19) ≡ true
same_margin-begins = refl

inside-no_indent : indent_at indented 15 ≡ None
inside-no_indent = refl

-- a comment's line does not count, nor does a blank one
margin-after : margin (codes ";c\n \t\n a=b") (at Name 7 8 ∷ []) ≡ Some 1
margin-after = refl

-- the text's first token is the first of a line that begins a rule, but for the end
first-token : marks (codes " a=") (indent_at (codes " a=") 1) 0 (at Name 1 2 ∷ at Is 2 3 ∷ at End 3 3 ∷ [])
    ≡ marked (at Name 1 2) true true ∷ marked (at Is 2 3) false false ∷ marked (at End 3 3) false false ∷ []
first-token = refl

only-white : marks (codes " ") (indent_at (codes " ") 1) 0 (at End 1 1 ∷ []) ≡ marked (at End 1 1) true false ∷ []
only-white = refl

-- a slash at the margin
slash-first : marks (codes "a\n/") (Some 0) 0 (at Name 0 1 ∷ at Slash 2 3 ∷ []) ≡ marked (at Name 0 1) false true
    ∷ marked (at Slash 2 3) true true ∷ []
slash-first = refl
