-- How many brackets are open at once.
use Rattle.std.specs.Prelude.{ℕ, zero, suc, ◌≤◌, List, [], ◌∷◌}
use Rattle.pegread.specs.declared.kind.Kind.{Kind}
use Rattle.pegread.specs.declared.kind.Kind.TheVariants.{LParen, RParen}
use Rattle.lexer.specs.TokenLists.{tok}
use Rattle.pegread.specs.Tokens.{Tok}

-- the brackets that are open after a token, of those that were before
abbrev pub open_after : Kind → ℕ → ℕ
open_after LParen d = suc d
open_after RParen zero = zero
open_after RParen (suc d) = d
open_after _ d = d

-- with d brackets open before the list, at most m are open anywhere in it
abbrev pub IsShallow : ℕ → ℕ → List Tok → Type 0
IsShallow m d [] = d ≤ m
IsShallow m d (tok k z p ∷ ts) = (d ≤ m) × IsShallow m (open_after k d) ts
