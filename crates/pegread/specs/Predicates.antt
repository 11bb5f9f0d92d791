-- Which fault a hopeless token is, by its kind and that of the token before it.
use Rattle.std.specs.Prelude.{ℕ, Bool, true, false, cond, Option, Some, None, List, [], ◌∷◌}
use Rattle.ruletable.specs.declared.fault.ReadFault.{ReadFault}
use Rattle.ruletable.specs.declared.fault.ReadFault.TheVariants.{Syntax, CodePredicate}
use Rattle.pegread.specs.declared.kind.Kind.{Kind}
use Rattle.pegread.specs.declared.kind.Kind.TheVariants.{Amp, Action}
use Rattle.lexer.specs.TokenLists.{kind_of}
use Rattle.pegread.specs.Tokens.{Tok}

-- an action right after an `&`
abbrev pub is_predicate : Option Kind → Kind → Bool
is_predicate (Some Amp) Action = true
is_predicate _ _ = false

abbrev pub hopeless_fault : Option Kind → Kind → ℕ → ReadFault
hopeless_fault before kind line = cond (is_predicate before kind) (CodePredicate line) (Syntax line)

-- the kind of the last token
abbrev pub last_kind : List Tok → Option Kind
last_kind [] = None
last_kind (t ∷ []) = Some (kind_of t)
last_kind (t ∷ u ∷ ts) = last_kind (u ∷ ts)
