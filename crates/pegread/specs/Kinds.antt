-- Kinds of tokens.
use Rattle.std.specs.Prelude.{Bool, true, false}
use Rattle.pegread.specs.declared.kind.Kind.{Kind}
use Rattle.pegread.specs.declared.kind.Kind.TheVariants.{EndCap, Slash, Amp, Bang, Quest, Star, Plus, Dot, LParen}
use Rattle.pegread.specs.declared.kind.Kind.TheVariants.{RParen, Literal, Class, Action, End}

-- whether the list of a text's tokens ends with it
abbrev pub is_end : Kind → Bool
is_end End = true
is_end _ = false

-- whether it is one byte, whatever follows that byte; `<` is not, since a `-` makes an arrow of it
abbrev pub is_sign : Kind → Bool
is_sign EndCap = true
is_sign Slash = true
is_sign Amp = true
is_sign Bang = true
is_sign Quest = true
is_sign Star = true
is_sign Plus = true
is_sign Dot = true
is_sign LParen = true
is_sign RParen = true
is_sign _ = false

-- whether a mark of its own has to close it
abbrev pub is_closed : Kind → Bool
is_closed Literal = true
is_closed Class = true
is_closed Action = true
is_closed _ = false
