-- Kinds of tokens.
use Rattle.std.specs.Prelude.{Bool, true, false}
use Rattle.abnfread.specs.declared.kind.AbnfKind.{AbnfKind}
use Rattle.abnfread.specs.declared.kind.AbnfKind.TheVariants.{Repeat, End}

-- whether the list of a text's tokens ends with it
abbrev pub ends_list : AbnfKind → Bool
ends_list End = true
ends_list _ = false

-- whether it is a repeat
abbrev pub is_repeat : AbnfKind → Bool
is_repeat Repeat = true
is_repeat _ = false
