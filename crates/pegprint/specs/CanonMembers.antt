-- The canonical text of a sequence's members.
use Rattle.std.specs.Prelude.{ℕ, codes, List}
use Rattle.pegprint.specs.Brackets.{wraps, around}
use Rattle.pegprint.specs.Canon.{joined, more_joined, text_of}
use Rattle.pegread.specs.Pattern.{Pattern, Patterns}
use Rattle.pegprint.specs.declared.position.Context.TheVariants.{Member}

-- a member, in parentheses where it needs them
abbrev pub member_text : Pattern → List ℕ
member_text e = around (wraps Member e) (text_of e)

-- members, with a blank between each two
abbrev pub members_text : Patterns → List ℕ
members_text es = joined Member (codes " ") es

-- with one before each
abbrev pub further_members : Patterns → List ℕ
further_members es = more_joined Member (codes " ") es
