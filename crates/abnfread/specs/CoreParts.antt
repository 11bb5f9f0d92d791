-- The elements of the code's core rules.
use Rattle.abnfread.specs.declared.appendix.AppendixElement.{AppendixElement}
use Rattle.abnfread.specs.declared.appendix.AppendixElement.TheVariants as parts
use Rattle.abnfread.specs.CoreRules.{pair, plain, value}
use Rattle.abnfread.specs.Element.{Element, Range, Concat, Name}

abbrev pub part_element : AppendixElement → Element
part_element (parts.Text text) = plain text.now
part_element (parts.Value v) = value v
part_element (parts.Range low high) = Range low high
part_element (parts.Name name) = Name name.now
part_element (parts.Names first second) = Concat (pair (Name first.now) (Name second.now))
