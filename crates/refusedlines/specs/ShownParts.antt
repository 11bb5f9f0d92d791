-- What the code's parts stand for.
use Rattle.abnfread.specs.AbnfViews.{element_of}
use Rattle.refusedlines.specs.RefusedParts.{ShownPart}
use Rattle.refusedlines.specs.declared.parts.AwaitedPart.{AwaitedPart}

abbrev pub awaited_part : AwaitedPart → ShownPart
awaited_part part = record { rule = part.rule; element = element_of part.element.now; read = part.read }
