use Rattle.std.proofs.Common.{◌≡◌, map, take}
use Rattle.abnfread.specs.AbnfViews.{element_of}
use Rattle.abnfread.specs.CoreParts.{part_element}
use Rattle.abnfread.proofs.appendix.one_of.Given as goal

abbrev pub invariant-loop-it : goal.invariant-loop-it
invariant-loop-it l = map element_of l.all.items ≡ map part_element (take l.it-index l.parts)
