use Rattle.std.proofs.Common.{◌≡◌, length}
use Rattle.rfcforms.specs.XmlReferences.{number_from}
use Rattle.rfcforms.proofs.xml.reference.number_in.Given as goal

abbrev pub invariant-loop-first : goal.invariant-loop-first
invariant-loop-first l = number_from l.base l.value l.rest ≡ number_from l.base 0 l.text

abbrev pub decreases-loop-first : goal.decreases-loop-first
decreases-loop-first l = length l.rest
