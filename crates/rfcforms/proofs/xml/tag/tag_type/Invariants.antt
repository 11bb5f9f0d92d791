use Rattle.std.proofs.Common.{◌≡◌, length}
use Rattle.rfcforms.specs.XmlTags.{type_after, type_of}
use Rattle.rfcforms.proofs.xml.tag.tag_type.Given as goal

abbrev pub invariant-loop-first : goal.invariant-loop-first
invariant-loop-first l = type_after l.quote l.before l.rest ≡ type_of l.tag

abbrev pub decreases-loop-first : goal.decreases-loop-first
decreases-loop-first l = length l.rest
