use Rattle.std.proofs.Common.{◌≡◌, ◌++◌, length, map}
use Rattle.rfcforms.specs.XmlPieces.{byte_marked}
use Rattle.rfcforms.proofs.xml.contents.push_marks.Given as goal

abbrev pub invariant-loop-first : goal.invariant-loop-first
invariant-loop-first l = l.out.items ++ map byte_marked l.rest ≡ l.initial.out.items ++ map byte_marked l.piece

abbrev pub decreases-loop-first : goal.decreases-loop-first
decreases-loop-first l = length l.rest
