use Rattle.std.proofs.Common.{ℕ, List, ◌++◌, length}
use Rattle.rfcforms.specs.XmlPieces.{MarksPieces}
use Rattle.rfcforms.specs.declared.xml.region.Region.TheVariants.{Outside}
use Rattle.rfcforms.proofs.xml.contents.marked_text.Given as goal

-- what stands for the rest completes what stands for the text
abbrev pub invariant-loop-rest : goal.invariant-loop-rest
invariant-loop-rest l = (more : List ℕ) → MarksPieces l.region l.rest more
    → MarksPieces Outside l.text (l.out.items ++ more)

abbrev pub decreases-loop-rest : goal.decreases-loop-rest
decreases-loop-rest l = length l.rest
