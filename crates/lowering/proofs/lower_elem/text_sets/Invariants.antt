use Rattle.std.proofs.Common.{◌≡◌, map, take}
use Rattle.lowering.specs.Lowered.{letter_set}
use Rattle.flatgrammar.specs.FlatViews.{set_of}
use Rattle.lowering.proofs.lower_elem.text_sets.Given as goal

abbrev pub invariant-loop-letter : goal.invariant-loop-letter
invariant-loop-letter l = map set_of l.sets.items ≡ map (letter_set l.folds) (take l.letter-index l.text)
