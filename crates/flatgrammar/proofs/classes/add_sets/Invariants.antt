use Rattle.flatgrammar.specs.FlatViews.{set_of}
use Rattle.flatgrammar.specs.ClassBounds.{AreMoreBounds, IsSplit}
use Rattle.flatgrammar.proofs.AreClassesLemmas.{AreSplitTo, more_split}
use Rattle.flatgrammar.proofs.classes.add_sets.Given as goal

abbrev pub invariant-loop-set : goal.invariant-loop-set
invariant-loop-set l = AreMoreBounds l.initial.bounds.numbers.items l.bounds.numbers.items
    × AreSplitTo set_of IsSplit more_split l.bounds.numbers.items l.sets l.set-index
