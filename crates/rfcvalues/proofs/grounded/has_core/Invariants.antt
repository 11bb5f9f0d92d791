use Rattle.std.proofs.Common.{◌≡◌, false, take}
use Rattle.std.specs.List.{list_any}
use Rattle.rfcvalues.specs.AssignedValues.{is_core}
use Rattle.rfcvalues.proofs.grounded.has_core.Given as goal

abbrev pub invariant-loop-word : goal.invariant-loop-word
invariant-loop-word l = list_any (λ word. is_core word.items) (take l.word-index l.words) ≡ false
