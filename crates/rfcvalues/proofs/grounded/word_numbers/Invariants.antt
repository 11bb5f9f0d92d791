use Rattle.std.proofs.Common.{◌≡◌, map, take}
use Rattle.rfcvalues.specs.GroundedNeeds.{word_numbers}
use Rattle.rfcvalues.proofs.grounded.word_numbers.Given as goal

abbrev pub invariant-loop-word : goal.invariant-loop-word
invariant-loop-word l =
    l.row.items ≡ word_numbers l.lists l.first (map (λ word. word.items) (take l.word-index l.words))
