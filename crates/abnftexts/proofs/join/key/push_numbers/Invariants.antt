use Rattle.std.proofs.Common.{◌≡◌, ◌++◌, take}
use Rattle.abnftexts.specs.RuleKeys.{numbers_key}
use Rattle.abnftexts.proofs.join.key.push_numbers.Given as goal

abbrev pub invariant-loop-number : goal.invariant-loop-number
invariant-loop-number l = l.key.items ≡ l.fn.key.items ++ numbers_key l.mark (take l.number-index l.numbers)
