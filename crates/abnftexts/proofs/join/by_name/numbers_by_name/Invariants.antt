use Rattle.std.proofs.Common.{take}
use Rattle.abnftexts.specs.ListedRules.{ListNames}
use Rattle.abnftexts.proofs.join.by_name.numbers_by_name.Given as goal

-- the rules so far are listed
abbrev pub invariant-loop-number : goal.invariant-loop-number
invariant-loop-number l = ListNames l.listed (take l.number l.rules) l.lists
