use Rattle.std.proofs.Common.{◌≡◌, ◌++◌, take}
use Rattle.rulelines.specs.Misses.{wrong_lines}
use Rattle.rulelines.specs.MissLists.{item_lines}
use Rattle.rulelines.proofs.miss.lines.push_wrong.Given as goal

abbrev pub invariant-loop-symbol : goal.invariant-loop-symbol
invariant-loop-symbol l =
    item_lines l.lines.items ≡ item_lines l.fn.lines.items ++ wrong_lines l.prefix (take l.symbol-index l.wrong)
