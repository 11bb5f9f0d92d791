use Rattle.std.proofs.Common.{◌+◌, length, Some, None}
use Rattle.std.specs.Option.{option_map}
use Rattle.abnfread.proofs.NumeralLemmas.{Taken}
use Rattle.abnfread.proofs.number.read_values.Given as goal

abbrev pub invariant-loop-left : goal.invariant-loop-left
invariant-loop-left l = Taken l.base l.limit l.text (option_map (λ t. t.now) l.left) l.values.items

abbrev pub decreases-loop-left : goal.decreases-loop-left
decreases-loop-left l = elim l.left [ None ↦ 0 | Some t ↦ length t.now + 1 ]
