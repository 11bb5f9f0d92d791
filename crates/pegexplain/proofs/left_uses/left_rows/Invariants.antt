-- The rows of the rules so far.
use Rattle.std.proofs.Common.{◌≡◌, map, take}
use Rattle.fixpoint.specs.StepRows.{rows_of}
use Rattle.ruletable.specs.Rules.{find_in}
use Rattle.pegread.specs.PegViews.{pattern_of}
use Rattle.pegexplain.specs.LeftUses.{left_row}
use Rattle.pegexplain.specs.NullTests.{null_mark_of, nullable_by}
use Rattle.pegexplain.proofs.left_uses.left_rows.Given as goal

abbrev pub invariant-loop-id : goal.invariant-loop-id
invariant-loop-id l = rows_of l.rows.items ≡ map (λ rule. left_row (find_in l.rules)
    (nullable_by (null_mark_of l.rules l.marks)) (pattern_of rule.body)) (take l.id l.rules.rules)
