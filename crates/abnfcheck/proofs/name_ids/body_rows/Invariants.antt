-- The rows of the rules so far.
use Rattle.std.proofs.Common.{◌≡◌, ℕ, List, ◌++◌, take}
use Rattle.fixpoint.specs.StepRows.{rows_of}
use Rattle.ruletable.specs.Rules.{names_of}
use Rattle.ruletable.specs.declared.table.NameCase.TheVariants.{Fold}
use Rattle.fixpoint.specs.FirstUses.{news}
use Rattle.abnfread.specs.AbnfViews.{rules_of}
use Rattle.abnfcheck.specs.AbnfUses.{names_used}
use Rattle.abnfcheck.specs.NameIds.{AreRowsTo}
use Rattle.abnfcheck.proofs.name_ids.body_rows.Given as goal

abbrev pub invariant-loop-id : goal.invariant-loop-id
invariant-loop-id l = record {
  folds : l.names.names ≡ Fold;
  names : (known seen : List (List ℕ)) → names_of l.initial.names ≡ known ++ news Fold known seen →
      names_of l.names ≡ known ++ news Fold known (seen ++ names_used (take l.id (rules_of l.rules)));
  rows : (known seen : List (List ℕ)) → names_of l.initial.names ≡ known ++ news Fold known seen →
      AreRowsTo (rules_of l.rules) (names_of l.names) (rows_of l.rows.items) l.id;
}
