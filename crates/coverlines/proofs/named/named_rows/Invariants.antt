-- The rules so far.
use Rattle.fixpoint.specs.StepRows.{rows_of}
use Rattle.abnfread.specs.AbnfViews.{rules_of}
use Rattle.coverlines.proofs.NamedIdsLemmas.{AreNamedRowsTo}
use Rattle.coverlines.proofs.named.named_rows.Given as goal

abbrev pub invariant-loop-id : goal.invariant-loop-id
invariant-loop-id l = AreNamedRowsTo (rules_of l.rules) (rows_of l.rows.items) l.id
