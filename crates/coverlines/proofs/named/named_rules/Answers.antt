-- The marks that chains of names reach.
use Rattle.std.proofs.Common.{arith}
use Rattle.std.proofs.lemmas.List.{length-map}
use Rattle.fixpoint.specs.StepRows.{rows_of}
use Rattle.abnfread.specs.AbnfViews.{rule_of, rules_of}
use Rattle.coverlines.proofs.NamedIdsLemmas.{named_marks, named_within}
use Rattle.coverlines.proofs.named.named_rules.Goals as goal

pub reached-requires-clause-within : goal.reached-requires-clause-within
reached-requires-clause-within c = rw (c.deref-2.ensures.value, c.in_ok-steps.ensures, c.deref.ensures.value)
    (named_within (rules_of c.args.rules.now) (rows_of c.in_ok-rows.rows.items) c.in_ok-rows.ensures)

pub returns-clause-marks : goal.returns-clause-marks
returns-clause-marks c = λ id lt. named_marks (rules_of c.args.rules.now) (rows_of c.in_ok-rows.rows.items)
    c.in_ok-rows.ensures c.args.judged c.in_ok-reached.field-0.items
    (rw (c.deref-2.ensures.value, c.in_ok-steps.ensures, c.deref.ensures.value) at c.in_ok-reached.ensures.marks) id
    (let n = length-map c.args.rules.now.rules rule_of in omega (arith, lt, n))
