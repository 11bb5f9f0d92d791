use Rattle.std.proofs.Common.{◌≡◌, Bool, map, subst}
use Rattle.std.specs.Prelude.{IfOk}
use Rattle.rfcvalues.proofs.SameNamesLemmas.{by-names, by-statement, by-vector, too-few}
use Rattle.rfcvalues.proofs.run.is_no_abnf.Goals as goal

pub returns-then-has_statement : goal.returns-then-has_statement
returns-then-has_statement c =
    by-statement c.args.run.now c.has_statement.result c.has_statement.ensures c.if-has_statement.true

pub returns-then-run-lt2 : goal.returns-then-run-lt2
returns-then-run-lt2 c =
    too-few c.args.run.now c.has_statement.result c.has_statement.ensures c.if-has_statement.false c.if-run-lt2.true

pub returns-then-has_test_vector : goal.returns-then-has_test_vector
returns-then-has_test_vector c =
    by-vector c.args.run.now c.has_statement.result c.has_test_vector.result c.has_statement.ensures
    c.if-has_statement.false c.if-run-lt2.false c.has_test_vector.ensures c.if-has_test_vector.true

pub returns : goal.returns
returns c =
    subst (λ (b : Bool). IfOk c.has_same_names.result (λ found. found ≡ b))
    (by-names c.args.run.now c.has_statement.result c.has_test_vector.result c.has_statement.ensures
    c.if-has_statement.false c.if-run-lt2.false c.has_test_vector.ensures c.if-has_test_vector.false)
    c.has_same_names.ensures
