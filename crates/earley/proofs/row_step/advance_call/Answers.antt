use Rattle.earley.proofs.RowStepLemmas.{after_call, no_call, found_at, missing_at}
use Rattle.earley.proofs.row_step.advance_call.Goals as goal

pub returns-in-None : goal.returns-in-None
returns-in-None c dots = no_call dots c.args.call c.args.rows.now c.args.set.now c.args.set.now
    (missing_at c.args.rows.now c.args.call.from c.in-None.ensures.lookup.0)

pub returns-in_ok-add-in-Some : goal.returns-in_ok-add-in-Some
returns-in_ok-add-in-Some c dots = after_call dots c.args.call c.args.rows.now c.args.set.now c.add.new.self
    c.in-Some.row.now
    (found_at c.args.rows.now c.args.call.from c.in-Some.row.now c.in-Some.ensures.lookup.0 c.in-Some.ensures.lookup.1)
    c.in_ok-add-in-Some.ensures
