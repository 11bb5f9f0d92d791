use Rattle.earley.proofs.IsAfterInLemmas.{own_added, own_none}
use Rattle.earley.proofs.RowStepLemmas.{found_at, missing_at}
use Rattle.earley.proofs.row_step.complete_own.Goals as goal

pub returns-in_ok-add-in-Some : goal.returns-in_ok-add-in-Some
returns-in_ok-add-in-Some c dots = own_added dots c.args.call c.args.own.now c.args.row.now c.args.set.now
    c.add.new.self c.in-Some.own.now c.in_ok-both-in-Some.both
    (found_at c.args.own.now c.args.call.from c.in-Some.own.now c.in-Some.ensures.lookup.0 c.in-Some.ensures.lookup.1)
    c.in_ok-both-in-Some.ensures c.in_ok-add-in-Some.ensures

pub returns-in-None : goal.returns-in-None
returns-in-None c dots = own_none dots c.args.call c.args.own.now c.args.row.now c.args.set.now c.args.set.now
    (missing_at c.args.own.now c.args.call.from c.in-None.ensures.lookup.0)
