-- What was seen, and what was written of it.
use Rattle.std.proofs.Common.{rules}
use Rattle.pegread.specs.PegViews.{rules_of}
use Rattle.toolrun.specs.Stream.{passed}
use Rattle.pegrun.proofs.CutLemmas.{units_were_run, no_unit_was_run}
use Rattle.pegrun.proofs.MatchCallsLemmas.{few_calls_given, no_calls_given}
use Rattle.pegrun.proofs.engine.run_units.Goals as goal

pub returns-in-Err-clause-runs : goal.returns-in-Err-clause-runs
returns-in-Err-clause-runs g c =
    let sound = (rw c.peg.view_is at c.peg.invariant) in
    no_unit_was_run c.args.peg.now sound c.args.settings.now _ _ _ _ _

pub returns-in-Err-clause-calls : goal.returns-in-Err-clause-calls
returns-in-Err-clause-calls g c =
    no_calls_given (rules_of c.args.peg.now.rules) c.args.peg.now.start c.args.settings.now _ _ _

pub returns-clause-runs : goal.returns-clause-runs
returns-clause-runs g c =
    let sound = (rw c.peg.view_is at c.peg.invariant) in
    let run = (rw (c.new-feed.ensures.loan, c.peg.view_is) at c.cut-ending.ensures.units) in
    units_were_run c.args.peg.now sound c.args.settings.now g.R.Source.remaining g.R.Source.failed
    g.R.Source.ended c.args.reader.now c.cut-ending.new.feed.reader.now _
    (passed g.O.Sink.contents g.O.Sink.failed c.args.out.now c.cut-ending.new.out)
    c.cut-ending.new.feed.left c.cut-ending.new.feed.flow c.cut-ending.result
    (search rules) c.cut-ending.ensures.reported
    (run.0, run.1, run.2, λ input agrees. (run.3 input agrees).0)
    c.cut-ending.ensures.flag

pub returns-clause-calls : goal.returns-clause-calls
returns-clause-calls g c =
    let run = (rw (c.new-feed.ensures.loan, c.peg.view_is) at c.cut-ending.ensures.units) in
    few_calls_given (rules_of c.args.peg.now.rules) c.args.peg.now.start c.args.settings.now _ _
    g.R.Source.remaining g.R.Source.failed g.R.Source.ended c.args.reader.now c.cut-ending.new.feed.reader.now _
    c.cut-ending.new.feed.left c.cut-ending.new.feed.flow (search rules) c.cut-ending.ensures.reported
    (run.0, run.1, run.2, λ input agrees. (run.3 input agrees).1)
