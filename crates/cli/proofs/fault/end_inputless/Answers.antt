-- Each reason has its message, or an allocation failed.
use Rattle.std.proofs.Common.{◌∙◌, Some, [], false}
use Rattle.cli.proofs.JobStatesLemmas.{stop_comes}
use Rattle.cli.specs.Inputs.{UnopenedStates, has_no_memory, says_name}
use Rattle.toolrun.specs.Plan.{IsReportedAnd}
use Rattle.toolrun.specs.Status.{code_of}
use Rattle.toolrun.specs.Stream.{no_input, passed}
use Rattle.toolrun.specs.declared.status.Status.TheVariants.{Fault}
use Rattle.toolrun.specs.declared.stop.Stop.TheVariants.{NoMemory, Quiet}
use Rattle.toolrun.proofs.IsRightLemmas.{comes_as}
use Rattle.cli.proofs.fault.end_inputless.Goals as goal

pub returns-in-Some : goal.returns-in-Some
returns-in-Some g c =
    let said = c.in-Some.ensures in
    let name = c.in-Unopened.name.now in
    rw c.in-Unopened.is (comes_as (IsReportedAnd c.as_str.result.now (Quiet Fault)) (UnopenedStates name)
    (λ input notes reply is. rw (is.0 ∙ (c.as_str.ensures.value ∙ said.1), is.1) (says_name said.0)) no_input
    (passed g.O.Sink.contents g.O.Sink.failed c.args.out.now c.report_fault.new.out)
    (passed g.E.Sink.contents g.E.Sink.failed c.args.err.now c.report_fault.new.err) (code_of c.report_fault.result)
    c.report_fault.ensures.right)

pub returns-in-None : goal.returns-in-None
returns-in-None g c =
    rw c.in-Unopened.is (stop_comes (UnopenedStates c.in-Unopened.name.now) NoMemory (λ input. has_no_memory) (Some [])
    false false (passed g.O.Sink.contents g.O.Sink.failed c.args.out.now c.finish.new.out)
    (passed g.E.Sink.contents g.E.Sink.failed c.args.err.now c.finish.new.err) (code_of c.finish.result)
    (c.finish.ensures.kept, c.finish.ensures.reported))

pub returns-in-NoMemory : goal.returns-in-NoMemory
returns-in-NoMemory g c =
    rw c.in-NoMemory.is (stop_comes (UnopenedStates []) NoMemory (λ input. has_no_memory) (Some [])
    false false (passed g.O.Sink.contents g.O.Sink.failed c.args.out.now c.finish-in-NoMemory.new.out)
    (passed g.E.Sink.contents g.E.Sink.failed c.args.err.now c.finish-in-NoMemory.new.err)
    (code_of c.finish-in-NoMemory.result)
    (c.finish-in-NoMemory.ensures.kept, c.finish-in-NoMemory.ensures.reported))
