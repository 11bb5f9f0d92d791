-- The runs on inputs, one after another.
use Rattle.std.proofs.Common.{[], arith, refl}
use Rattle.std.proofs.lemmas.List.{take_more}
use Rattle.cli.specs.FileRuns.{none, IsRunOnInput, writes_as}
use Rattle.toolrun.specs.Status.{code_of}
use Rattle.toolrun.specs.Stream.{passed}
use Rattle.cli.proofs.FileRunsLemmas.{all_run, have_more, some_run}
use Rattle.cli.proofs.several.run_inputs.Goals as goal

pub loop-name-init : goal.loop-name-init
loop-name-init g c = none _ _ refl refl

pub returns-then-is_over : goal.returns-then-is_over
returns-then-is_over g c =
    some_run (IsRunOnInput (writes_as c.args.job.now.manner) g.P.Program.states c.args.job.now.text.items
    c.args.job.now.settings c.args.job.now.messages.items)
    [] c.args.names.now c.loop-name.name-index _ _ (code_of c.loop-name.most)
    c.loop-name.invariant (c.is_over.ensures.over c.if-is_over.true)

pub loop-name-preserved : goal.loop-name-preserved
loop-name-preserved g c =
    have_more (IsRunOnInput (writes_as c.args.job.now.manner) g.P.Program.states c.args.job.now.text.items
    c.args.job.now.settings c.args.job.now.messages.items)
    [] c.args.names.now c.loop-name.name-index _
    (passed g.O.Sink.contents g.O.Sink.failed c.args.out.now c.loop-name.out)
    (passed g.O.Sink.contents g.O.Sink.failed c.loop-name.out c.run_input-status.new.out)
    (passed g.E.Sink.contents g.E.Sink.failed c.args.err.now c.loop-name.err)
    (passed g.E.Sink.contents g.E.Sink.failed c.loop-name.err c.run_input-status.new.err)
    (code_of c.loop-name.most) (code_of c.run_input-status.result) (code_of c.greater_status-most.result)
    c.loop-name.invariant c.run_input-status.ensures refl refl
    (take_more c.args.names.now c.loop-name.name-index _ c.loop-name-test.true) c.greater_status-most.ensures

pub returns : goal.returns
returns g c =
    all_run (IsRunOnInput (writes_as c.args.job.now.manner) g.P.Program.states c.args.job.now.text.items
    c.args.job.now.settings c.args.job.now.messages.items)
    [] c.args.names.now c.loop-name.name-index _ _ (code_of c.loop-name.most)
    c.loop-name.invariant (omega (arith, c.loop-name-test.false))
