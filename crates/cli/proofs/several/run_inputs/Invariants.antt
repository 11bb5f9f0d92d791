-- The runs on the first names, so far.
use Rattle.std.proofs.Common.{map, take}
use Rattle.cli.specs.FileRuns.{RunsInOrder, IsRunOnInput, writes_as}
use Rattle.toolrun.specs.Status.{code_of}
use Rattle.toolrun.specs.Stream.{passed}
use Rattle.cli.proofs.several.run_inputs.Given as goal

abbrev pub invariant-loop-name : goal.invariant-loop-name
invariant-loop-name g l = RunsInOrder
    (IsRunOnInput (writes_as l.job.manner) g.P.Program.states l.job.text.items l.job.settings l.job.messages.items)
    (map (λ s. s.now) (take l.name-index l.names))
    (passed g.O.Sink.contents g.O.Sink.failed l.fn.out l.out)
    (passed g.E.Sink.contents g.E.Sink.failed l.fn.err l.err) (code_of l.most)
