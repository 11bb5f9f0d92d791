-- There is no room for the buffer.
use Rattle.std.proofs.Common.{Some, [], false}
use Rattle.cli.proofs.JobStatesLemmas.{stop_comes}
use Rattle.cli.specs.Inputs.{UnopenedStates, has_no_memory}
use Rattle.cli.specs.declared.input.Inputless.TheVariants as inputless
use Rattle.toolrun.specs.Status.{code_of}
use Rattle.toolrun.specs.Stream.{passed}
use Rattle.toolrun.specs.declared.stop.Stop.TheVariants.{NoMemory}
use Rattle.cli.proofs.input.open_source.Goals as goal

pub returns-in-Err-new-clause-ended : goal.returns-in-Err-new-clause-ended
returns-in-Err-new-clause-ended g c = (
  inputless.NoMemory,
  (c.open_input.ensures.0, c.open_input.ensures.1, λ e. cc e),
  stop_comes (UnopenedStates []) NoMemory (λ input. has_no_memory) (Some []) false false
      (passed g.O.Sink.contents g.O.Sink.failed c.args.out.now c.finish.new.out)
      (passed g.E.Sink.contents g.E.Sink.failed c.args.err.now c.finish.new.err) (code_of c.finish.result)
      (c.finish.ensures.kept, c.finish.ensures.reported),
)
