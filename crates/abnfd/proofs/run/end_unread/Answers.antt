-- Each reason why a text cannot be read.
use Rattle.std.proofs.Common.{[], Some, false, refl}
use Rattle.cli.proofs.JobStatesLemmas.{stop_comes}
use Rattle.toolrun.specs.Plan.{IsReportedAnd}
use Rattle.toolrun.specs.Status.{code_of}
use Rattle.toolrun.specs.Stream.{passed}
use Rattle.toolrun.specs.declared.stop.Stop.TheVariants.{NoMemory}
use Rattle.abnfd.proofs.run.end_unread.Goals as goal

pub returns-in-Old : goal.returns-in-Old
returns-in-Old g c = record { right = rw c.in-Old.is c.end_reported.ensures.right }

pub returns-in-New : goal.returns-in-New
returns-in-New g c = record { right = rw c.in-New.is c.end_reported-in-New.ensures.right }

pub returns-in-NoMemory : goal.returns-in-NoMemory
returns-in-NoMemory g c = record {
  right = rw c.in-NoMemory.is (stop_comes (IsReportedAnd [] NoMemory) NoMemory (λ input. (refl, refl))
      (Some []) false false
      (passed g.O.Sink.contents g.O.Sink.failed c.args.out.now c.finish.new.out)
      (passed g.E.Sink.contents g.E.Sink.failed c.args.err.now c.finish.new.err) (code_of c.finish.result)
      (c.finish.ensures.kept, c.finish.ensures.reported));
}
