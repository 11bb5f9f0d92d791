-- An allocation failed for the error.
use Rattle.std.proofs.Common.{◌∷◌, []}
use Rattle.cli.proofs.JobStatesLemmas.{without_room}
use Rattle.toolrun.specs.Status.{code_of}
use Rattle.toolrun.specs.Stream.{passed}
use Rattle.cli.proofs.fault.end_error.Goals as goal

pub returns-in-Err : goal.returns-in-Err
returns-in-Err g c = λ kind is.
    without_room (passed g.O.Sink.contents g.O.Sink.failed c.args.out.now c.finish.new.out)
    (passed g.E.Sink.contents g.E.Sink.failed c.args.err.now c.finish.new.err) (code_of c.finish.result)
    (kind ∷ []) (c.finish.ensures.kept, c.finish.ensures.reported)
