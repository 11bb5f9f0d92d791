-- The output has the same text however it is written.
use Rattle.pegi.proofs.command.PegiProgram.run.Goals as goal

pub returns : goal.returns
returns g c =
    let same = c.write_through.ensures.contents in
    let right = (rw same at c.run_peg.ensures.right) in
    record { right = right }
