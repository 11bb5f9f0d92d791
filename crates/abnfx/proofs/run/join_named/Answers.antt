-- The paths are the values of the texts' argument.
use Rattle.std.proofs.Common.{codes}
use Rattle.clap.specs.Words.{found_of}
use Rattle.clap.proofs.WalkLemmas.{raw_values-rows}
use Rattle.abnfx.proofs.run.join_named.Goals as goal

pub returns-in-Some : goal.returns-in-Some
returns-in-Some g c =
    let rows = raw_values-rows (found_of c.args.matches.now) (codes "text") in
    let said = c.in-Some.ensures in
    record { right = rw (← rows, ← said) c.join_files.ensures.right }

pub returns-in-None : goal.returns-in-None
returns-in-None g c =
    let rows = raw_values-rows (found_of c.args.matches.now) (codes "text") in
    let said = c.in-None.ensures in
    record { right = rw (← rows, ← said) c.join_files-in-None.ensures.right }
