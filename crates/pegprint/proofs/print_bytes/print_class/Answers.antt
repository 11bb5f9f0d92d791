use Rattle.std.proofs.Common.{◌∷◌, [], ◌++◌}
use Rattle.ruletable.specs.Runs.{test_of}
use Rattle.pegread.specs.Escapes.{runs_text}
use Rattle.ruletable.proofs.LeavesLemmas.{leaves-all, leaves-rest, leaves-part, leaves-last}
use Rattle.pegprint.proofs.print_bytes.print_class.Goals as goal

pub returns-in-Err-clause-bytes : goal.returns-in-Err-clause-bytes
returns-in-Err-clause-bytes g c = leaves-part _ c.args.mark.now (runs_text (test_of c.args.set.now) ++ 93 ∷ [])
    (leaves-all _ _) c.in-Err.ensures.bytes

pub returns-in-Ok-print_runs-clause-bytes : goal.returns-in-Ok-print_runs-clause-bytes
returns-in-Ok-print_runs-clause-bytes g c =
    let front = leaves-rest c.args.mark.now (runs_text (test_of c.args.set.now) ++ 93 ∷ []) (leaves-all _ _)
    c.in-Ok.ensures.bytes in
    leaves-last _ _ c.write_whole-in-Ok-print_runs.result (leaves-rest _ _ front c.in-Ok-print_runs.ensures.bytes)
    c.write_whole-in-Ok-print_runs.ensures.bytes

pub returns-in-Err-print_runs-clause-bytes : goal.returns-in-Err-print_runs-clause-bytes
returns-in-Err-print_runs-clause-bytes g c =
    let front = leaves-rest c.args.mark.now (runs_text (test_of c.args.set.now) ++ 93 ∷ []) (leaves-all _ _)
    c.in-Ok.ensures.bytes in
    leaves-part _ _ _ front c.in-Err-print_runs.ensures.bytes
