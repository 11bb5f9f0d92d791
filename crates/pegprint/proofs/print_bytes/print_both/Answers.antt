use Rattle.std.proofs.Common.{◌++◌}
use Rattle.pegread.specs.Escapes.{shown}
use Rattle.ruletable.proofs.LeavesLemmas.{leaves-all, leaves-rest, leaves-part, leaves-last}
use Rattle.pegprint.proofs.print_bytes.print_both.Goals as goal

pub returns-in-Err-clause-bytes : goal.returns-in-Err-clause-bytes
returns-in-Err-clause-bytes g c = leaves-part _ (shown c.args.first) (c.args.mark.now ++ shown c.args.last)
    (leaves-all _ _) c.in-Err.ensures.bytes

pub returns-in-Ok-write_whole-clause-bytes : goal.returns-in-Ok-write_whole-clause-bytes
returns-in-Ok-write_whole-clause-bytes g c =
    let front = leaves-rest (shown c.args.first) (c.args.mark.now ++ shown c.args.last) (leaves-all _ _)
    c.in-Ok.ensures.bytes in
    leaves-last _ _ c.print_shown-in-Ok-write_whole.result (leaves-rest _ _ front c.in-Ok-write_whole.ensures.bytes)
    c.print_shown-in-Ok-write_whole.ensures.bytes

pub returns-in-Err-write_whole-clause-bytes : goal.returns-in-Err-write_whole-clause-bytes
returns-in-Err-write_whole-clause-bytes g c =
    let front = leaves-rest (shown c.args.first) (c.args.mark.now ++ shown c.args.last) (leaves-all _ _)
    c.in-Ok.ensures.bytes in
    leaves-part _ _ _ front c.in-Err-write_whole.ensures.bytes
