use Rattle.std.proofs.Common.{◌∷◌, [], ◌++◌}
use Rattle.std.specs.List.{flat_map}
use Rattle.pegread.specs.Escapes.{escaped}
use Rattle.ruletable.proofs.LeavesLemmas.{leaves-all, leaves-rest, leaves-part, leaves-last}
use Rattle.pegprint.proofs.print_bytes.print_literal.Goals as goal

pub returns-in-Err-clause-bytes : goal.returns-in-Err-clause-bytes
returns-in-Err-clause-bytes g c = leaves-part _ (34 ∷ []) (flat_map escaped c.args.bytes.now ++ 34 ∷ [])
    (leaves-all _ _) c.in-Err.ensures.bytes

pub returns-in-Ok-print_bytes-clause-bytes : goal.returns-in-Ok-print_bytes-clause-bytes
returns-in-Ok-print_bytes-clause-bytes g c =
    let front = leaves-rest (34 ∷ []) (flat_map escaped c.args.bytes.now ++ 34 ∷ []) (leaves-all _ _)
    c.in-Ok.ensures.bytes in
    leaves-last _ _ c.write_whole-in-Ok-print_bytes.result (leaves-rest _ _ front c.in-Ok-print_bytes.ensures.bytes)
    c.write_whole-in-Ok-print_bytes.ensures.bytes

pub returns-in-Err-print_bytes-clause-bytes : goal.returns-in-Err-print_bytes-clause-bytes
returns-in-Err-print_bytes-clause-bytes g c =
    let front = leaves-rest (34 ∷ []) (flat_map escaped c.args.bytes.now ++ 34 ∷ []) (leaves-all _ _)
    c.in-Ok.ensures.bytes in
    leaves-part _ _ _ front c.in-Err-print_bytes.ensures.bytes
