use Rattle.std.proofs.Common.{◌≡◌, ℕ, List, [], ◌∷◌, ◌++◌, append_assoc, codes}
use Rattle.pegprint.specs.Canon.{text_of}
use Rattle.pegread.specs.PegViews.{pattern_of}
use Rattle.ruletable.proofs.LeavesLemmas.{leaves-all, leaves-rest, leaves-part, leaves-last, leaves-at}
use Rattle.pegprint.proofs.print.print_definition.Goals as goal

-- the name and the arrow are one piece
regroup : (n m b : List ℕ) → n ++ (m ++ b) ≡ (n ++ (m ++ [])) ++ b
regroup n m b = simp append_assoc

pub returns-in-Err-clause-bytes : goal.returns-in-Err-clause-bytes
returns-in-Err-clause-bytes g c =
    let rest = text_of (pattern_of c.args.body.now) ++ 10 ∷ [] in
    leaves-part _ _ rest (leaves-at (regroup c.args.name.now (codes " <- ") rest) (leaves-all _ _))
    c.in-Err.ensures.bytes

pub returns-in-Ok-print_expr-clause-bytes : goal.returns-in-Ok-print_expr-clause-bytes
returns-in-Ok-print_expr-clause-bytes g c =
    let rest = text_of (pattern_of c.args.body.now) ++ 10 ∷ [] in
    let front = leaves-rest _ rest (leaves-at (regroup c.args.name.now (codes " <- ") rest) (leaves-all _ _))
    c.in-Ok.ensures.bytes in
    leaves-last _ _ c.write_whole.result (leaves-rest _ _ front c.in-Ok-print_expr.ensures.bytes)
    c.write_whole.ensures.bytes

pub returns-in-Err-print_expr-clause-bytes : goal.returns-in-Err-print_expr-clause-bytes
returns-in-Err-print_expr-clause-bytes g c =
    let rest = text_of (pattern_of c.args.body.now) ++ 10 ∷ [] in
    let front = leaves-rest _ rest (leaves-at (regroup c.args.name.now (codes " <- ") rest) (leaves-all _ _))
    c.in-Ok.ensures.bytes in
    leaves-part _ _ _ front c.in-Err-print_expr.ensures.bytes
