use Rattle.std.proofs.Common.{arith}
use Rattle.std.proofs.lemmas.Option.{slice_get-get_or}
use Rattle.memo.proofs.TaskLinksLemmas.{linked_added}
use Rattle.memo.proofs.index.add.Goals as goal

pub returns-clause-linked : goal.returns-clause-linked
returns-clause-linked c =
    let next = c.in_ok-next.ensures.same.0 in
    let len = c.len.ensures in
    let fits = c.args.cells.now.ok.0 in
    rw c.in_ok-push.ensures.items
    (linked_added c.args.cells.now.items c.args.heads.now _ c.bucket-at.result c.in_ok-next.next c.requires.linked
    (c.requires.linked.heads _ _ (slice_get-get_or c.args.heads.now c.bucket-at.result 0 c.bucket-at.ensures.within))
    c.bucket-at.ensures.value (omega arith))
