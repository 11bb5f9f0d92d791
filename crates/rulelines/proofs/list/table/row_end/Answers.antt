use Rattle.std.proofs.Common.{ℕ, arith, get_or}
use Rattle.std.proofs.lemmas.Option.{slice_get-get_or}
use Rattle.lazydfa.proofs.StateSetsLemmas.{contained_at}
use Rattle.rulelines.proofs.list.table.row_end.Goals as goal
use Rattle.rulelines.proofs.list.table.row_end.Goals.{then-next-end, else-next-end}

pub loop-next-preserved : goal.loop-next-preserved
loop-next-preserved c = λ n all.
    let i = c.loop-next.next-index in
    let next : ℕ = get_or c.args.row.now i 0 in
    let lt = all next
    (contained_at c.args.row.now i next (slice_get-get_or c.args.row.now i 0 c.loop-next-test.true)) in
    let before = c.loop-next.invariant n all in
    elim c.if-next-end.branch [
      | then-next-end w ↦ (let a = w.end-is in let b = w.saturating_add-end.ensures in omega (arith, a, b, lt))
      | else-next-end w ↦ (let a = w.end-is in omega (arith, a, before))
    ]
