use Rattle.std.proofs.Common.{arith, subst, sym}
use Rattle.earley.specs.OldDots.{EntersFrom}
use Rattle.earley.proofs.OldDotsLemmas.{IsOldWork, work_begins, work_begins_whole, work_done, work_more}
use Rattle.earley.proofs.awaited.old_dots.Goals.{then-n-eq0+in_ok-add_node, else-n-eq0}
use Rattle.earley.proofs.awaited.old_dots.Goals as goal

pub loop-init : goal.loop-init
loop-init c =
    elim c.if-n-eq0.branch [
      | then-n-eq0+in_ok-add_node w ↦ subst
          (λ v. IsOldWork c.args.tables.now c.args.n c.args.older.now c.args.dots.now v.items c.new-entered.result.items
          0)
          (sym w.old-is)
          (work_begins_whole c.args.tables.now c.args.n c.args.older.now c.args.dots.now _ _ c.new-entered.result.items
          c.new-entered.ensures.items c.in_ok-old.ensures.items w.if-n-eq0.true w.in_ok-add_node.ensures)
      | else-n-eq0 w ↦ subst
          (λ v. IsOldWork c.args.tables.now c.args.n c.args.older.now c.args.dots.now v.items c.new-entered.result.items
          0)
          (sym w.old-is)
          (work_begins c.args.tables.now c.args.n c.args.older.now c.args.dots.now _ c.new-entered.result.items
          c.new-entered.ensures.items c.in_ok-old.ensures.items
          (λ none. let some = w.if-n-eq0.false in omega (arith, none, some)))
    ]

pub loop-preserved : goal.loop-preserved
loop-preserved c =
    work_more c.args.tables.now c.args.n c.args.older.now c.args.dots.now c.loop.old.items _ c.loop.entered.items _
    c.loop.count c.index.result.now (let l = c.len.ensures in let t = c.if-count-len.false in omega (arith, l, t))
    c.loop.invariant
    (subst (λ v. EntersFrom c.args.tables.now c.args.dots.now v c.loop.entered.items c.enter_from.new.entered.items
    c.loop.old.items c.enter_from.new.old.items) c.index.ensures c.in_ok-enter_from.ensures)

pub returns-then-count-len : goal.returns-then-count-len
returns-then-count-len c =
    work_done c.args.tables.now c.args.n c.args.older.now c.args.dots.now c.loop.old.items c.loop.entered.items
    c.loop.count (let l = c.len.ensures in let t = c.if-count-len.true in omega (arith, l, t)) c.loop.invariant
