use Rattle.std.proofs.Common.{length, subst, ap, ◌∙◌, arith}
use Rattle.earley.specs.RowSets.{HasAt}
use Rattle.earley.specs.RowCharts.{row_views}
use Rattle.earley.proofs.RowWorklistLemmas.{worked_on, worked_none, stands_mid}
use Rattle.earley.proofs.row_fill.work_once.Goals as goal

pub returns-in_default-clause-none : goal.returns-in_default-clause-none
returns-in_default-clause-none c same p k h = c.in_default.ensures.none p k
    (subst (λ v. HasAt v.pending p k) c.in_default.ensures.same h)

pub returns-in_default-next-clause-worklist : goal.returns-in_default-next-clause-worklist
returns-in_default-next-clause-worklist c = λ line earlier begun. worked_none c.args.table.now.flat.value
    c.requires.exact.targets c.requires.exact.nulls line
    (row_views c.args.table.now.dots.items c.args.filled.now.sets.items) earlier
    c.args.table.now.dots.items
    c.in-Some.position c.in-Some.row c.args.set.now c.take.new.self c.take.new.self begun c.in-Some.ensures.some
    (λ k has. let lt = c.in_default-next.ensures.none k has in omega (arith, lt))

pub returns-clause-keeps : goal.returns-clause-keeps
returns-clause-keeps c = λ a h. c.in_ok-work_row.ensures.kept a (stands_mid c.args.table.now.flat.value
    c.requires.exact.targets c.requires.exact.nulls c.requires.begun.0
    (row_views c.args.table.now.dots.items c.args.filled.now.sets.items) c.requires.begun.1
    c.args.table.now.dots.items
    c.in-Some.position c.in-Some.row c.args.set.now c.take.new.self c.work_row.new.set c.requires.begun.2
    c.in-Some.ensures.some a h)

pub returns-clause-worklist : goal.returns-clause-worklist
returns-clause-worklist c = λ line earlier begun. worked_on c.args.table.now.flat.value c.requires.exact.targets
    c.requires.exact.nulls line
    (row_views c.args.table.now.dots.items c.args.filled.now.sets.items) earlier
    c.args.table.now.dots.items
    c.in-Some.position c.in-Some.row c.args.set.now c.take.new.self c.work_row.new.set begun
    c.in-Some.ensures.some c.in_ok-work_row.ensures

pub work_row-requires-clause-count : goal.work_row-requires-clause-count
work_row-requires-clause-count c = ap (λ v. length v) c.in-Some.ensures.some.all ∙ c.requires.begun.2.count
