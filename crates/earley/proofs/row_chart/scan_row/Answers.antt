use Rattle.std.proofs.Common.{◌≡◌, ◌<◌, ℕ, Some, slice_get, subst, sym, ap, ◌∙◌}
use Rattle.std.proofs.lemmas.Option.{slice_get-get_or}
use Rattle.flatgrammar.proofs.CallOfLemmas.{get_below}
use Rattle.flatgrammar.specs.ItemClosures.{item_at}
use Rattle.flatgrammar.specs.NodeSteps.{IfSomeSet}
use Rattle.flatgrammar.specs.TableViews.{read_of}
use Rattle.earley.proofs.RowStepLemmas.{scan_by, scan_nothing, step_here, one_dot}
use Rattle.earley.proofs.row_chart.scan_row.Goals as goal

pub returns-in_default : goal.returns-in_default
returns-in_default c =
    let h = step_here c.args.table.now.flat.value c.args.table.now.dots.items c.args.table.now.steps.items
    c.requires.table.steps c.args.position c.index.result.now c.requires.position c.index.ensures in
    scan_nothing c.args.table.now.flat.value c.args.table.now.dots.items c.args.value c.args.rows.now c.args.position
    h.at
    h.is c.args.set.now c.args.set.now
    (λ r. let p = h.reports.read c.args.value r in let some = p.1 in let none = c.in_default.is in absurd (cc (
      some,
      none,
    )))

pub returns-then-reads : goal.returns-then-reads
returns-then-reads c =
    let h = step_here c.args.table.now.flat.value c.args.table.now.dots.items c.args.table.now.steps.items
    c.requires.table.steps c.args.position c.index.result.now c.requires.position c.index.ensures in
    let at = c.index-at.result.now in
    let there : slice_get c.args.table.now.dots.items c.args.position ≡ Some at =
    slice_get-get_or c.args.table.now.dots.items c.args.position at c.requires.position
    ∙ ap Some (sym c.index-at.ensures) in
    scan_by c.args.table.now.flat.value c.args.table.now.dots.items c.args.value c.args.rows.now c.args.position h.at
    h.is
    c.args.set.now c.advance_call.new.set c.in-Some.after (h.reports.after c.in-Some.after c.in-Some.is)
    (subst (λ v. IfSomeSet (read_of c.args.table.now.flat.value (item_at 0 v)) c.args.value) (sym (one_dot h.is there))
    (subst (λ f. IfSomeSet (read_of f (item_at 0 at)) c.args.value) c.deref.ensures
    (c.reads.ensures.value.0 c.if-reads.true)))
    (c.in_ok-advance_call.ensures c.args.table.now.dots.items)

pub returns : goal.returns
returns c =
    let h = step_here c.args.table.now.flat.value c.args.table.now.dots.items c.args.table.now.steps.items
    c.requires.table.steps c.args.position c.index.result.now c.requires.position c.index.ensures in
    let at = c.index-at.result.now in
    let there : slice_get c.args.table.now.dots.items c.args.position ≡ Some at =
    slice_get-get_or c.args.table.now.dots.items c.args.position at c.requires.position
    ∙ ap Some (sym c.index-at.ensures) in
    scan_nothing c.args.table.now.flat.value c.args.table.now.dots.items c.args.value c.args.rows.now c.args.position
    h.at
    h.is c.args.set.now c.args.set.now
    (λ r. let yes = c.reads.ensures.value.1
    (subst (λ f. IfSomeSet (read_of f (item_at 0 at)) c.args.value) (sym c.deref.ensures)
    (subst (λ v. IfSomeSet (read_of c.args.table.now.flat.value (item_at 0 v)) c.args.value) (one_dot h.is there) r))
    in
    let no = c.if-reads.false in absurd (cc (yes, no)))

pub advance_call-requires : goal.advance_call-requires
advance_call-requires c =
    let h = step_here c.args.table.now.flat.value c.args.table.now.dots.items c.args.table.now.steps.items
    c.requires.table.steps c.args.position c.index.result.now c.requires.position c.index.ensures in
    subst (λ (v : ℕ). c.in-Some.after < v) (sym c.requires.count)
    (get_below c.args.table.now.dots.items c.in-Some.after (h.reports.after c.in-Some.after c.in-Some.is))
