use Rattle.std.proofs.Common.{◌≡◌, length, map, ap, sym, subst, ◌∙◌, arith}
use Rattle.std.proofs.lemmas.Result.{IfOk-weaker, MatchResult-weaker}
use Rattle.std.specs.Prelude.{IfOk, Result, Ok, Err}
use Rattle.earley.specs.RowSets.{no_items}
use Rattle.earleyitems.specs.Charts.{IsFirst}
use Rattle.earley.specs.RowCharts.{row_views}
use Rattle.earley.specs.RowItems.{Gains}
use Rattle.earley.proofs.RowWorklistLemmas.{begun_rows, filled_rows, length_no}
use Rattle.earley.proofs.row_chart.next_set.Goals as goal

-- what two clauses say of one value
ok_both : {T E : Type 0} (r : Result T E) (P Q : T → Type 0) → IfOk r P → IfOk r Q → IfOk r (λ x. P x × Q x)
ok_both (Ok x) P Q p q = (p, q)
ok_both (Err e) P Q p q = tt

pub begin_rows-requires-clause-count : goal.begin_rows-requires-clause-count
begin_rows-requires-clause-count g c =
    let one = ap (λ v. length v.all) c.in_ok-set.ensures in
    let two = length_no c.len.result in
    let n = c.len.ensures in
    let ok = c.args.table.now.dots.ok.0 in
    omega (arith, one, two, n, ok)

pub fill_rows-requires-clause-begun : goal.fill_rows-requires-clause-begun
fill_rows-requires-clause-begun g c =
    let one = ap (λ v. length v.all) c.in_ok-set.ensures in
    let two = length_no c.len.result in
    let n = c.len.ensures in
    let ok = c.args.table.now.dots.ok.0 in
    let same : c.len.result ≡ length c.args.table.now.dots.items = omega (arith, n, ok) in (
      map g.L.Letter.number c.args.line.now,
      c.requires.built.held,
      begun_rows c.args.table.now.flat.value c.requires.exact.targets c.requires.exact.nulls
          (map g.L.Letter.number c.args.line.now) (row_views c.args.table.now.dots.items c.args.filled.now.sets.items)
          c.requires.built.held c.args.table.now.dots.items c.in_ok-set.set c.begin_rows.new.set
          (c.in_ok-set.ensures ∙ ap (λ v. no_items v) same) (omega (arith, one, two, n, ok)) c.requires.built
          (subst (λ v. Gains c.args.table.now.dots.items (IsFirst c.args.table.now.flat.value
          (map g.L.Letter.number c.args.line.now) (row_views c.args.table.now.dots.items v)) c.in_ok-set.set
          c.begin_rows.new.set) c.deref.ensures.value c.in_ok-begin_rows.ensures),
    )

pub returns-clause-size : goal.returns-clause-size
returns-clause-size g c = IfOk-weaker c.kept_rows.result _ _
    (λ kept size. size c.args.table.now.dots.items (sym c.in_ok-fill_rows.ensures.count)) c.kept_rows.ensures.size

pub returns-clause-built : goal.returns-clause-built
returns-clause-built g c =
    let one = ap (λ v. length v.all) c.in_ok-set.ensures in
    let two = length_no c.len.result in
    let n = c.len.ensures in
    let ok = c.args.table.now.dots.ok.0 in
    let same : c.len.result ≡ length c.args.table.now.dots.items = omega (arith, n, ok) in
    let begun = begun_rows c.args.table.now.flat.value c.requires.exact.targets c.requires.exact.nulls
    (map g.L.Letter.number c.args.line.now) (row_views c.args.table.now.dots.items c.args.filled.now.sets.items)
    c.requires.built.held c.args.table.now.dots.items c.in_ok-set.set c.begin_rows.new.set
    (c.in_ok-set.ensures ∙ ap (λ v. no_items v) same) (omega (arith, one, two, n, ok)) c.requires.built
    (subst (λ v. Gains c.args.table.now.dots.items (IsFirst c.args.table.now.flat.value
    (map g.L.Letter.number c.args.line.now) (row_views c.args.table.now.dots.items v)) c.in_ok-set.set
    c.begin_rows.new.set) c.deref.ensures.value c.in_ok-begin_rows.ensures) in
    MatchResult-weaker c.kept_rows.result
    (ok_both c.kept_rows.result _ _ c.kept_rows.ensures.rows c.kept_rows.ensures.ascend) (λ kept is.
    filled_rows c.args.table.now.flat.value c.requires.exact.targets c.requires.exact.nulls
    (map g.L.Letter.number c.args.line.now) (row_views c.args.table.now.dots.items c.args.filled.now.sets.items)
    c.requires.built.held c.args.table.now.dots.items c.begin_rows.new.set c.fill_rows.new.set
    kept.rows.items c.requires.table.different c.requires.built is.0 is.1
    (subst (λ v. Gains c.args.table.now.dots.items (IsFirst c.args.table.now.flat.value
    (map g.L.Letter.number c.args.line.now) (row_views c.args.table.now.dots.items v)) c.in_ok-set.set
    c.begin_rows.new.set) c.deref.ensures.value c.in_ok-begin_rows.ensures).all c.in_ok-fill_rows.ensures.keeps
    (c.in_ok-fill_rows.ensures.worklist (map g.L.Letter.number c.args.line.now) c.requires.built.held begun)
    c.in_ok-fill_rows.ensures.none) (λ _ _. tt)
