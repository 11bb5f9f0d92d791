use Rattle.std.proofs.Common.{◌<◌, arith, refl, sym, subst, ⊎_elim, Contains}
use Rattle.std.proofs.lemmas.Bool.{cases_eq}
use Rattle.fixpoint.specs.StepRows.{Step, slices_of}
use Rattle.fixpoint.proofs.RowsOfLemmas as b
use Rattle.fixpoint.proofs.IterationsLemmas as t
use Rattle.fixpoint.proofs.rows.are_within.Goals as goal

pub returns-then-not-are_below : goal.returns-then-not-are_below
returns-then-not-are_below c = (
  λ e. absurd (cc e),
  λ h.
      let row = b.slice_now _ _ c.loop-row-test.true in
      let rows = b.length-slices c.args.steps.now in
      let no = c.if-not-are_below.true in
      let yes = c.are_below.ensures.1
      (λ m k. subst (λ v. m < v) rows (h.within c.loop-row.row-index m (subst (λ v. Contains v m) (sym row) k))) in
      cc (no, yes),
)

pub loop-row-preserved : goal.loop-row-preserved
loop-row-preserved c = λ n m lt step. ⊎_elim
    (λ is.
    let row = b.slice_now _ _ c.loop-row-test.true in
    let rows = b.length-slices c.args.steps.now in
    let below = c.are_below.ensures.0 c.if-not-are_below.false m
    (subst (λ v. Contains v m) row (subst (λ v. Step (slices_of c.args.steps.now) v m) is step)) in
    omega (arith, rows, below))
    (λ ne. c.loop-row.invariant n m (omega (arith, lt, ne)) step)
    (cases_eq n c.loop-row.row-index)

pub returns : goal.returns
returns c = (
  λ _. record {
    within = λ n m step.
        let lt = t.row_within (slices_of c.args.steps.now) n m step in
        let rows = b.length-slices c.args.steps.now in
        let end = c.loop-row-test.false in
        c.loop-row.invariant n m (omega (arith, lt, rows, end)) step;
  },
  λ _. refl,
)
