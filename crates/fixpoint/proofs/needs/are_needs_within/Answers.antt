use Rattle.std.proofs.Common.{◌≡◌, ◌<◌, arith, get_or, refl, sym, subst, ◌∙◌, ⊎_elim, Contains, Some}
use Rattle.std.proofs.lemmas.Bool.{cases_eq}
use Rattle.std.proofs.lemmas.Option.{slice_get_within}
use Rattle.std.specs.Prelude.{slice_get}
use Rattle.fixpoint.specs.Demands.{demand_of, demands_of, row_of}
use Rattle.fixpoint.proofs.RowsOfLemmas as b
use Rattle.fixpoint.proofs.needs.are_needs_within.Goals as goal

pub returns-then-not-are_below : goal.returns-then-not-are_below
returns-then-not-are_below c = (
  λ e. absurd (cc e),
  λ h.
      let size = b.length-demands c.args.needs.now in
      let no = c.if-not-are_below.true in
      let below = λ (m : _) (k : Contains c.row.result.now m). subst (λ v. m < v) size
      (h.within c.loop-need.need-index m _ (b.demand_at _ _ c.loop-need-test.true)
      (subst (λ v. Contains v m) c.row.ensures k)) in
      let yes = c.are_below.ensures.1 below in
      cc (no, yes),
)

pub loop-need-preserved : goal.loop-need-preserved
loop-need-preserved c = λ n m need lt at h. ⊎_elim
    (λ is.
    let size = b.length-demands c.args.needs.now in
    let here = b.demand_at _ _ c.loop-need-test.true in
    let there : slice_get (demands_of c.args.needs.now) c.loop-need.need-index ≡ Some need =
    subst (λ v. slice_get (demands_of c.args.needs.now) v ≡ Some need) is at in
    let same : need ≡ demand_of (get_or c.args.needs.now c.loop-need.need-index b.no_need) = cc (sym there ∙ here) in
    let row = subst (λ v. Contains (row_of v) m) same h in
    let below = c.are_below.ensures.0 c.if-not-are_below.false m (subst (λ v. Contains v m) (sym c.row.ensures) row) in
    omega (arith, size, below))
    (λ ne. c.loop-need.invariant n m need (omega (arith, lt, ne)) at h)
    (cases_eq n c.loop-need.need-index)

pub returns : goal.returns
returns c = (
  λ _. record {
    within = λ n m need at h.
        let lt = slice_get_within (demands_of c.args.needs.now) n need at in
        let size = b.length-demands c.args.needs.now in
        let end = c.loop-need-test.false in
        c.loop-need.invariant n m need (omega (arith, lt, size, end)) at h;
  },
  λ _. refl,
)
