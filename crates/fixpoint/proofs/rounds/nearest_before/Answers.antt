-- With one number more.
use Rattle.std.proofs.Common.{◌≡◌, Contains, false, true, refl, sym, subst}
use Rattle.fixpoint.proofs.RowsOfLemmas.{slice_now}
use Rattle.fixpoint.specs.StepRows.{slices_of}
use Rattle.fixpoint.proofs.RoundsLemmas.{nearest_kept, nearest_next, nearest_stays}
use Rattle.fixpoint.proofs.rounds.nearest_before.Goals.{then-leads_to+in-Some+then-is_nearer}
use Rattle.fixpoint.proofs.rounds.nearest_before.Goals.{then-leads_to+in-Some+else-is_nearer}
use Rattle.fixpoint.proofs.rounds.nearest_before.Goals.{then-leads_to+in_default, else-leads_to}
use Rattle.fixpoint.proofs.rounds.nearest_before.Goals as goal

pub loop-number-preserved : goal.loop-number-preserved
loop-number-preserved c =
    let rows = slices_of c.args.steps.now in
    let row = slice_now c.args.steps.now _ c.loop-number-test.true in
    let far = c.args.far.now in
    elim c.if-leads_to.branch [
      | then-leads_to+in-Some+then-is_nearer w ↦
          rw w.best-is (nearest_next rows c.args.from far c.loop-number.number w.in-Some.far c.loop-number.best
          ((w.in-Some.ensures w.in-Some.far).1 refl)
          (subst (λ v. Contains v c.args.from) (sym row) (w.if-leads_to.ensures.0 refl))
          (w.if-is_nearer.ensures.0 refl) c.loop-number.invariant)
      | then-leads_to+in-Some+else-is_nearer w ↦
          rw w.best-is (nearest_kept rows c.args.from far c.loop-number.number w.in-Some.far c.loop-number.best
          ((w.in-Some.ensures w.in-Some.far).1 refl)
          (λ less. let never : false ≡ true = w.if-is_nearer.ensures.1 less in cc) c.loop-number.invariant)
      | then-leads_to+in_default w ↦
          rw w.best-is (nearest_stays rows c.args.from far c.loop-number.number c.loop-number.best
          (λ m at step. let never = (w.in_default.ensures m).0 at in cc) c.loop-number.invariant)
      | else-leads_to w ↦
          rw w.best-is (nearest_stays rows c.args.from far c.loop-number.number c.loop-number.best
          (λ m at step. let never : false ≡ true = w.if-leads_to.ensures.1
          (subst (λ v. Contains v c.args.from) row step) in cc) c.loop-number.invariant)
    ]
