use Rattle.std.proofs.Common.{refl, sym, subst, Contains}
use Rattle.std.proofs.lemmas.Bool.{both_ways}
use Rattle.std.proofs.lemmas.List.{take_all}
use Rattle.fixpoint.proofs.RowsOfLemmas as t
use Rattle.fixpoint.proofs.marks.some_marked.Goals as goal

pub bounds-marks-m : goal.bounds-marks-m
bounds-marks-m c = t.within_at _ _ _ c.requires c.loop-m-test.true

pub returns : goal.returns
returns c = (
  (λ e. absurd (both_ways _ refl e)),
  (λ f. absurd (c.loop-m.invariant f.0
      (subst (λ v. Contains v f.0) (sym (take_all c.loop-m.m-index c.args.these.now c.loop-m-test.false)) f.1) f.2)),
)
