-- The rules with the line, and those that steps reach.
use Rattle.std.proofs.Common.{◌<◌, inl, inr, ⊎_elim, length, subst}
use Rattle.coverlines.proofs.needed.mark_rules.Goals as goal

pub reached-requires-clause-these : goal.reached-requires-clause-these
reached-requires-clause-these c = λ m among.
    let w = c.in_ok-roots.ensures m (rw c.deref.ensures.value at among) in
    subst (λ k. k < length c.args.steps.now) w.id_is (c.requires.lines w.one w.among)

pub returns-clause-marks : goal.returns-clause-marks
returns-clause-marks c = λ id is. ⊎_elim (λ old. inl old)
    (λ new.
    let r = (c.in_ok-more.ensures.marks id).0 (rw c.deref-2.ensures.value at new) in
    inr (record {
      root = r.0;
      has = c.in_ok-roots.ensures r.0 (rw c.deref.ensures.value at r.1);
      chain = r.2;
    })) (c.join_marks.ensures.marks id is)
