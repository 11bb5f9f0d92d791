use Rattle.std.proofs.Common.{◌≡◌, ◌+◌, length, refl, subst, sym}
use Rattle.std.specs.Prelude.{IfSome, Some, slice_get}
use Rattle.lazydfa.specs.Transitions.{last_word}
use Rattle.lazydfa.proofs.IsTrackLemmas.{last_says, row_state}
use Rattle.lazydfa.proofs.run.ends_at.Goals as goal

pub returns-in-Some : goal.returns-in-Some
returns-in-Some c = λ tables memo s position got there.
    last_says tables c.args.samples.now c.args.memo.now memo c.args.row s position got there c.in-Some.ended
    (subst (λ v. slice_get v (c.args.row + length c.args.samples.now) ≡ Some (last_word c.in-Some.ended))
    c.deref.ensures.value
    (subst (λ v. IfSome v (λ ended. slice_get c.deref.result.now (c.args.row + length c.args.samples.now)
    ≡ Some (last_word ended))) c.in-Some.is c.end_of.ensures))

pub returns-in-None : goal.returns-in-None
returns-in-None c = λ tables memo s position got there.
    c.has_ended.ensures got
    (subst (λ v. slice_get c.args.memo.now.cache.states.items v ≡ Some got)
    (sym (row_state s c.args.row (length c.args.samples.now + 1) (length c.args.samples.now) refl position)) there)
