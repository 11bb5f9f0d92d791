use Rattle.std.proofs.Common.{◌≡◌, sym, ◌∙◌, ap, arith, subst}
use Rattle.std.specs.Prelude.{slice_get, Some}
use Rattle.std.proofs.lemmas.Option.{slice_get-get_or}
use Rattle.rulelines.specs.Starts.{IsLastUpTo}
use Rattle.rulelines.proofs.StateTableLemmas.{step_reported}
use Rattle.rulelines.proofs.list.table.step.Goals as goal

pub returns : goal.returns
returns c =
    let table = c.args.table.now in
    step_reported table c.requires.table c.args.symbol c.args.state c.in_ok-class.class c.in_ok-next.next.now
    c.in_ok-row.row.now (sym c.has.ensures ∙ c.if-not-has.false)
    (subst (λ v. IsLastUpTo table.starts.items v c.in_ok-class.class) c.key_of.ensures
    (subst (λ v. IsLastUpTo v c.key_of.result c.in_ok-class.class) c.deref.ensures.value c.in_ok-class.ensures))
    (subst (λ v. slice_get v c.args.state ≡ Some c.in_ok-row.row.now) c.deref-2.ensures.value
    (slice_get-get_or c.deref-2.result.now c.args.state c.in_ok-row.row.now
    (let t = c.in_ok-row.ensures.lookup.0 in grind (arith, t)) ∙ ap (λ v. Some v) (sym c.in_ok-row.ensures.lookup.1)))
    (subst (λ v. slice_get v c.in_ok-class.class ≡ Some c.in_ok-next.next.now) c.deref-3.ensures.value
    (slice_get-get_or c.deref-3.result.now c.in_ok-class.class c.in_ok-next.next.now
    (let t = c.in_ok-next.ensures.lookup.0 in grind (arith, t)) ∙ ap (λ v. Some v) (sym c.in_ok-next.ensures.lookup.1)))
