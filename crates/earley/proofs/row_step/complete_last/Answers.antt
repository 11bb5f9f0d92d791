-- The greatest number's set, if it is there.
use Rattle.std.proofs.Common.{◌<◌, ◌≡◌, Some, ap, length, sym, ◌∙◌, subst, arith}
use Rattle.std.proofs.lemmas.Option.{slice_get-get_or}
use Rattle.earley.specs.RowIndexes.{rows_at, rows_or}
use Rattle.earley.specs.RowItems.{Gains, IsAfterCall}
use Rattle.earley.proofs.IsAfterInLemmas.{last_none, last_past, last_added}
use Rattle.earley.proofs.row_step.complete_last.Goals as goal

pub returns-in_default : goal.returns-in_default
returns-in_default c dots = last_none dots c.args.call c.args.sets.now c.args.row.now c.args.set.now c.args.set.now
    c.in_default.ensures.none

pub returns-then-origin-sets : goal.returns-then-origin-sets
returns-then-origin-sets c dots = last_past dots c.args.call c.args.sets.now c.args.row.now c.args.set.now
    c.args.set.now c.in-Some.origin c.in-Some.ensures.found c.if-origin-sets.true

pub returns : goal.returns
returns c dots =
    let lt : c.in-Some.origin < length c.args.sets.now = (let t = c.if-origin-sets.false in omega (arith, t)) in
    let there : rows_at c.args.sets.now c.in-Some.origin ≡ c.index-sets-origin.result.rows.items =
    ap (λ v. rows_or v) (slice_get-get_or c.args.sets.now c.in-Some.origin c.index-sets-origin.result lt
    ∙ ap Some (sym c.index-sets-origin.is)) in
    last_added dots c.args.call c.args.sets.now c.args.row.now c.args.set.now c.advance_call.new.set
    c.in-Some.origin c.in-Some.ensures.found c.in-Some.ensures.last lt
    (subst (λ v. Gains dots (IsAfterCall dots c.args.call v) c.args.set.now c.advance_call.new.set)
    (c.deref.ensures.value ∙ (ap (λ v. v.rows.items) (sym c.index-sets-origin.is) ∙ sym there))
    (c.in_ok-advance_call.ensures dots))
