use Rattle.std.proofs.Common.{◌<◌, ◌≤◌, ◌≡◌, [], ⊎_elim, Some, length, refl, ap, sym, ◌∙◌, subst, arith}
use Rattle.std.proofs.lemmas.Bool.{cases_lt}
use Rattle.std.proofs.lemmas.Option.{slice_get-get_or}
use Rattle.earley.specs.RowIndexes.{rows_at, rows_or}
use Rattle.earley.specs.RowItems.{Gains, IsAfterCall}
use Rattle.earley.proofs.IsAfterInLemmas.{each_none, each_next, each_more}
use Rattle.earley.proofs.row_step.complete_each.Goals as goal

pub loop-from-init : goal.loop-from-init
loop-from-init c = record {
  count = refl;
  within = omega arith;
  gains = λ dots. each_none dots c.args.call c.args.sets.now c.args.row.now c.args.set.now;
}

pub advance_call-requires : goal.advance_call-requires
advance_call-requires c =
    subst (λ v. c.args.call.after < v) (sym c.loop-from.invariant.count) c.requires

pub loop-from-preserved : goal.loop-from-preserved
loop-from-preserved c =
    let lt : c.in-Some.origin < length c.args.sets.now = (let t = c.if-origin-sets.false in omega (arith, t)) in
    let there : rows_at c.args.sets.now c.in-Some.origin ≡ c.index-sets-origin.result.rows.items =
    ap (λ v. rows_or v) (slice_get-get_or c.args.sets.now c.in-Some.origin c.index-sets-origin.result lt
    ∙ ap Some (sym c.index-sets-origin.is)) in
    record {
      count = (c.in_ok-advance_call.ensures []).count ∙ c.loop-from.invariant.count;
      within = omega (arith, lt);
      gains = λ dots. each_next dots c.args.call c.args.sets.now c.args.row.now c.args.set.now c.loop-from.from
          c.in-Some.origin c.loop-from.set c.advance_call.new.set c.in-Some.ensures.found.0 c.in-Some.ensures.found.1
          c.in-Some.ensures.first (c.loop-from.invariant.gains dots)
          (subst (λ v. Gains dots (IsAfterCall dots c.args.call v) c.loop-from.set c.advance_call.new.set)
          (c.deref.ensures.value ∙ (ap (λ v. v.rows.items) (sym c.index-sets-origin.is) ∙ sym there))
          (c.in_ok-advance_call.ensures dots));
    }

pub returns : goal.returns
returns c dots = each_more dots c.args.call c.args.sets.now c.args.row.now c.args.set.now c.loop-from.from
    (length c.args.sets.now) c.loop-from.set
    (λ k has lt. let over = c.loop-from-test.false in omega (arith, lt, over)) c.loop-from.invariant.within
    (c.loop-from.invariant.gains dots)

pub returns-in_default : goal.returns-in_default
returns-in_default c dots = each_more dots c.args.call c.args.sets.now c.args.row.now c.args.set.now c.loop-from.from
    (length c.args.sets.now) c.loop-from.set (λ k has lt. c.in_default.ensures.none k has)
    c.loop-from.invariant.within (c.loop-from.invariant.gains dots)

pub returns-then-origin-sets : goal.returns-then-origin-sets
returns-then-origin-sets c dots = each_more dots c.args.call c.args.sets.now c.args.row.now c.args.set.now
    c.loop-from.from (length c.args.sets.now) c.loop-from.set
    (λ k has lt. ⊎_elim (λ low. low)
    (λ past. let least = c.in-Some.ensures.first k has past in
    let over : length c.args.sets.now ≤ c.in-Some.origin = c.if-origin-sets.true in
    absurd (omega (arith, least, over, lt)))
    (cases_lt k c.loop-from.from)) c.loop-from.invariant.within (c.loop-from.invariant.gains dots)
