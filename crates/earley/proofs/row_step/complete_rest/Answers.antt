-- Where all that the other sets have is there, only the greatest number's set counts.
use Rattle.std.proofs.Common.{◌<◌, ℕ, [], length, sym, subst}
use Rattle.earley.specs.RowSets.{HasAt}
use Rattle.earley.specs.RowIndexes.{IsAfterIn, IsAfterLast}
use Rattle.earley.specs.RowItems.{Gains}
use Rattle.earley.proofs.IsAfterInLemmas.{rest_none, rest_covered, rest_single, rest_added}
use Rattle.earley.proofs.RowStepLemmas.{found_at, missing_at}
use Rattle.earley.proofs.row_step.complete_rest.Goals as goal

pub returns-in_default : goal.returns-in_default
returns-in_default c positions indexed dots =
    let look = rw c.deref.ensures.value at c.in_default.ensures.lookup in
    rest_none dots positions c.args.filled.now indexed c.args.call c.args.row.now c.args.set.now
    (c.requires.own dots) (missing_at c.args.filled.now.rest.items c.args.call.from look.0)

pub returns-then-is_single : goal.returns-then-is_single
returns-then-is_single c positions indexed dots =
    let look = rw c.deref.ensures.value at c.in-Some.ensures.lookup in
    let last = subst (λ v. Gains dots (IsAfterLast dots c.args.call v c.in_ok-both.both (length v)) c.args.set.now
    c.complete_last.new.set) c.deref-2.ensures.value (c.in_ok-complete_last.ensures dots) in
    rest_single dots positions c.args.filled.now indexed c.args.call c.args.row.now c.args.set.now
    (c.requires.own dots) c.in-Some.rest.now c.in_ok-both.both
    (found_at c.args.filled.now.rest.items c.args.call.from c.in-Some.rest.now look.0 look.1) c.in_ok-both.ensures
    c.complete_last.new.set (c.is_single.ensures c.if-is_single.true) last

pub has_union-requires : goal.has_union-requires
has_union-requires c = subst (λ v. c.args.call.after < v) (sym (c.in_ok-complete_last.ensures []).count)
    c.requires.after

pub returns-then-has_union : goal.returns-then-has_union
returns-then-has_union c positions indexed dots =
    let look = rw c.deref.ensures.value at c.in-Some.ensures.lookup in
    let last = subst (λ v. Gains dots (IsAfterLast dots c.args.call v c.in_ok-both.both (length v)) c.args.set.now
    c.complete_last.new.set) c.deref-2.ensures.value (c.in_ok-complete_last.ensures dots) in
    let all = subst (λ v. (k : ℕ) → HasAt v c.args.call.from k → HasAt c.complete_last.new.set.all c.args.call.after k)
    c.deref-3.ensures.value (c.has_union.ensures c.if-has_union.true) in
    rest_covered dots positions c.args.filled.now indexed c.args.call c.args.row.now c.args.set.now
    (c.requires.own dots) c.in-Some.rest.now c.in_ok-both.both
    (found_at c.args.filled.now.rest.items c.args.call.from c.in-Some.rest.now look.0 look.1) c.in_ok-both.ensures
    c.complete_last.new.set last all

pub complete_each-requires : goal.complete_each-requires
complete_each-requires c = subst (λ v. c.args.call.after < v) (sym (c.in_ok-complete_last.ensures []).count)
    c.requires.after

pub returns : goal.returns
returns c positions indexed dots =
    let look = rw c.deref.ensures.value at c.in-Some.ensures.lookup in
    let last = subst (λ v. Gains dots (IsAfterLast dots c.args.call v c.in_ok-both.both (length v)) c.args.set.now
    c.complete_last.new.set) c.deref-2.ensures.value (c.in_ok-complete_last.ensures dots) in
    let each = subst (λ v. Gains dots (IsAfterIn dots c.args.call v c.in_ok-both.both (length v))
    c.complete_last.new.set c.complete_each.new.set) c.deref-4.ensures.value (c.in_ok-complete_each.ensures dots) in
    rest_added dots positions c.args.filled.now indexed c.args.call c.args.row.now c.args.set.now
    (c.requires.own dots) c.in-Some.rest.now c.in_ok-both.both
    (found_at c.args.filled.now.rest.items c.args.call.from c.in-Some.rest.now look.0 look.1) c.in_ok-both.ensures
    c.complete_last.new.set c.complete_each.new.set last each
