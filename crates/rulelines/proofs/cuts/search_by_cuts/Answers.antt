use Rattle.std.proofs.Common.{◌≡◌, true, subst, sym, ◌∙◌, ap, arith}
use Rattle.std.specs.Prelude.{Some, slice_get}
use Rattle.std.proofs.lemmas.Option.{slice_get-get_or}
use Rattle.rulelines.specs.Search.{state_at}
use Rattle.flatgrammar.proofs.CallOfLemmas.{get_map}
use Rattle.rulelines.specs.CutSearch.{state_pair}
use Rattle.rulelines.specs.StackSets.{dead, leads, more}
use Rattle.rulelines.proofs.CutSearchLemmas.{at_state, cut_step, pairs_both, pairs_none}
use Rattle.rulelines.proofs.cuts.search_by_cuts.Goals as goal
use Rattle.rulelines.proofs.cuts.search_by_cuts.Goals.{else-has_ended-via-then-has_ended+else-not-has_ended}
use Rattle.rulelines.proofs.cuts.search_by_cuts.Goals.{else-has_ended-via-else-has_ended}

pub loop-at-init : goal.loop-at-init
loop-at-init c = (pairs_none c.args.search.now, λ s. s)

pub loop-at-preserved-then-is_dead : goal.loop-at-preserved-then-is_dead
loop-at-preserved-then-is_dead c = (
  c.loop-at.invariant.0,
  λ first.
      let olds = c.loop-at.search.olds in
      let news = c.loop-at.search.news in
      let items = c.loop-at.search.pairs.items.items in
      let p = c.in-Some.found.now in
      let s = c.loop-at.invariant.1 first in
      let at_n : slice_get items c.loop-at.at ≡ Some p =
      subst (λ v. slice_get v c.loop-at.at ≡ Some p) c.deref.ensures.value
      (slice_get-get_or c.deref.result.now c.loop-at.at p
      (let t = c.in-Some.ensures.lookup.0 in grind (arith, t)) ∙ ap (λ v. Some v) (sym c.in-Some.ensures.lookup.1)) in
      let there = s.sound c.loop-at.at p at_n in
      let old_at = at_state olds p.old there.old_within in
      let new_at = at_state news p.new there.new_within in
      let old_is = c.has_ended.ensures (state_at olds p.old) old_at in
      let agree : (state_at olds p.old).ended ≡ true → (state_at news p.new).ended ≡ true = λ ended.
      elim c.else-has_ended.branch [
        | else-has_ended-via-then-has_ended+else-not-has_ended w ↦
            sym (w.has_ended-then-has_ended.ensures (state_at news p.new) new_at) ∙ w.if-not-has_ended.false
        | else-has_ended-via-else-has_ended w ↦ absurd (let runs = w.if-has_ended.false in cc (old_is, ended, runs))
      ] in
      cut_step c.args.samples.now c.loop-at.search c.loop-at.search c.loop-at.at (pairs_none c.loop-at.search) s p at_n
      agree (dead ((c.is_dead.ensures (state_at olds p.old) old_at).0 c.if-is_dead.true)),
)

pub loop-at-preserved-then-is_covered : goal.loop-at-preserved-then-is_covered
loop-at-preserved-then-is_covered c = (
  c.loop-at.invariant.0,
  λ first.
      let olds = c.loop-at.search.olds in
      let news = c.loop-at.search.news in
      let items = c.loop-at.search.pairs.items.items in
      let p = c.in-Some.found.now in
      let s = c.loop-at.invariant.1 first in
      let at_n : slice_get items c.loop-at.at ≡ Some p =
      subst (λ v. slice_get v c.loop-at.at ≡ Some p) c.deref.ensures.value
      (slice_get-get_or c.deref.result.now c.loop-at.at p
      (let t = c.in-Some.ensures.lookup.0 in grind (arith, t)) ∙ ap (λ v. Some v) (sym c.in-Some.ensures.lookup.1)) in
      let there = s.sound c.loop-at.at p at_n in
      let old_at = at_state olds p.old there.old_within in
      let new_at = at_state news p.new there.new_within in
      let old_is = c.has_ended.ensures (state_at olds p.old) old_at in
      let agree : (state_at olds p.old).ended ≡ true → (state_at news p.new).ended ≡ true = λ ended.
      elim c.else-has_ended.branch [
        | else-has_ended-via-then-has_ended+else-not-has_ended w ↦
            sym (w.has_ended-then-has_ended.ensures (state_at news p.new) new_at) ∙ w.if-not-has_ended.false
        | else-has_ended-via-else-has_ended w ↦ absurd (let runs = w.if-has_ended.false in cc (old_is, ended, runs))
      ] in
      let g = c.is_covered.ensures c.if-is_covered.true p at_n s.sound in
      cut_step c.args.samples.now c.loop-at.search c.loop-at.search c.loop-at.at (pairs_none c.loop-at.search) s p at_n
      agree (more g.2 (get_map (state_pair olds news) items g.0 g.3) g.4),
)

pub loop-at-preserved-then-branch : goal.loop-at-preserved-then-branch
loop-at-preserved-then-branch c = (
  pairs_both _ _ _ c.loop-at.invariant.0 c.in_ok-cut_pair.ensures.more,
  λ first.
      let olds = c.loop-at.search.olds in
      let news = c.loop-at.search.news in
      let items = c.loop-at.search.pairs.items.items in
      let p = c.in-Some.found.now in
      let s = c.loop-at.invariant.1 first in
      let at_n : slice_get items c.loop-at.at ≡ Some p =
      subst (λ v. slice_get v c.loop-at.at ≡ Some p) c.deref.ensures.value
      (slice_get-get_or c.deref.result.now c.loop-at.at p
      (let t = c.in-Some.ensures.lookup.0 in grind (arith, t)) ∙ ap (λ v. Some v) (sym c.in-Some.ensures.lookup.1)) in
      let there = s.sound c.loop-at.at p at_n in
      let old_at = at_state olds p.old there.old_within in
      let new_at = at_state news p.new there.new_within in
      let old_is = c.has_ended.ensures (state_at olds p.old) old_at in
      let agree : (state_at olds p.old).ended ≡ true → (state_at news p.new).ended ≡ true = λ ended.
      elim c.else-has_ended.branch [
        | else-has_ended-via-then-has_ended+else-not-has_ended w ↦
            sym (w.has_ended-then-has_ended.ensures (state_at news p.new) new_at) ∙ w.if-not-has_ended.false
        | else-has_ended-via-else-has_ended w ↦ absurd (let runs = w.if-has_ended.false in cc (old_is, ended, runs))
      ] in
      cut_step c.args.samples.now c.loop-at.search c.cut_pair.new.search c.loop-at.at c.in_ok-cut_pair.ensures.more s p
      at_n agree (c.in_ok-cut_pair.ensures.cut c.if-branch.true c.args.samples.now p at_n s.sound),
)

pub returns-then-not-branch-clause-more : goal.returns-then-not-branch-clause-more
returns-then-not-branch-clause-more c =
    pairs_both _ _ _ c.loop-at.invariant.0
    (pairs_both _ _ _ c.in_ok-cut_pair.ensures.more c.in_ok-expand.ensures.more)

pub loop-at-preserved : goal.loop-at-preserved
loop-at-preserved c = (
  pairs_both _ _ _ c.loop-at.invariant.0
      (pairs_both _ _ _ c.in_ok-cut_pair.ensures.more c.in_ok-expand.ensures.more),
  λ first.
      let olds = c.loop-at.search.olds in
      let news = c.loop-at.search.news in
      let items = c.loop-at.search.pairs.items.items in
      let p = c.in-Some.found.now in
      let s = c.loop-at.invariant.1 first in
      let at_n : slice_get items c.loop-at.at ≡ Some p =
      subst (λ v. slice_get v c.loop-at.at ≡ Some p) c.deref.ensures.value
      (slice_get-get_or c.deref.result.now c.loop-at.at p
      (let t = c.in-Some.ensures.lookup.0 in grind (arith, t)) ∙ ap (λ v. Some v) (sym c.in-Some.ensures.lookup.1)) in
      let there = s.sound c.loop-at.at p at_n in
      let old_at = at_state olds p.old there.old_within in
      let new_at = at_state news p.new there.new_within in
      let old_is = c.has_ended.ensures (state_at olds p.old) old_at in
      let agree : (state_at olds p.old).ended ≡ true → (state_at news p.new).ended ≡ true = λ ended.
      elim c.else-has_ended.branch [
        | else-has_ended-via-then-has_ended+else-not-has_ended w ↦
            sym (w.has_ended-then-has_ended.ensures (state_at news p.new) new_at) ∙ w.if-not-has_ended.false
        | else-has_ended-via-else-has_ended w ↦ absurd (let runs = w.if-has_ended.false in cc (old_is, ended, runs))
      ] in
      let cut = c.in_ok-cut_pair.ensures.more in
      cut_step c.args.samples.now c.loop-at.search c.expand.new.search c.loop-at.at
      (pairs_both _ _ _ cut c.in_ok-expand.ensures.more) s p at_n agree
      (leads (c.in_ok-expand.ensures.leads c.if-not-branch.false p (cut.kept c.loop-at.at p at_n)
      (cut.sound s.sound))),
)
