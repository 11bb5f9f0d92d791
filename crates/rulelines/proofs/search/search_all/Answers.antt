use Rattle.std.proofs.Common.{◌≡◌, ◌+◌, true, subst, sym, ◌∙◌, ap, arith}
use Rattle.std.specs.Prelude.{Some, slice_get}
use Rattle.std.proofs.lemmas.Option.{slice_get-get_or}
use Rattle.flatgrammar.proofs.CallOfLemmas.{get_map}
use Rattle.rulelines.specs.Search.{AreSameGrammars, found_pair, IsExpanded, IsPairSearch, Searches, state_at}
use Rattle.rulelines.proofs.SearchLemmas.{new_there, old_there, search_agrees, search_skip}
use Rattle.rulelines.proofs.search.search_all.Goals as goal
use Rattle.rulelines.proofs.search.search_all.Goals.{else-has_ended-via-then-has_ended+else-not-has_ended}
use Rattle.rulelines.proofs.search.search_all.Goals.{else-has_ended-via-else-has_ended}
use Rattle.rulelines.proofs.search.search_all.Goals.{else-not-is_dead-via-then-not-is_dead+in_ok-expand+else-not-branch}
use Rattle.rulelines.proofs.search.search_all.Goals.{else-not-is_dead-via-else-not-is_dead}

pub returns-then-not-has_ended-clause-outcome : goal.returns-then-not-has_ended-clause-outcome
returns-then-not-has_ended-clause-outcome c = λ has in_order first.
    let olds = c.loop-at.search.olds in
    let news = c.loop-at.search.news in
    let items = c.loop-at.search.pairs.items.items in
    let p = c.in-Some.found.now in
    let s = c.loop-at.invariant.1 has in_order first in
    let at_n : slice_get items c.loop-at.at ≡ Some p =
    subst (λ v. slice_get v c.loop-at.at ≡ Some p) c.deref.ensures.value
    (slice_get-get_or c.deref.result.now c.loop-at.at p
    (let t = c.in-Some.ensures.lookup.0 in grind (arith, t)) ∙ ap (λ v. Some v) (sym c.in-Some.ensures.lookup.1)) in (
      s,
      record {
        entry = found_pair olds news p;
        is = get_map (found_pair olds news) items c.loop-at.at at_n;
        old_ended = sym (c.has_ended.ensures (state_at olds p.old)
            (old_there has c.args.samples.now olds news items c.loop-at.at 0 c.loop-at.at s c.loop-at.at p at_n))
            ∙ c.if-has_ended.true;
        new_runs = sym (c.has_ended-then-has_ended.ensures (state_at news p.new)
            (new_there has c.args.samples.now olds news items c.loop-at.at 0 c.loop-at.at s c.loop-at.at p at_n))
            ∙ c.if-not-has_ended.true;
      },
    )

pub returns-then-not-branch-clause-outcome : goal.returns-then-not-branch-clause-outcome
returns-then-not-branch-clause-outcome c = λ has in_order first.
    let olds = c.loop-at.search.olds in
    let news = c.loop-at.search.news in
    let items = c.loop-at.search.pairs.items.items in
    let p = c.in-Some.found.now in
    let s = c.loop-at.invariant.1 has in_order first in
    let at_n : slice_get items c.loop-at.at ≡ Some p =
    subst (λ v. slice_get v c.loop-at.at ≡ Some p) c.deref.ensures.value
    (slice_get-get_or c.deref.result.now c.loop-at.at p
    (let t = c.in-Some.ensures.lookup.0 in grind (arith, t)) ∙ ap (λ v. Some v) (sym c.in-Some.ensures.lookup.1)) in
    let old_is = c.has_ended.ensures (state_at olds p.old)
    (old_there has c.args.samples.now olds news items c.loop-at.at 0 c.loop-at.at s c.loop-at.at p at_n) in
    let there = new_there has c.args.samples.now olds news items c.loop-at.at 0 c.loop-at.at s c.loop-at.at p at_n in
    let agree : (state_at olds p.old).ended ≡ true → (state_at news p.new).ended ≡ true = λ ended.
    elim c.else-has_ended.branch [
      | else-has_ended-via-then-has_ended+else-not-has_ended w ↦
          sym (w.has_ended-then-has_ended.ensures (state_at news p.new) there) ∙ w.if-not-has_ended.false
      | else-has_ended-via-else-has_ended w ↦ absurd (let runs = w.if-has_ended.false in cc (old_is, ended, runs))
    ] in
    let now = search_agrees has c.args.samples.now olds news items c.loop-at.at s p at_n agree in
    let e = subst (λ v. IsExpanded v has c.args.samples.now c.expand.new.search c.loop-at.at (c.loop-at.at + 1))
    c.if-not-branch.true (c.in_ok-expand.ensures.expanded has (c.loop-at.at + 1) in_order now) in
    (e.0, c.loop-at.at + 1, omega arith, e.1)

pub loop-at-preserved : goal.loop-at-preserved
loop-at-preserved c = (
  same,
  λ has in_order first.
      let olds = c.loop-at.search.olds in
      let news = c.loop-at.search.news in
      let items = c.loop-at.search.pairs.items.items in
      let p = c.in-Some.found.now in
      let s = c.loop-at.invariant.1 has in_order first in
      let at_n : slice_get items c.loop-at.at ≡ Some p =
      subst (λ v. slice_get v c.loop-at.at ≡ Some p) c.deref.ensures.value
      (slice_get-get_or c.deref.result.now c.loop-at.at p
      (let t = c.in-Some.ensures.lookup.0 in grind (arith, t)) ∙ ap (λ v. Some v) (sym c.in-Some.ensures.lookup.1)) in
      let old_at = old_there has c.args.samples.now olds news items c.loop-at.at 0 c.loop-at.at s c.loop-at.at p at_n in
      let old_is = c.has_ended.ensures (state_at olds p.old) old_at in
      let there = new_there has c.args.samples.now olds news items c.loop-at.at 0 c.loop-at.at s c.loop-at.at p at_n in
      let agree : (state_at olds p.old).ended ≡ true → (state_at news p.new).ended ≡ true = λ ended.
      elim c.else-has_ended.branch [
        | else-has_ended-via-then-has_ended+else-not-has_ended w ↦
            sym (w.has_ended-then-has_ended.ensures (state_at news p.new) there) ∙ w.if-not-has_ended.false
        | else-has_ended-via-else-has_ended w ↦ absurd (let runs = w.if-has_ended.false in cc (old_is, ended, runs))
      ] in
      let now = search_agrees has c.args.samples.now olds news items c.loop-at.at s p at_n agree in
      elim c.else-not-is_dead.branch [
        | else-not-is_dead-via-then-not-is_dead+in_ok-expand+else-not-branch w ↦
            subst (λ v. Searches has c.args.samples.now v (c.loop-at.at + 1) 0 (c.loop-at.at + 1)) (sym w.search-is)
            (subst (λ v. IsExpanded v has c.args.samples.now w.expand.new.search c.loop-at.at (c.loop-at.at + 1))
            w.if-not-branch.false (w.in_ok-expand.ensures.expanded has (c.loop-at.at + 1) in_order now))
        | else-not-is_dead-via-else-not-is_dead w ↦
            subst (λ v. Searches has c.args.samples.now v (c.loop-at.at + 1) 0 (c.loop-at.at + 1)) (sym w.search-is)
            (search_skip has c.args.samples.now olds news items c.loop-at.at (c.loop-at.at + 1) now p at_n
            ((c.is_dead.ensures (state_at olds p.old) old_at).0 w.if-not-is_dead.false))
      ],
)
  where
    same : AreSameGrammars c.args.search.now c.else-not-is_dead.search
    same = elim c.else-not-is_dead.branch [
      | else-not-is_dead-via-then-not-is_dead+in_ok-expand+else-not-branch w ↦
          subst (λ v. AreSameGrammars c.args.search.now v) (sym w.search-is) (
            w.in_ok-expand.ensures.same.0 ∙ c.loop-at.invariant.0.0,
            w.in_ok-expand.ensures.same.1 ∙ c.loop-at.invariant.0.1,
          )
      | else-not-is_dead-via-else-not-is_dead w ↦
          subst (λ v. AreSameGrammars c.args.search.now v) (sym w.search-is) c.loop-at.invariant.0
    ]

pub returns-clause-outcome : goal.returns-clause-outcome
returns-clause-outcome c = λ has in_order first.
    let here : c.loop-at.at ≡ c.args.most = (let over = c.loop-at-test.false in let most = c.loop-at.auto.at-end in
    omega (arith, over, most)) in
    let s = subst (λ v. IsPairSearch has c.args.samples.now c.loop-at.search.olds c.loop-at.search.news
    c.loop-at.search.pairs.items.items v 0 v) here (c.loop-at.invariant.1 has in_order first) in
    (0, c.args.most, omega arith, s)
