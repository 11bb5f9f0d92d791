use Rattle.std.proofs.Common.{◌≡◌, sym, ◌∙◌, ap, subst, arith, Some}
use Rattle.std.proofs.lemmas.Option.{slice_get-get_or}
use Rattle.std.specs.Prelude.{slice_get}
use Rattle.rulelines.specs.CutSearch.{state_pair}
use Rattle.rulelines.specs.Search.{state_at}
use Rattle.rulelines.specs.StackSets.{AsksMore}
use Rattle.rulelines.proofs.CutSearchLemmas.{at_state, covered_by}
use Rattle.rulelines.proofs.cuts.is_covered.Goals as goal

pub returns-then-is_within : goal.returns-then-is_within
returns-then-is_within c = λ _ p at_p sound.
    let olds = c.args.search.now.olds in
    let news = c.args.search.now.news in
    let items = c.args.search.now.pairs.items.items in
    let found = c.in-Some.pair.now in
    let other = c.in-Some-get.other.now in
    let at_found : slice_get items c.args.at ≡ Some found =
    subst (λ v. slice_get v c.args.at ≡ Some found) c.deref.ensures.value
    (slice_get-get_or c.deref.result.now c.args.at found
    (let t = c.in-Some.ensures.lookup.0 in grind (arith, t)) ∙ ap (λ v. Some v) (sym c.in-Some.ensures.lookup.1)) in
    let at_other : slice_get items c.loop-j.j ≡ Some other =
    subst (λ v. slice_get v c.loop-j.j ≡ Some other) c.deref-in-loop-j.ensures.value
    (slice_get-get_or c.deref-in-loop-j.result.now c.loop-j.j other
    (let t = c.in-Some-get.ensures.lookup.0 in grind (arith, t))
    ∙ ap (λ v. Some v) (sym c.in-Some-get.ensures.lookup.1)) in
    let same : found ≡ p = cc (at_found, at_p) in
    let within = c.is_within.ensures (state_at news other.new) (state_at news found.new)
    (at_state news other.new (sound c.loop-j.j other at_other).new_within)
    (at_state news found.new (sound c.args.at found at_found).new_within) c.if-is_within.true in (
      c.loop-j.j,
      other,
      c.loop-j-test.true,
      at_other,
      subst (λ v. AsksMore (state_pair olds news other) (state_pair olds news v)) same
          (covered_by olds news other found c.if-other-pair.true within),
    )
