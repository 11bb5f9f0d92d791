use Rattle.std.proofs.Common.{◌≡◌, arith, subst, ⊎_elim}
use Rattle.std.proofs.lemmas.Bool.{cases_lt}
use Rattle.rulelines.specs.MissSearch.{found_states, IsStatePassed}
use Rattle.rulelines.proofs.miss.search.next_live.Goals as goal

pub returns-then-is_next : goal.returns-then-is_next
returns-then-is_next c = (
  c.loop-at.auto.at,
  (let lt = c.loop-at-test.true in let l = c.len-at-end.ensures in let o = c.args.search.now.pairs.items.ok.0 in
      omega (arith, lt, l, o)),
  c.is_next.ensures.live c.if-is_next.true,
  c.loop-at.invariant,
)

pub loop-at-preserved : goal.loop-at-preserved
loop-at-preserved c = λ i low lt.
    ⊎_elim (λ less. c.loop-at.invariant i low less) (λ more.
    let here : c.loop-at.at ≡ i = omega (arith, lt, more) in
    subst (λ v. IsStatePassed (found_states c.args.search.now) v) here
    (c.is_next.ensures.passed c.if-is_next.false
    (let below = c.loop-at-test.true in let l = c.len-at-end.ensures in let o = c.args.search.now.pairs.items.ok.0 in
    omega (arith, below, l, o)))) (cases_lt i c.loop-at.at)

pub returns : goal.returns
returns c = λ i low lt. c.loop-at.invariant i low
    (let over = c.loop-at-test.false in let l = c.len-at-end.ensures in let o = c.args.search.now.pairs.items.ok.0 in
    omega (arith, lt, over, l, o))
