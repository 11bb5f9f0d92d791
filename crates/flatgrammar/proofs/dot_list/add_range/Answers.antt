use Rattle.std.proofs.Common.{◌∙◌, ◌≡◌, ◌<◌, ◌≤◌, ◌+◌, ◌⊎◌, ◌↔◌, ⊎_elim, inl, inr, ℕ, arith}
use Rattle.std.proofs.Common.{length, length-set, refl, set}
use Rattle.std.proofs.lemmas.Bool.{cases_lt}
use Rattle.flatgrammar.specs.Flat.{Has, Between}
use Rattle.flatgrammar.proofs.DotListLemmas.{none_added, added_as, added_at, added_twice}
use Rattle.flatgrammar.proofs.dot_list.add_range.Goals as goal

-- the letters from low to high that are below k
abbrev Below : ℕ → ℕ → ℕ → ℕ → Type 0
Below low high k i = (low ≤ i) × (i ≤ high) × (i < k)

below_next : (low high k : ℕ) → low ≤ k → k ≤ high → (i : ℕ)
    → (Below low high k i ⊎ (i ≡ k)) ↔ Below low high (k + 1) i
below_next low high k from to i = (join, split)
  where
    join : Below low high k i ⊎ (i ≡ k) → Below low high (k + 1) i
    join (inl h) = let lt = h.2 in (h.0, h.1, omega (arith, lt))
    join (inr same) = (omega (arith, from, same), omega (arith, to, same), omega (arith, same))

    split : Below low high (k + 1) i → Below low high k i ⊎ (i ≡ k)
    split h = let lt = h.2 in
        ⊎_elim (λ less. inl (h.0, h.1, less)) (λ le. inr (omega (arith, lt, le))) (cases_lt i k)

pub loop-value-init : goal.loop-value-init
loop-value-init c = record {
  count = refl;
  added = none_added (Below c.args.low c.args.high c.args.low) c.args.dot c.args.lists.now.items
      (λ i h. let le = h.0 in let lt = h.2 in omega (arith, le, lt));
}

pub loop-value-preserved : goal.loop-value-preserved
loop-value-preserved c =
    let old = c.args.lists.now.items in
    let lists = c.loop-value.lists.items in
    let k = c.loop-value.value in
    let until = Below c.args.low c.args.high in
    let t = c.loop-value-test.true in
    let e = c.min-end.ensures in
    let l = c.len.ensures in
    let n = c.loop-value.invariant.count in
    let o = c.args.lists.now.ok.0 in
    let within : k < length lists = omega (arith, t, e, l, n, o) in
    let to : k ≤ c.args.high = omega (arith, t, e) in
    let there = added_at c.args.dot lists k c.index_mut.result.now c.push.new.self c.index_mut.ensures.value within
    c.in_ok-push.ensures.items in
    record {
      count = length-set lists k c.push.new.self ∙ n;
      added = added_as (λ i. until k i ⊎ (i ≡ k)) (until (k + 1)) c.args.dot old (set lists k c.push.new.self)
          (λ i lt. below_next c.args.low c.args.high k c.loop-value.auto.value to i)
          (added_twice (until k) (λ i. i ≡ k) c.args.dot old lists (set lists k c.push.new.self)
          (λ i h same. let less = h.2 in omega (arith, less, same)) c.loop-value.invariant.added there);
    }

pub returns : goal.returns
returns c = added_as (Below c.args.low c.args.high c.loop-value.value) (Has (Between c.args.low c.args.high)) c.args.dot
    c.args.lists.now.items c.loop-value.lists.items
    (λ i lt. (
      (λ h. (h.0, h.1)),
      (λ h. let to = h.1 in let f = c.loop-value-test.false in let e = c.min-end.ensures in let l = c.len.ensures in
          let n = c.loop-value.invariant.count in let o = c.args.lists.now.ok.0 in
          (h.0, h.1, omega (arith, lt, to, f, e, l, n, o))),
    ))
    c.loop-value.invariant.added
