-- By one value more, and by all.
use Rattle.std.proofs.Common.{◌≡◌, ◌↔◌, ℕ, get_or, refl}
use Rattle.std.proofs.lemmas.Option.{get_or_from_slice_get, slice_get-get_or}
use Rattle.abnfcheck.proofs.AlikeSymbolsLemmas.{all_contained, all_more}
use Rattle.abnfcheck.proofs.alike.are_values_alike.Goals as goal

pub loop-value-preserved : goal.loop-value-preserved
loop-value-preserved c =
    let values = c.args.values.now in
    let n = c.loop-value.value-index in
    all_more (λ v. (c.args.pair.first ≡ v) ↔ (c.args.pair.second ≡ v)) values n (get_or values n 0)
    (slice_get-get_or values n 0 c.loop-value-test.true)
    (c.is_value_alike.ensures.0 c.if-not-is_value_alike.false) c.loop-value.invariant

pub returns-then-not-is_value_alike : goal.returns-then-not-is_value_alike
returns-then-not-is_value_alike c =
    let values = c.args.values.now in
    let n = c.loop-value.value-index in
    let value : ℕ = get_or values n 0 in
    let lt = c.loop-value-test.true in (
      λ yes. absurd (cc yes),
      λ all. absurd
          (let e = c.is_value_alike.ensures.1 (all value
          (n, lt, get_or_from_slice_get values n value value (slice_get-get_or values n 0 lt))) in
          let no = c.if-not-is_value_alike.true in cc (e, no)),
    )

pub returns : goal.returns
returns c = (
  λ _. all_contained (λ v. (c.args.pair.first ≡ v) ↔ (c.args.pair.second ≡ v)) c.args.values.now
      c.loop-value.value-index c.loop-value-test.false c.loop-value.invariant,
  λ _. refl,
)
