-- The first symbols of all that are alike.
-- Serves: of_samples
use Rattle.std.proofs.Common.{◌≡◌, ◌⊎◌, inl, inr, ℕ, ◌<◌, ◌≤◌, List, length, sym, ap, subst, arith, ◌↔◌}
use Rattle.std.proofs.lemmas.Bool.{cases_lt}
use Rattle.std.proofs.lemmas.Option.{slice_get_within}
use Rattle.std.specs.Prelude.{Bool, true, Some, slice_get, Contains}
use Rattle.flatgrammar.specs.Flat.{Flat}
use Rattle.flatgrammar.specs.Stacks.{AreAlike}
use Rattle.lazydfa.proofs.StateSetsLemmas.{contained_at, got_at}
use Rattle.rulelines.specs.FirstLines.{sort_key}
use Rattle.abnfcheck.specs.NewSymbols.{AreNewTo}
use Rattle.rulelines.specs.SampleLines.{IsFirstOf}
use Rattle.rulelines.specs.Samples.{AreInLineOrder, AreKeysOf}
use Rattle.rulelines.specs.StatePairs.{AreSamples}
use Rattle.rulelines.proofs.ComesFirstLemmas.{one_key}

-- the symbols that are the first of those alike
module _ (flat : Flat) (has : ℕ → Bool) (alike : ℕ → ℕ → Type 0) (samples : List ℕ)
    (each : AreSamples flat flat has samples) (in_order : AreInLineOrder has samples)
    (finer : (c d : ℕ) → AreAlike flat c d → alike d c)
    (join : (b c d : ℕ) → alike b c → alike c d → alike b d) where
  -- of two samples the one with the lesser key is the earlier
  comes_earlier : (i j b c : ℕ) → slice_get samples i ≡ Some b → slice_get samples j ≡ Some c → sort_key b < sort_key c
      → i < j
  comes_earlier i j b c at_i at_j less = by (cases_lt i j) (cases_lt j i)
    where
      by : (i < j) ⊎ (j ≤ i) → (j < i) ⊎ (i ≤ j) → i < j
      by (inl lt) _ = lt
      by (inr le) (inl more) = absurd (let up = in_order.order j i c b more at_j at_i in omega (arith, up, less))
      by (inr le) (inr ge) =
          let here : i ≡ j = omega (arith, le, ge) in
          let at_b : slice_get samples j ≡ Some b = subst (λ v. slice_get samples v ≡ Some b) here at_i in
          let one : b ≡ c = cc (at_b, at_j) in
          absurd (let same = ap sort_key one in omega (arith, same, less))

  module _ (news : List ℕ) (are : AreNewTo alike samples (length samples) news) where
    new_first : (c : ℕ) → Contains news c → IsFirstOf has alike c
    new_first c h d symbol same = by (cases_lt (sort_key d) (sort_key c))
      where
        by : (sort_key d < sort_key c) ⊎ (sort_key c ≤ sort_key d) → sort_key c ≤ sort_key d
        by (inr le) = le
        by (inl less) =
            let g = are.only c h in
            let s = each d symbol in
            let le = s.order in
            let at_s = got_at samples s.sample s.is in
            absurd (g.2.apart s.is.0 s.sample
            (comes_earlier s.is.0 g.0 s.sample c at_s g.2.is (omega (arith, le, less))) at_s
            (join s.sample d c (finer d s.sample s.old_alike) same))

    first_new : (c : ℕ) → has c ≡ true → IsFirstOf has alike c → Contains news c
    first_new c symbol first =
        let s = each c symbol in
        let le = s.order in
        let ge = first s.sample (in_order.symbols s.sample s.is) (finer c s.sample s.old_alike) in
        let one : s.sample ≡ c = one_key s.sample c (omega (arith, le, ge)) in
        let at_c = subst (λ v. slice_get samples s.is.0 ≡ Some v) one (got_at samples s.sample s.is) in
        are.all s.is.0 c (slice_get_within samples s.is.0 c at_c) (record {
          is = at_c;
          apart = λ j b lt at_j same.
              let up = in_order.order j s.is.0 b c lt at_j at_c in
              let back = first b (in_order.symbols b (contained_at samples j b at_j)) same in
              omega (arith, up, back);
        })

    pub firsts_are : (in_all : ℕ → Bool) → ((c : ℕ) → has c ≡ true → in_all c ≡ true) → (keys : List ℕ)
        → AreKeysOf in_all news keys → (c : ℕ) → has c ≡ true → Contains keys (sort_key c) ↔ IsFirstOf has alike c
    firsts_are in_all wider keys is c symbol = (
      λ h. let g = is.only (sort_key c) h in
          new_first c (subst (λ v. Contains news v) (one_key g.0 c (sym g.3)) g.1),
      λ first. is.all c (first_new c symbol first) (wider c symbol),
    )
