use Rattle.std.proofs.Common.{◌≡◌, ◌⊎◌, inl, inr, ℕ, ◌+◌, ◌<◌, ◌≤◌, true, false, get_or, Some, sym, subst, ◌∙◌}
use Rattle.std.proofs.Common.{arith}
use Rattle.std.proofs.lemmas.Bool.{cases_lt}
use Rattle.std.proofs.lemmas.Option.{slice_get_within, slice_get-get_or}
use Rattle.std.specs.Prelude.{slice_get}
use Rattle.matchfailure.proofs.tasks.runs.end_of_run.Goals as goal

pub loop-end-preserved : goal.loop-end-preserved
loop-end-preserved c = record {
  low = let low = c.loop-end.invariant.low in omega (arith, low);
  taken = λ r low high. by r low high (cases_lt r c.loop-end.end);
}
  where
    by : (r : ℕ) → c.args.from ≤ r → r < c.loop-end.end + 1 → (r < c.loop-end.end) ⊎ (c.loop-end.end ≤ r)
        → (b : ℕ) × (slice_get c.args.window.now r ≡ Some b) × (get_or c.args.set.now b false ≡ true)
    by r low high (inl before) = c.loop-end.invariant.taken r low before
    by r low high (inr from) =
        let same : c.loop-end.end ≡ r = omega (arith, high, from) in
        subst (λ v. (b : ℕ) × (slice_get c.args.window.now v ≡ Some b) × (get_or c.args.set.now b false ≡ true)) same (
          get_or c.args.window.now c.loop-end.end 0,
          slice_get-get_or c.args.window.now c.loop-end.end 0 (let lt = c.loop-end-test.true in omega (arith, lt)),
          sym c.has.ensures ∙ c.if-not-has.false,
        )

pub returns-clause-stops : goal.returns-clause-stops
returns-clause-stops c b at = let lt = slice_get_within c.args.window.now _ b at in absurd (omega (arith, lt))
