use Rattle.std.proofs.Common.{◌≡◌, ◌⊎◌, inl, inr, ℕ, ◌≤◌, arith, subst, sym, Option, Some}
use Rattle.std.specs.Prelude.{IfSome}
use Rattle.rulelines.specs.declared.list.lots.Choice.{Choice}
use Rattle.rulelines.proofs.list.random.draw_length.Goals as goal
use Rattle.rulelines.proofs.list.random.draw_length.Goals.{in-Some-true, in-Some-false}

abbrev IsWithin : ℕ → Option ℕ → Type 0
IsWithin most number = IfSome number (λ length. length ≤ most)

offered_within : (most n : ℕ) (old new : Option ℕ) → n ≤ most → IsWithin most old
    → (new ≡ old) ⊎ (new ≡ Some n) → IsWithin most new
offered_within most n old new le h (inl same) = subst (λ v. IsWithin most v) (sym same) h
offered_within most n old new le h (inr same) = subst (λ v. IsWithin most v) (sym same) le

pub loop-length-preserved : goal.loop-length-preserved
loop-length-preserved c = elim c.if-can_end.branch [
  | in-Some-true w ↦ subst (λ (v : Choice). IsWithin c.args.limit v.number) (sym w.choice-is)
      (offered_within c.args.limit c.loop-length.length c.loop-length.choice.number w.offer-choice.result.number
      (let lt = c.loop-length-test.true in omega (arith, lt)) c.loop-length.invariant w.offer-choice.ensures)
  | in-Some-false w ↦ subst (λ (v : Choice). IsWithin c.args.limit v.number) (sym w.choice-is) c.loop-length.invariant
]
