use Rattle.std.proofs.Common.{inl, inr, subst, arith}
use Rattle.std.specs.Prelude.{slice_get, Some, ◌≡◌, ◌≤◌, ◌^◌}
use Rattle.flatgrammar.proofs.SliceGetLemmas.{push_cases}
use Rattle.lazydfa.proofs.transitions.add_transitions.Goals as goal

pub loop-preserved : goal.loop-preserved
loop-preserved c i word at =
    elim (push_cases c.loop.transitions.items _ i word
    (subst (λ v. slice_get v i ≡ Some word) c.in_ok-push.ensures.items at)) [
      | inl before ↦ c.loop.invariant i word before
      | inr last ↦ inr (subst (λ v. 2 ^ 31 ≤ v) last.1 (omega arith))
    ]
