use Rattle.std.proofs.Common.{◌≡◌, ℕ, zero, suc, ◌-◌, ◌<◌, ◌≤◌, List, [], ◌∷◌, ◌++◌, ◌∙◌, replicate, sym, ap, arith}
use Rattle.std.proofs.Common.{append_assoc, append-nil}
use Rattle.abnftexts.proofs.printed.push_empty.Goals as goal

one-pushed : (old new all : List ℕ) (n : ℕ) → 0 < n → new ≡ old ++ 10 ∷ [] → old ++ replicate n 10 ≡ all
    → new ++ replicate (n - 1) 10 ≡ all
one-pushed old new all zero lt more h = absurd (omega (arith, lt))
one-pushed old new all (suc n) lt more h =
    let left : suc n - 1 ≡ n = omega arith in
    ap (λ (k : ℕ). new ++ replicate k 10) left ∙ ap (λ (z : List ℕ). z ++ replicate n 10) more
    ∙ append_assoc old (10 ∷ []) (replicate n 10) ∙ h

none-left : (new all : List ℕ) (n : ℕ) → n ≤ 0 → new ++ replicate n 10 ≡ all → new ≡ all
none-left new all zero le h = sym (append-nil new) ∙ h
none-left new all (suc n) le h = absurd (omega (arith, le))

pub loop-left-preserved : goal.loop-left-preserved
loop-left-preserved c = one-pushed c.loop-left.out.items _ _ c.loop-left.left c.loop-left-test.true
    c.in_ok-push.ensures.items c.loop-left.invariant

pub returns : goal.returns
returns c = none-left c.loop-left.out.items _ c.loop-left.left c.loop-left-test.false c.loop-left.invariant
