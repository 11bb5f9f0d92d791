-- Where the machine ends, it has made an evaluation.
-- Serves: steps_run, Packrat::match_unit
use Rattle.std.proofs.Common.{◌≡◌, ℕ, ◌+◌, Bool, true, false, List, [], ◌∷◌, ◌++◌, refl, sym, subst}
use Rattle.std.proofs.Common.{arith}
use Rattle.memo.specs.Parts.{IsIn}
use Rattle.memo.specs.Run.{Run, run_stored, run_key, run_plain, RunAll, run_none, run_more, total}
use Rattle.packrat.specs.MachineSteps.{Level, State, Asks, Works, store, Step, step_stored, step_begin}
use Rattle.packrat.specs.MachineSteps.{step_next, step_last}
use Rattle.packrat.specs.MachineSteps.{Steps, steps_none, steps_more, start_at}

module _ (V : Type 0) (Kids : V → List V → Type 0) (Next : V → List V → V → Type 0) (key : V → Bool) (weight : V → ℕ)
  where
    abbrev R : List V → V → List V → ℕ → Type 0
    R old a new c = Run V Kids key weight old a new c

    abbrev RA : List V → List V → List V → ℕ → Type 0
    RA old ks new c = RunAll V Kids key weight old ks new c

    abbrev T : List V → ℕ
    T xs = total V Kids key weight xs

    abbrev Fresh : V → List V → Type 0
    Fresh a old = key a ≡ true → IsIn a old → ⊥

    run_as : {old new : List V} {a : V} {c d : ℕ} → c ≡ d → R old a new c → R old a new d
    run_as {old = old} {new = new} {a = a} is r = subst (R old a new) is r

    all_as : {old new ks : List V} {c d : ℕ} → c ≡ d → RA old ks new c → RA old ks new d
    all_as {old = old} {new = new} {ks = ks} is r = subst (RA old ks new) is r

    run_snoc : {ks old mid new : List V} {b : V} {c d : ℕ} → RA old ks mid c → R mid b new d
        → RA old (ks ++ b ∷ []) new (c + d)
    run_snoc run_none r = all_as (omega arith) (run_more r run_none)
    run_snoc (run_more s t) r = all_as (omega arith) (run_more s (run_snoc t r))

    run_of : {a : V} {old mid ks : List V} {d : ℕ} → Fresh a old → Kids a ks → RA old ks mid d
        → R old a (store V (key a) a mid) (weight a + d)
    run_of {a = a} {old = old} {mid = mid} {ks = ks} {d = d} fresh k r = by (key a) refl
      where
        by : (v : Bool) → key a ≡ v → R old a (store V v a mid) (weight a + d)
        by true is = run_key is (fresh is) k r
        by false is = run_plain is k r

    module _ (root : V) where
      -- what has run before the vertex that the levels wait for
      abbrev pub Waits : List (Level V) → V → List V → ℕ → Type 0
      Waits [] b st c = (b ≡ root) × (st ≡ []) × (c ≡ 0)
      Waits (f ∷ fs) b st c = (old : List V) × (before : List V) × (m : ℕ) × (d : ℕ) × (f.asked ≡ before ++ b ∷ [])
          × Fresh f.at old × RA old before st d × (c ≡ m + (weight f.at + d)) × Waits fs f.at old m

      abbrev pub Working : List (Level V) → List V → ℕ → Type 0
      Working [] st c = R [] root st c
      Working (f ∷ fs) st c = (old : List V) × (m : ℕ) × (d : ℕ) × Fresh f.at old × RA old f.asked st d
          × (c ≡ m + (weight f.at + d)) × Waits fs f.at old m

      abbrev pub Standing : State V → Type 0
      Standing (Asks b h) = Waits h.levels b h.stored (T h.begun)
      Standing (Works h) = Working h.levels h.stored (T h.begun)

      run_answered : (fs : List (Level V)) (b : V) (old new : List V) (c d e : ℕ) → Waits fs b old c → R old b new d
          → e ≡ c + d → Working fs new e
      run_answered [] b old new c d e w r is =
          let none = w.2 in
          run_as (omega (arith, none, is)) (subst (λ v. R v root new d) w.1 (subst (λ v. R old v new d) w.0 r))
      run_answered (f ∷ fs) b old new c d e w r is =
          let one = w.7 in (
            w.0,
            w.2,
            w.3 + d,
            w.5,
            subst (λ v. RA w.0 v new (w.3 + d)) (sym w.4) (run_snoc w.6 r),
            omega (
              arith,
              one,
              is,
            ),
            w.8,
          )

      stand_on : {s t : State V} → Step V Kids Next key s t → Standing s → Standing t
      stand_on (step_stored {b = b} {fs = fs} {st = st} {bg = bg} t i) w =
          run_answered fs b st st (T bg) 0 (T bg) w (run_stored t i) (omega arith)
      stand_on (step_begin {b = b} {fs = fs} {st = st} {bg = bg} fresh) w =
          (st, T bg, 0, fresh, run_none, omega arith, w)
      stand_on (step_next {a = a} {k = k} {asked = asked} n) w =
          (w.0, asked, w.1, w.2, refl, w.3, w.4, w.5, w.6)
      stand_on (step_last {a = a} {asked = asked} {st = st} {bg = bg} {fs = fs} k) w =
          let is = w.5 in
          run_answered fs a w.0 (store V (key a) a st) w.1 (weight a + w.2) (T bg) w.6 (run_of w.3 k w.4) (omega
          (arith, is))

      steps_stand : {s : State V} → Steps V Kids Next key (start_at V root) s → Standing s
      steps_stand steps_none = (refl, refl, refl)
      steps_stand (steps_more r t) = stand_on t (steps_stand r)

      pub run_of_steps : (st bg : List V)
          → Steps V Kids Next key (start_at V root) (Works (record { levels = []; stored = st; begun = bg }))
          → R [] root st (T bg)
      run_of_steps st bg s = steps_stand s
