-- To each evaluation the machine comes, from wherever it stands; what it begins stands in front.
-- Serves: one_byte_decides, iterations_run, iterations_whole, steps_run, Packrat::match_unit
use Rattle.std.proofs.Common.{◌≡◌, inl, inr, ℕ, ◌+◌, Bool, true, List, [], ◌∷◌, ◌++◌, refl, sym, subst}
use Rattle.std.proofs.Common.{arith, append-nil}
use Rattle.memo.specs.Parts.{IsIn, in_here, in_later}
use Rattle.memo.specs.Run.{Run, run_stored, run_key, run_plain, RunAll, run_none, run_more, total}
use Rattle.packrat.specs.MachineSteps.{Level, State, Asks, Works, store, step_stored, step_begin}
use Rattle.packrat.specs.MachineSteps.{step_next, step_last, Steps, steps_none, steps_more, start_at}
use Rattle.memo.proofs.PartsLemmas.{in_either}
use Rattle.packrat.proofs.TaskKidsLemmas.{one_in}

pub append_other : {V : Type 0} (xs ys zs : List V) → (xs ++ ys) ++ zs ≡ xs ++ (ys ++ zs)
append_other [] ys zs = refl
append_other (a ∷ xs) ys zs = let h = append_other xs ys zs in cc h

module _ (V : Type 0) (Kids : V → List V → Type 0) (Next : V → List V → V → Type 0) (key : V → Bool) (weight : V → ℕ)
    (all : (a k : V) (asked more : List V) → Kids a (asked ++ k ∷ more) → Next a asked k) where
  abbrev T : List V → ℕ
  T xs = total V Kids key weight xs

  abbrev St : State V → State V → Type 0
  St s t = Steps V Kids Next key s t

  pub total_append : (xs ys : List V) → T (xs ++ ys) ≡ T xs + T ys
  total_append [] ys = omega arith
  total_append (a ∷ xs) ys = let h = total_append xs ys in omega (arith, h)

  pub steps_then : {s t u : State V} → St s t → St t u → St s u
  steps_then p steps_none = p
  steps_then p (steps_more q t) = steps_more (steps_then p q) t

  -- of a set that has all that its vertices lead to
  module _ (P : V → Type 0) (closed : (a b : V) (ks : List V) → P a → Kids a ks → IsIn b ks → P b) where
    -- the machine comes there, and has begun more, all of the set
    pub record Goes (s : State V) (levels : List (Level V)) (new old : List V) (n : ℕ) : Type 0 where
      pub front : List V
      pub count : T front ≡ n
      pub steps : St s (Works (record { levels = levels; stored = new; begun = front ++ old }))
      pub near : (b : V) → IsIn b front → P b

    task_goes : (a : V) (ks old new bg : List V) (c : ℕ) (fs : List (Level V)) → (key a ≡ true → IsIn a old → ⊥)
        → P a → Kids a ks
        → Goes (Works (record { levels = record { at = a; asked = [] } ∷ fs; stored = old; begun = a ∷ bg }))
        (record { at = a; asked = ks } ∷ fs) new (a ∷ bg) c
        → Goes (Asks a (record { levels = fs; stored = old; begun = bg })) fs (store V (key a) a new) bg (weight a + c)
    task_goes a ks old new bg c fs fresh here k h =
        let is = h.count in
        let sum = total_append h.front (a ∷ []) in
        record {
          front = h.front ++ a ∷ [];
          count = omega (arith, is, sum);
          steps = subst (λ v. St (Asks a (record { levels = fs; stored = old; begun = bg }))
              (Works (record { levels = fs; stored = store V (key a) a new; begun = v })))
              (sym (append_other h.front (a ∷ []) bg))
              (steps_more (steps_then (steps_more steps_none (step_begin fresh)) h.steps) (step_last k));
          near = λ b i. elim (in_either h.front (a ∷ []) i) [
            | inl j ↦ h.near b j
            | inr j ↦ subst P (sym (one_in j)) here
          ];
        }

    mutual
      pub run_goes : {a : V} {old new : List V} {c : ℕ} → Run V Kids key weight old a new c → P a
          → (fs : List (Level V)) (bg : List V) → Goes (Asks a (record { levels = fs; stored = old; begun = bg })) fs
          new bg c
      run_goes (run_stored t i) here fs bg = record {
        front = [];
        count = refl;
        steps = steps_more steps_none (step_stored t i);
        near = λ b j. elim j [ ];
      }
      run_goes (run_key {a = a} {ks = ks} {old = old} {new = new} {c = c} t f k r) here fs bg =
          subst (λ v. Goes (Asks a (record { levels = fs; stored = old; begun = bg })) fs (store V v a new) bg
          (weight a + c)) t
          (task_goes a ks old new bg c fs (λ _. f) here k
          (all_goes r (λ b i. closed a b ks here k i) a [] fs (a ∷ bg) k))
      run_goes (run_plain {a = a} {ks = ks} {old = old} {new = new} {c = c} t k r) here fs bg =
          subst (λ v. Goes (Asks a (record { levels = fs; stored = old; begun = bg })) fs (store V v a new) bg
          (weight a + c)) t
          (task_goes a ks old new bg c fs (λ is. absurd (cc (is, t))) here k
          (all_goes r (λ b i. closed a b ks here k i) a [] fs (a ∷ bg) k))

      all_goes : {ks old new : List V} {c : ℕ} → RunAll V Kids key weight old ks new c
          → ((b : V) → IsIn b ks → P b) → (a : V) (before : List V) (fs : List (Level V)) (bg : List V)
          → Kids a (before ++ ks)
          → Goes (Works (record { levels = record { at = a; asked = before } ∷ fs; stored = old; begun = bg }))
          (record { at = a; asked = before ++ ks } ∷ fs) new bg c
      all_goes {old = old} run_none each a before fs bg k = record {
        near = λ b j. elim j [ ];
        front = [];
        count = refl;
        steps = subst (λ v. St
            (Works (record { levels = record { at = a; asked = before } ∷ fs; stored = old; begun = bg }))
            (Works (record { levels = record { at = a; asked = v } ∷ fs; stored = old; begun = bg })))
            (sym (append-nil before)) steps_none;
      }
      all_goes {old = old} {new = new} (run_more {a = b} {ks = ks} {mid = mid} {c = c} {d = d} r s) each a before fs bg
          k =
          let h = run_goes r (each b in_here) (record { at = a; asked = before ++ b ∷ [] } ∷ fs) bg in
          let whole = append_other before (b ∷ []) ks in
          let g = all_goes s (λ e i. each e (in_later i)) a (before ++ b ∷ []) fs (h.front ++ bg)
          (subst (Kids a) (sym whole) k) in
          let one = h.count in
          let two = g.count in
          let sum = total_append g.front h.front in
          record {
            front = g.front ++ h.front;
            near = λ e i. elim (in_either g.front h.front i) [ inl j ↦ g.near e j | inr j ↦ h.near e j ];
            count = omega (arith, one, two, sum);
            steps = subst (λ w. St
                (Works (record { levels = record { at = a; asked = before } ∷ fs; stored = old; begun = bg }))
                (Works (record { levels = record { at = a; asked = before ++ b ∷ ks } ∷ fs; stored = new; begun = w })))
                (sym (append_other g.front h.front bg))
                (subst (λ v. St
                (Works (record { levels = record { at = a; asked = before } ∷ fs; stored = old; begun = bg }))
                (Works (record {
                  levels = record { at = a; asked = v } ∷ fs;
                  stored = new;
                  begun = g.front ++ (h.front ++ bg);
                }))) whole
                (steps_then (steps_then (steps_more steps_none (step_next (all a b before ks k))) h.steps) g.steps));
          }

  -- likewise from where nothing is begun
  pub steps_of_run : (root : V) (st : List V) (c : ℕ) → Run V Kids key weight [] root st c → (bg : List V) × (T bg ≡ c)
      × St (start_at V root) (Works (record { levels = []; stored = st; begun = bg }))
  steps_of_run root st c r =
      let h = run_goes (λ _. Unit {0}) (λ a b ks here k i. tt) r tt [] [] in (
        h.front,
        h.count,
        subst (λ v. St (start_at V root) (Works (record { levels = []; stored = st; begun = v })))
            (append-nil h.front) h.steps,
      )
