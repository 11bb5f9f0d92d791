-- Steps over bytes that decide what is evaluated.
-- Serves: one_byte_decides, iterations_run, iterations_close, iterations_whole, fresh_above_mark, Packrat::match_unit
use Rattle.std.proofs.Common.{◌≡◌, inl, inr, ℕ, zero, suc, ◌+◌, ◌<◌, ◌≤◌, Bool, true, false, List, [], ◌∷◌, ◌++◌}
use Rattle.std.proofs.Common.{Some, refl, sym, subst, ap, arith}
use Rattle.std.specs.Prelude.{slice_get}
use Rattle.pegread.specs.Pattern.{Rule}
use Rattle.pegnodes.specs.ByByte.{ByByte, by_shape, ByShape, by_no_iteration, below, AreIterations}
use Rattle.pegnodes.specs.ByByte.{iterations_none, iterations_more}
use Rattle.pegnodes.specs.Nodes as node
use Rattle.pegnodes.specs.Nodes.{Shape}
use Rattle.gramcheck.specs.Sound.{IsRanked}
use Rattle.pegnodes.specs.declared.by_byte.ByteVerdict.{ByteVerdict}
use Rattle.pegnodes.specs.declared.by_byte.ByteVerdict.TheVariants.{Takes, Stays, Fails}
use Rattle.pegmatch.specs.KeptEvents.{SpellsSome}
use Rattle.memo.specs.Parts.{IsIn, in_here, in_later}
use Rattle.memo.specs.KeyLog.{tasks_of, row_of, position_of}
use Rattle.memo.specs.declared.key_log.Stored.{Stored}
use Rattle.memo.specs.Run.{total}
use Rattle.memo.specs.declared.task.MatchTask.{MatchTask}
use Rattle.memo.specs.declared.task.MatchTask.TheVariants.{Eval}
use Rattle.packrat.specs.ByteGives.{GivesBy, ComesWith, iteration_at}
use Rattle.packrat.specs.ByteGives.{iterations_on, operands_on, iterations_closed, AreFresh}
use Rattle.pegnodes.specs.KeyMarks.{AreMarks}
use Rattle.packrat.specs.MachineSteps.{Level, State, Asks, Works, store, step_begin, step_next, step_last}
use Rattle.packrat.specs.MachineSteps.{steps_none, steps_more}
use Rattle.packrat.specs.TaskSteps.{NextOf, next_first, next_second, TaskSteps}
use Rattle.packrat.specs.MatchTasks.{Kids, is_key}
use Rattle.packrat.specs.View.{weight}
use Rattle.packrat.proofs.ByteGivesLemmas.{gives_by, star_has}
use Rattle.packrat.proofs.ByteKidsLemmas.{by_byte_itself, itself_runs}
use Rattle.packrat.proofs.NextOfLemmas.{is_next}
use Rattle.packrat.proofs.RunStepsLemmas.{run_goes, total_append, append_other, steps_then}
use Rattle.packrat.proofs.GoodLemmas.{in_front, not_in}
use Rattle.memo.proofs.PartsLemmas.{in_either}
use Rattle.packrat.proofs.TaskKidsLemmas.{one_in, kid_led_to}
use Rattle.packrat.proofs.TaskReachLemmas.{Seen, seen_next}
use Rattle.pegmatch.proofs.VisitsLemmas.{asks_within}
use Rattle.pegmatch.specs.Visits.{NodeGives, Asks as AsksFor}
use Rattle.gramcheck.specs.Outcome.{Outcome}

-- no evaluation of those positions is that of another node, or of a later position
not_among : (key : Bool) (m k a n q : ℕ) (stored : List MatchTask) → (m ≡ k → q < a + n → ⊥)
    → (IsIn (Eval m q) stored → ⊥) → IsIn (Eval m q) (operands_on key k a n stored) → ⊥
not_among key m k a zero q stored not free i = free i
not_among true m k a (suc n) q stored not free i =
    elim (in_front i) [
      | inl e ↦ let one : m ≡ k = cc e in let two : q ≡ a + n = cc e in not one (omega arith)
      | inr e ↦ not_among true m k a n q stored (λ is lt. not is (omega arith)) free e
    ]
not_among false m k a (suc n) q stored not free i =
    not_among false m k a n q stored (λ is lt. not is (omega arith)) free i

no_later : (a n : ℕ) → a + n < a + n → ⊥
no_later a n lt = omega arith

-- a stored key with this task
in_tasks : (task : MatchTask) (stored : List Stored) → IsIn task (tasks_of stored)
    → (s : Stored) × IsIn s stored × (s.task ≡ task)
in_tasks task [] i = absurd (not_in i)
in_tasks task (s ∷ stored) i = elim (in_front i) [
  | inl e ↦ (s, in_here, sym e)
  | inr e ↦ let r = in_tasks task stored e in (r.0, in_later r.1, r.2)
]

-- where no key of the row stands at the position or beyond, the key is not stored
pub not_beyond : (stored : List Stored) (task : MatchTask)
    → ((s : Stored) → IsIn s stored → row_of s.task ≡ row_of task → position_of s.task < position_of task)
    → IsIn task (tasks_of stored) → ⊥
not_beyond stored task under i =
    let r = in_tasks task stored i in
    let less = under r.0 r.1 (ap row_of r.2) in
    let position : position_of r.0.task ≡ position_of task = ap position_of r.2 in
    omega (arith, less, position)

pub fresh_above : (key : Bool) (m a n mark : ℕ) (stored : List Stored)
    → ((s : Stored) → IsIn s stored → row_of s.task ≡ m → position_of s.task < mark) → mark ≤ a
    → AreFresh key m a n (tasks_of stored)
fresh_above key m a n mark stored under le i lt is there =
    let r = in_tasks (Eval m (a + i)) stored there in
    let less = under r.0 r.1 (ap row_of r.2) in
    let position : position_of r.0.task ≡ a + i = ap position_of r.2 in
    omega (arith, less, position, le)

module _ (rules : List Rule) (start : ℕ) (nodes : List Shape) (bodies ranks x : List ℕ)
    (sound : IsRanked rules start nodes bodies ranks) (root : ℕ) (is_root : slice_get bodies start ≡ Some root)
    (marks : ℕ → Bool) (tails : ℕ → ℕ → Bool) (are : AreMarks start nodes bodies marks tails) where
  abbrev Comes : State MatchTask → (List MatchTask → State MatchTask) → ℕ → ℕ → Type 0
  Comes s to most c = ComesWith rules nodes bodies x marks tails s to most c

  -- an evaluation that stands no further, and looks no further
  record IsWithin (most n p : ℕ) : Type 0 where
    pub outcome : Outcome
    pub looked : ℕ
    pub gives : NodeGives rules nodes bodies x n p outcome looked
    pub less : looked ≤ most
    pub position : p ≤ most

  within_on : (most n p m q : ℕ) → IsWithin most n p → AsksFor rules nodes bodies x n p m q → IsWithin most m q
  within_on most n p m q w a =
      let u = asks_within rules start nodes bodies ranks x sound n p m q w.looked w.outcome w.gives a in
      let looked = w.less in
      let position = w.position in
      let less = u.less in
      let near = u.near in
      record {
        outcome = u.outcome;
        looked = u.looked;
        gives = u.gives;
        less = omega (arith, less, looked);
        position = omega (arith, near, looked, position);
      }

  next_all : (a k : MatchTask) (asked rest : List MatchTask) → Kids rules nodes bodies x a (asked ++ k ∷ rest)
      → NextOf rules nodes bodies x a asked k
  next_all = (is_next rules start nodes bodies ranks x false sound root is_root marks tails are).all

  pub both_fronts : (xs ys : List MatchTask) → total MatchTask (Kids rules nodes bodies x) (is_key marks tails) weight
      (xs ++ ys)
      ≡ total MatchTask (Kids rules nodes bodies x) (is_key marks tails) weight xs
      + total MatchTask (Kids rules nodes bodies x) (is_key marks tails) weight ys
  both_fronts =
      total_append MatchTask (Kids rules nodes bodies x) (NextOf rules nodes bodies x)
      (is_key marks tails) weight next_all

  abbrev St : State MatchTask → State MatchTask → Type 0
  St u v = TaskSteps rules nodes bodies x marks tails u v

  pub both_steps : {t u v : State MatchTask} → St t u → St u v → St t v
  both_steps p q = steps_then MatchTask (Kids rules nodes bodies x) (NextOf rules nodes bodies x) (is_key marks tails)
      weight next_all p q

  -- an evaluation that its byte decides
  pub decided_comes : (b n p c : ℕ) (v : ByteVerdict) → ByByte nodes bodies marks tails b n v c → slice_get x p ≡ Some b
      → SpellsSome rules nodes n → (levels : List (Level MatchTask)) (stored begun : List MatchTask)
      → (marks n ≡ true → IsIn (Eval n p) stored → ⊥)
      → Comes (Asks (Eval n p) (record { levels = levels; stored = stored; begun = begun }))
      (λ front. Works (record {
        levels = levels;
        stored = store MatchTask (marks n) (Eval n p) stored;
        begun = front ++ begun;
      })) (p + 1) c
  decided_comes b n p c v h here s levels stored begun fresh =
      let itself = by_byte_itself rules start nodes bodies ranks x sound marks tails b p here h s in
      let own = gives_by rules start nodes bodies ranks x sound marks tails b p here h s in
      let g = run_goes MatchTask (Kids rules nodes bodies x) (NextOf rules nodes bodies x) (is_key marks tails) weight
      next_all (Seen rules nodes bodies x (IsWithin (p + 1)) (within_on (p + 1)))
      (λ a k ks seen kids i. seen_next rules nodes bodies x (IsWithin (p + 1)) (within_on (p + 1)) a k seen
      (kid_led_to rules start nodes bodies ranks x sound a k ks kids i))
      (itself_runs rules start nodes bodies ranks x sound marks tails (Eval n p) c stored fresh itself)
      (record { outcome = _; looked = own.looked; gives = own.gives; less = own.within; position = omega arith }) levels
      begun in
      record {
        front = g.front;
        is = g.count;
        steps = g.steps;
        near = λ m q i. let w : IsWithin (p + 1) m q = g.near (Eval m q) i in w.position;
      }

  module _ (s k : ℕ) (at : slice_get nodes s ≡ Some (node.Star k)) (spelled : SpellsSome rules nodes s) where
    abbrev Turned : ℕ → ℕ → ℕ → Type 0
    Turned a n c = AreIterations nodes bodies x marks tails k a n c

    operand_takes : (b p c : ℕ) → ByByte nodes bodies marks tails b k Takes c → slice_get x p ≡ Some b
        → GivesBy rules nodes bodies x k p Takes
    operand_takes b p c h here = gives_by rules start nodes bodies ranks x sound marks tails b p here h
        (star_has rules start nodes bodies ranks x sound s k at spelled)

    -- the kids of an iteration
    pub iteration_kids : (p : ℕ) → GivesBy rules nodes bodies x k p Takes
        → Kids rules nodes bodies x (Eval s p) (Eval k p ∷ (Eval s (p + 1) ∷ []))
    iteration_kids p g = (
      node.Star k,
      at,
      inr (p + 1, record { events = []; looked = g.looked; gives = g.gives }, refl),
    )

    here_near : (n p m q : ℕ) → Eval m q ≡ Eval n p → q ≤ p + 1
    here_near n p m q is = let same : q ≡ p = cc is in omega (arith, same)

    -- one iteration
    iteration_comes : (b p d : ℕ) → ByByte nodes bodies marks tails b k Takes d → slice_get x p ≡ Some b
        → (levels : List (Level MatchTask)) (stored begun : List MatchTask)
        → (marks s ≡ true → IsIn (Eval s p) stored → ⊥)
        → (marks k ≡ true → IsIn (Eval k p) stored → ⊥)
        → Comes (Asks (Eval s p) (record { levels = levels; stored = stored; begun = begun }))
        (λ front. Asks (Eval s (p + 1)) (record {
          levels = iteration_at s k p ∷ levels;
          stored = store MatchTask (marks k) (Eval k p) stored;
          begun = front ++ begun;
        })) (p + 1) (1 + d)
    iteration_comes b p d h here levels stored begun fresh free =
        let has = star_has rules start nodes bodies ranks x sound s k at spelled in
        let g = operand_takes b p d h here in
        let r = decided_comes b k p d Takes h here has (record { at = Eval s p; asked = Eval k p ∷ [] } ∷ levels)
        stored (Eval s p ∷ begun) free in
        let is = r.is in
        let sum = both_fronts r.front
        (Eval s p ∷ []) in
        record {
          front = r.front ++ Eval s p ∷ [];
          is = omega (arith, is, sum);
          steps = subst (λ v. St (Asks (Eval s p) (record { levels = levels; stored = stored; begun = begun }))
              (Asks (Eval s (p + 1)) (record {
                levels = iteration_at s k p ∷ levels;
                stored = store MatchTask (marks k) (Eval k p) stored;
                begun = v;
              })))
              (sym (append_other r.front (Eval s p ∷ []) begun))
              (steps_more (both_steps (steps_more (steps_more steps_none (step_begin fresh))
              (step_next (next_first (node.Star k, at, refl)))) r.steps)
              (step_next (next_second (iteration_kids p g))));
          near = λ m q i. elim (in_either r.front (Eval s p ∷ []) i) [
            | inl j ↦ r.near m q j
            | inr j ↦ here_near s p m q (one_in j)
          ];
        }

    star_stays : (b c : ℕ) (v : ByteVerdict) → ByByte nodes bodies marks tails b s v c → v ≡ Stays
    star_stays b c v (by_shape {s = sh} there h) =
        let same : sh ≡ node.Star k = cc (there, at) in
        by v (subst (λ w. ByShape nodes bodies marks tails b s w v c) same h)
      where
        by : {c : ℕ} (v : ByteVerdict) → ByShape nodes bodies marks tails b s (node.Star k) v c → v ≡ Stays
        by v (by_no_iteration h) = refl

    not_operand : (b c : ℕ) → ByByte nodes bodies marks tails b k Takes c → s ≡ k → ⊥
    not_operand b c h is = let e = star_stays b c Takes (subst (λ m. ByByte nodes bodies marks tails b m Takes c)
        (sym is) h) in cc e

    pub iterations_come : {a n c : ℕ} → Turned a n c → (levels : List (Level MatchTask)) (stored begun : List MatchTask)
        → AreFresh (marks s) s a n stored → AreFresh (marks k) k a n stored
        → Comes (Asks (Eval s a) (record { levels = levels; stored = stored; begun = begun }))
        (λ front. Asks (Eval s (a + n)) (record {
          levels = iterations_on s k a n levels;
          stored = operands_on (marks k) k a n stored;
          begun = front ++ begun;
        })) (a + n) c
    iterations_come {a = a} iterations_none levels stored begun fresh free =
        let same : a ≡ a + 0 = omega arith in
        record {
          front = [];
          is = refl;
          near = λ m q i. elim i [ ];
          steps = subst (λ q. St (Asks (Eval s a) (record { levels = levels; stored = stored; begun = begun }))
              (Asks (Eval s q) (record { levels = levels; stored = stored; begun = begun }))) same steps_none;
        }
    iterations_come {a = a} (iterations_more {n = n} {c = c} {d = d} {b = b} r here h) levels stored begun fresh free =
        let before = iterations_come r levels stored begun (λ i lt. fresh i (omega arith))
        (λ i lt. free i (omega arith)) in
        let iteration = iteration_comes b (a + n) d h here (iterations_on s k a n levels)
        (operands_on (marks k) k a n stored)
        (before.front ++ begun)
        (λ t i. not_among (marks k) s k a n (a + n) stored (λ e lt. not_operand b d h e) (fresh n (omega arith) t) i)
        (λ t i. not_among (marks k) k k a n (a + n) stored (λ e lt. no_later a n lt) (free n (omega arith) t) i) in
        let one = before.is in
        let two = iteration.is in
        let sum = both_fronts iteration.front
        before.front in
        let next : (a + n) + 1 ≡ a + suc n = omega arith in
        record {
          front = iteration.front ++ before.front;
          near = λ m q i. elim (in_either iteration.front before.front i) [
            | inl j ↦ let le = iteration.near m q j in omega (arith, le)
            | inr j ↦ let le = before.near m q j in omega (arith, le)
          ];
          is = omega (arith, one, two, sum);
          steps = subst (λ v. St (Asks (Eval s a) (record { levels = levels; stored = stored; begun = begun }))
              (Asks (Eval s (a + suc n)) (record {
                levels = iterations_on s k a (suc n) levels;
                stored = operands_on (marks k) k a (suc n) stored;
                begun = v;
              })))
              (sym (append_other iteration.front before.front begun))
              (subst (λ q. St (Asks (Eval s a) (record { levels = levels; stored = stored; begun = begun }))
              (Asks (Eval s q) (record {
                levels = iterations_on s k a (suc n) levels;
                stored = operands_on (marks k) k a (suc n) stored;
                begun = iteration.front ++ (before.front ++ begun);
              }))) next
              (both_steps before.steps iteration.steps));
        }

    -- the levels of the iterations close
    pub iterations_end : {a n c : ℕ} → Turned a n c → (levels : List (Level MatchTask)) (stored begun : List MatchTask)
        → St (Works (record { levels = iterations_on s k a n levels; stored = stored; begun = begun }))
        (Works (record { levels = levels; stored = iterations_closed (marks s) s a n stored; begun = begun }))
    iterations_end iterations_none levels stored begun = steps_none
    iterations_end {a = a} (iterations_more {n = n} {d = d} {b = b} r here h) levels stored begun =
        both_steps (steps_more steps_none (step_last (iteration_kids (a + n) (operand_takes b (a + n) d h here))))
        (iterations_end r levels (store MatchTask (marks s) (Eval s (a + n)) stored) begun)

    stop_kids : (q : ℕ) → GivesBy rules nodes bodies x k q Fails → Kids rules nodes bodies x (Eval s q) (Eval k q ∷ [])
    stop_kids q g = (node.Star k, at, inl (record { looked = g.looked; gives = g.gives }, refl))

    -- a byte that decides that the operand fails ends the repetition
    stop_comes : (b q d : ℕ) → ByByte nodes bodies marks tails b k Fails d → slice_get x q ≡ Some b
        → (levels : List (Level MatchTask)) (stored begun : List MatchTask)
        → (marks s ≡ true → IsIn (Eval s q) stored → ⊥)
        → (marks k ≡ true → IsIn (Eval k q) stored → ⊥)
        → Comes (Asks (Eval s q) (record { levels = levels; stored = stored; begun = begun }))
        (λ front. Works (record {
          levels = levels;
          stored = store MatchTask (marks s) (Eval s q) (store MatchTask (marks k) (Eval k q) stored);
          begun = front ++ begun;
        })) (q + 1) (1 + d)
    stop_comes b q d h here levels stored begun fresh free =
        let has = star_has rules start nodes bodies ranks x sound s k at spelled in
        let g = gives_by rules start nodes bodies ranks x sound marks tails b q here h has in
        let r = decided_comes b k q d Fails h here has (record { at = Eval s q; asked = Eval k q ∷ [] } ∷ levels)
        stored (Eval s q ∷ begun) free in
        let is = r.is in
        let sum = both_fronts r.front
        (Eval s q ∷ []) in
        record {
          front = r.front ++ Eval s q ∷ [];
          is = omega (arith, is, sum);
          steps = subst (λ v. St (Asks (Eval s q) (record { levels = levels; stored = stored; begun = begun }))
              (Works (record {
                levels = levels;
                stored = store MatchTask (marks s) (Eval s q) (store MatchTask (marks k) (Eval k q) stored);
                begun = v;
              })))
              (sym (append_other r.front (Eval s q ∷ []) begun))
              (steps_more (both_steps (steps_more (steps_more steps_none (step_begin fresh))
              (step_next (next_first (node.Star k, at, refl)))) r.steps) (step_last (stop_kids q g)));
          near = λ m z i. elim (in_either r.front (Eval s q ∷ []) i) [
            | inl j ↦ r.near m z j
            | inr j ↦ here_near s q m z (one_in j)
          ];
        }

    -- the iterations, and then such a byte
    pub iterations_stop : {a n c : ℕ} (b d : ℕ) → Turned a n c → slice_get x (a + n) ≡ Some b
        → ByByte nodes bodies marks tails b k Fails d → (levels : List (Level MatchTask))
        (stored begun : List MatchTask)
        → AreFresh (marks s) s a (suc n) stored → AreFresh (marks k) k a (suc n) stored
        → Comes (Asks (Eval s a) (record { levels = levels; stored = stored; begun = begun }))
        (λ front. Works (record {
          levels = levels;
          stored = iterations_closed (marks s) s a (suc n)
              (store MatchTask (marks k) (Eval k (a + n)) (operands_on (marks k) k a n stored));
          begun = front ++ begun;
        })) ((a + n) + 1) (c + (1 + d))
    iterations_stop {a = a} {n = n} b d iterations here h levels stored begun fresh free =
        let before = iterations_come iterations levels stored begun (λ i lt. fresh i (omega arith))
        (λ i lt. free i (omega arith)) in
        let last = stop_comes b (a + n) d h here (iterations_on s k a n levels)
        (operands_on (marks k) k a n stored) (before.front ++ begun)
        (λ t i. not_among (marks k) s k a n (a + n) stored (λ e lt. no_later a n lt) (fresh n (omega arith) t) i)
        (λ t i. not_among (marks k) k k a n (a + n) stored (λ e lt. no_later a n lt) (free n (omega arith) t) i) in
        let end = iterations_end iterations levels (store MatchTask (marks s) (Eval s (a + n))
        (store MatchTask (marks k) (Eval k (a + n)) (operands_on (marks k) k a n stored)))
        (last.front ++ (before.front ++ begun)) in
        let one = before.is in
        let two = last.is in
        let sum = both_fronts last.front
        before.front in
        record {
          front = last.front ++ before.front;
          near = λ m z i. elim (in_either last.front before.front i) [
            | inl j ↦ last.near m z j
            | inr j ↦ let le = before.near m z j in omega (arith, le)
          ];
          is = omega (arith, one, two, sum);
          steps = subst (λ v. St (Asks (Eval s a) (record { levels = levels; stored = stored; begun = begun }))
              (Works (record {
                levels = levels;
                stored = iterations_closed (marks s) s a (suc n)
                    (store MatchTask (marks k) (Eval k (a + n)) (operands_on (marks k) k a n stored));
                begun = v;
              }))) (sym (append_other last.front before.front begun))
              (both_steps (both_steps before.steps last.steps) end);
        }

    -- the iterations, and then a byte that the repetition stays before
    pub whole_comes : {a n c : ℕ} (b d : ℕ) → Turned a n c → slice_get x (a + n) ≡ Some b
        → ByByte nodes bodies marks tails b s Stays d → (levels : List (Level MatchTask))
        (stored begun : List MatchTask)
        → AreFresh (marks s) s a (suc n) stored → AreFresh (marks k) k a n stored
        → Comes (Asks (Eval s a) (record { levels = levels; stored = stored; begun = begun }))
        (λ front. Works (record {
          levels = levels;
          stored = iterations_closed (marks s) s a (suc n) (operands_on (marks k) k a n stored);
          begun = front ++ begun;
        })) ((a + n) + 1) (c + d)
    whole_comes {a = a} {n = n} {c = c} b d iterations here (by_shape {s = sh} there h) levels stored begun fresh free =
        let same : sh ≡ node.Star k = cc (there, at) in
        by d (subst (λ w. ByShape nodes bodies marks tails b s w Stays d) same h)
      where
        by : (d : ℕ) → ByShape nodes bodies marks tails b s (node.Star k) Stays d
            → Comes (Asks (Eval s a) (record { levels = levels; stored = stored; begun = begun }))
            (λ front. Works (record {
              levels = levels;
              stored = iterations_closed (marks s) s a (suc n) (operands_on (marks k) k a n stored);
              begun = front ++ begun;
            })) ((a + n) + 1) (c + d)
        by d (by_no_iteration (below {c = e} plain fails)) =
            subst (λ v. Comes (Asks (Eval s a) (record { levels = levels; stored = stored; begun = begun }))
            (λ front. Works (record {
              levels = levels;
              stored = iterations_closed (marks s) s a (suc n)
                  (store MatchTask v (Eval k (a + n)) (operands_on (marks k) k a n stored));
              begun = front ++ begun;
            })) ((a + n) + 1) (c + (1 + e))) plain
            (iterations_stop b e iterations here fails levels stored begun fresh (λ i lt t. absurd (cc (plain, t))))
