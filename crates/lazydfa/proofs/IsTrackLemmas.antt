-- A run goes on to a state that is kept.
-- Serves: judge, viable.
use Rattle.std.proofs.Common.{◌≡◌, ℕ, zero, suc, ◌+◌, ◌-◌, ◌*◌, ◌/◌, ◌%◌, ◌^◌, ◌<◌, ◌≤◌, Bool, true, false, List, []}
use Rattle.std.proofs.Common.{length, refl, sym, ◌∙◌, ap, subst, arith, ◌⊎◌, inl, inr, add-zero}
use Rattle.std.proofs.lemmas.Bool.{cases_lt}
use Rattle.std.proofs.lemmas.Option.{slice_get_within}
use Rattle.std.specs.Prelude.{slice_get, Some, if◌then◌else◌}
use Rattle.flatgrammar.specs.NodeSteps.{flat_of}
use Rattle.flatgrammar.specs.TableViews.{GiveTargets}
use Rattle.flatgrammar.specs.declared.tables.Tables as code_flat
use Rattle.flatgrammar.specs.declared.verdict.Verdict.TheVariants.{Yes, No}
use Rattle.lazydfa.specs.declared.conts.Cont.{Cont}
use Rattle.lazydfa.specs.declared.cache.State.{State}
use Rattle.lazydfa.specs.declared.cache.Cell.{Cell}
use Rattle.lazydfa.specs.declared.cache.Cell.TheVariants.{To}
use Rattle.lazydfa.specs.Conts.{last_of}
use Rattle.lazydfa.specs.Cached.{AreCached, IsCell}
use Rattle.flatgrammar.specs.ClassBounds.{AreClasses, IsClassOf}
use Rattle.lazydfa.specs.declared.glide.Track.{Track}
use Rattle.lazydfa.specs.declared.memo.Memo.{Memo}
use Rattle.lazydfa.specs.Transitions.{IsEndAt, IsTransitionTo, IsTaken, StaysBy, StaysOver, last_word}
use Rattle.lazydfa.specs.declared.run.RunStep.{RunStep}
use Rattle.lazydfa.specs.declared.run.RunStep.TheVariants as steps
use Rattle.lazydfa.specs.Memos.{IsEndOf, IsMemo, IsOver, IsSettled, IsRunStop, IsStepTaken, IsStepTo, IsTrack}
use Rattle.lazydfa.specs.RunVerdicts.{IsReached, IsRunVerdict}
use Rattle.lazydfa.specs.StackSuffixes.{below_of}
use Rattle.lazydfa.proofs.ContsLemmas.{kept_same}
use Rattle.lazydfa.proofs.AreCachedLemmas.{grown_same, row_is, class_is}
use Rattle.lazydfa.proofs.IsAtLemmas.{some_at, step_to, step_reached}
use Rattle.lazydfa.proofs.IsOverLemmas.{over_kept, plain_below, settled_running}
use Rattle.lazydfa.proofs.IsRunVerdictLemmas.{end_verdict}

-- by a letter that is known to lead to a state
module _ (tables : code_flat.Tables) (targets : GiveTargets (flat_of tables) tables.targets.items) (samples : List ℕ)
    (conts : List Cont) (states : List State) (cells : List Cell) (cached : AreCached tables samples conts states cells)
    (suffixes : List ℕ) (x : List ℕ) (s j c k t : ℕ) (runs : IsSettled tables conts states suffixes s x j)
    (letter : slice_get x j ≡ Some c) (class : IsClassOf (flat_of tables) samples c k)
    (known : (d : ℕ) → slice_get samples k ≡ Some d → IsCell tables d conts states s (To t)) where
  over_next : IsOver tables conts states suffixes t x (j + 1)
  over_next =
      over_kept tables conts conts states states (kept_same conts) (grown_same states) cached.within suffixes t x
      (j + 1)
      (step_to tables targets x conts conts states states (kept_same conts) (grown_same states) s j c k
      (below_of conts suffixes) runs.over.at
      (plain_below conts suffixes runs.over.at.state.ended runs.plain) samples cells
      cached letter class (To t) known t refl) runs.over.suffixes_are

  next_bare : suffixes ≡ [] → IsSettled tables conts states suffixes t x (j + 1)
  next_bare none = record { over = over_next; plain = λ ended. none }

  next_running : (there : State) → slice_get states t ≡ Some there → there.ended ≡ false
      → IsSettled tables conts states suffixes t x (j + 1)
  next_running there there_is runs_on =
      settled_running tables conts states suffixes t x (j + 1) there.ended
      (λ got is. let both : Some there ≡ Some got = sym there_is ∙ is in let same : there ≡ got = cc both in
      ap (λ v. v.ended) same) runs_on over_next

  next_same : t ≡ s → IsSettled tables conts states suffixes t x (j + 1)
  next_same same = record {
    over = over_next;
    plain = λ ended. runs.plain (
        let both : Some over_next.at.state ≡ Some runs.over.at.state =
        sym over_next.at.is ∙ subst (λ v. slice_get states v ≡ Some runs.over.at.state) (sym same) runs.over.at.is in
        let one : over_next.at.state ≡ runs.over.at.state = cc both in
        sym (ap (λ v. v.ended) one) ∙ ended);
  }

  next_reached : IsReached (flat_of tables) (last_of tables) x (j + 1)
  next_reached =
      step_reached tables targets x conts conts states states (kept_same conts) (grown_same states) s j c k
      (below_of conts suffixes) runs.over.at
      (plain_below conts suffixes runs.over.at.state.ended runs.plain) samples cells
      cached letter class (To t) known t refl

-- a word below 2 ^ 31 in the place of a class
module _ (tables : code_flat.Tables) (targets : GiveTargets (flat_of tables) tables.targets.items) (samples : List ℕ)
    (memo : Memo) (is_memo : IsMemo tables samples memo) (x : List ℕ) (row j c k next : ℕ)
    (before : IsTrack tables samples memo x (record { row = row; at = j })) (letter : slice_get x j ≡ Some c)
    (class : IsClassOf (flat_of tables) samples c k) (word : slice_get memo.transitions.items (row + k) ≡ Some next)
    (below : next < 2 ^ 31) where
  class_within : k < length samples
  class_within = slice_get_within samples k class.sample class.is

  class_fits : k < length samples + 1
  class_fits = let w = class_within in omega (arith, w)

  word_position : row + k ≡ before.state * (length samples + 1) + k
  word_position = ap (λ v. v + k) before.row

  word_class : (row + k) % (length samples + 1) ≡ k
  word_class = class_is before.state k (length samples + 1) (row + k) class_fits word_position

  transition_is : IsTransitionTo tables samples memo.cache.conts.items.items memo.cache.states.items (row + k) next
  transition_is =
      (is_memo.transitions (row + k) next word).leads (subst (λ v. v < length samples) (sym word_class) class_within)
      below

  cell_known : (d : ℕ) → slice_get samples k ≡ Some d
      → IsCell tables d memo.cache.conts.items.items memo.cache.states.items before.state (To transition_is.to)
  cell_known d sample =
      subst (λ v. IsCell tables d memo.cache.conts.items.items memo.cache.states.items v (To transition_is.to))
      (row_is before.state k (length samples + 1) (row + k) class_fits word_position)
      (transition_is.leads d (subst (λ v. slice_get samples v ≡ Some d) (sym word_class) sample))

  track_to : IsSettled tables memo.cache.conts.items.items memo.cache.states.items memo.suffixes.items transition_is.to
      x
      (j + 1)
      → IsTrack tables samples memo x (record { row = next; at = j + 1 })
  track_to settled = record {
    state = transition_is.to;
    row = transition_is.row;
    runs = settled;
    reached = λ _. next_reached tables targets samples memo.cache.conts.items.items memo.cache.states.items
        memo.cache.cells.items is_memo.cached memo.suffixes.items x before.state j c k transition_is.to before.runs
        letter
        class
        cell_known;
  }

  track_bare : memo.suffixes.items ≡ [] → IsTrack tables samples memo x (record { row = next; at = j + 1 })
  track_bare none =
      track_to (next_bare tables targets samples memo.cache.conts.items.items memo.cache.states.items
      memo.cache.cells.items is_memo.cached memo.suffixes.items x before.state j c k transition_is.to before.runs letter
      class
      cell_known none)

  track_running : slice_get memo.transitions.items (next + length samples) ≡ Some 0
      → IsTrack tables samples memo x (record { row = next; at = j + 1 })
  track_running last =
      let position : next + length samples ≡ transition_is.to * (length samples + 1) + length samples =
      ap (λ v. v + length samples) transition_is.row in
      let wider : length samples < length samples + 1 = omega arith in
      let end = (is_memo.transitions (next + length samples) 0 last).runs
      (class_is transition_is.to (length samples) (length samples + 1) (next + length samples) wider position) refl in
      track_to (next_running tables targets samples memo.cache.conts.items.items memo.cache.states.items
      memo.cache.cells.items is_memo.cached memo.suffixes.items x before.state j c k transition_is.to before.runs letter
      class
      cell_known end.state (subst (λ v. slice_get memo.cache.states.items v ≡ Some end.state)
      (row_is transition_is.to (length samples) (length samples + 1) (next + length samples) wider position) end.is)
      end.ended_is)

  track_same : next ≡ row → IsTrack tables samples memo x (record { row = next; at = j + 1 })
  track_same back =
      let wider : 0 < length samples + 1 = omega arith in
      let there : next ≡ transition_is.to * (length samples + 1) + 0 = let r = transition_is.row in omega (arith, r) in
      let here : next ≡ before.state * (length samples + 1) + 0 = let r = before.row in omega (arith, r, back) in
      track_to (next_same tables targets samples memo.cache.conts.items.items memo.cache.states.items
      memo.cache.cells.items is_memo.cached memo.suffixes.items x before.state j c k transition_is.to before.runs letter
      class
      cell_known (sym (row_is transition_is.to 0 (length samples + 1) next wider there)
      ∙ row_is before.state 0 (length samples + 1) next wider here))

module _ (tables : code_flat.Tables) (targets : GiveTargets (flat_of tables) tables.targets.items) (samples : List ℕ)
    (memo : Memo) (is_memo : IsMemo tables samples memo) (x : List ℕ) where
  pub transition_taken : (row j c k next : ℕ) (bare : Bool) → (bare ≡ true → memo.suffixes.items ≡ [])
      → IsTrack tables samples memo x (record { row = row; at = j }) → slice_get x j ≡ Some c
      → IsClassOf (flat_of tables) samples c k → IsTaken memo.transitions.items (length samples) bare (row + k) next
      → IsTrack tables samples memo x (record { row = next; at = j + 1 })
  transition_taken row j c k next bare none before letter class taken = by taken.2
    where
      by : (bare ≡ true) ⊎ (slice_get memo.transitions.items (next + length samples) ≡ Some 0)
          → IsTrack tables samples memo x (record { row = next; at = j + 1 })
      by (inl is) =
          track_bare tables targets samples memo is_memo x row j c k next before letter class taken.0 taken.1 (none is)
      by (inr last) =
          track_running tables targets samples memo is_memo x row j c k next before letter class taken.0 taken.1 last

  -- by symbols that lead from a row to that row
  module _ (low : List ℕ) (classes : AreClasses (flat_of tables) low samples) (row from : ℕ) (below : row < 2 ^ 31)
    where
      stays_more : (n : ℕ) → from + n ≤ length x → StaysOver low samples memo.transitions.items x row from (from + n)
          → IsTrack tables samples memo x (record { row = row; at = from })
          → IsTrack tables samples memo x (record { row = row; at = from + n })
      stays_more zero within stays track =
          subst (λ v. IsTrack tables samples memo x (record { row = row; at = v })) (sym (add-zero from)) track
      stays_more (suc n) within stays track =
          let some = some_at x (from + n) (omega (arith, within)) in
          let by = stays (from + n) some.0 (omega arith) (omega arith) some.1 (flat_of tables) classes in
          let before = stays_more n (omega (arith, within)) (λ j c le lt. stays j c le (omega (arith, lt))) track in
          subst (λ v. IsTrack tables samples memo x (record { row = row; at = v }))
          (let e : from + n + 1 ≡ from + suc n = omega arith in e)
          (track_same tables targets samples memo is_memo x row (from + n) some.0 by.0 row before some.1 by.1 by.2 below
          refl)

      pub stays_taken : (to : ℕ) → from ≤ to → to ≤ length x
          → StaysOver low samples memo.transitions.items x row from to
          → IsTrack tables samples memo x (record { row = row; at = from })
          → IsTrack tables samples memo x (record { row = row; at = to })
      stays_taken to le within stays track =
          let same : from + (to - from) ≡ to = omega (arith, le) in
          subst (λ v. IsTrack tables samples memo x (record { row = row; at = v })) same
          (stays_more (to - from) (omega (arith, same, within))
          (subst (λ v. StaysOver low samples memo.transitions.items x row from v) (sym same) stays) track)

-- symbols that lead from a row to that row
module _ (low samples transitions x : List ℕ) (row : ℕ) where
  pub none_stay : (at : ℕ) → StaysOver low samples transitions x row at at
  none_stay at j v le lt is = absurd (omega (arith, le, lt))

  pub stays_both : (from mid to : ℕ) → StaysOver low samples transitions x row from mid
      → StaysOver low samples transitions x row mid to → StaysOver low samples transitions x row from to
  stays_both from mid to first second j v le lt is = by (cases_lt j mid)
    where
      by : (j < mid) ⊎ (mid ≤ j) → StaysBy low samples transitions row v
      by (inl less) = first j v le less is
      by (inr more) = second j v more lt is

  one_stays : (j at v a : ℕ) → j ≡ at → slice_get x at ≡ Some a → slice_get x j ≡ Some v
      → StaysBy low samples transitions row a → StaysBy low samples transitions row v
  one_stays j at v a here first is stays =
      let both : Some a ≡ Some v = sym first ∙ subst (λ w. slice_get x w ≡ Some v) here is in
      let same : a ≡ v = cc both in
      subst (λ w. StaysBy low samples transitions row w) same stays

  pub four_stay : (at a b c d : ℕ) → slice_get x at ≡ Some a → slice_get x (at + 1) ≡ Some b
      → slice_get x (at + 2) ≡ Some c → slice_get x (at + 3) ≡ Some d → StaysBy low samples transitions row a
      → StaysBy low samples transitions row b → StaysBy low samples transitions row c
      → StaysBy low samples transitions row d
      → StaysOver low samples transitions x row at (at + 4)
  four_stay at a b c d is_a is_b is_c is_d stays_a stays_b stays_c stays_d j v le lt is = by (cases_lt j (at + 1))
    where
      third : at + 2 ≤ j → (j < at + 3) ⊎ (at + 3 ≤ j) → StaysBy low samples transitions row v
      third ge (inl less) = one_stays j (at + 2) v c (omega (arith, ge, less)) is_c is stays_c
      third ge (inr more) = one_stays j (at + 3) v d (omega (arith, more, lt)) is_d is stays_d

      second : at + 1 ≤ j → (j < at + 2) ⊎ (at + 2 ≤ j) → StaysBy low samples transitions row v
      second ge (inl less) = one_stays j (at + 1) v b (omega (arith, ge, less)) is_b is stays_b
      second ge (inr more) = third more (cases_lt j (at + 3))

      by : (j < at + 1) ⊎ (at + 1 ≤ j) → StaysBy low samples transitions row v
      by (inl less) = one_stays j at v a (omega (arith, le, less)) is_a is stays_a
      by (inr more) = second more (cases_lt j (at + 2))

-- the row of a state stands for the state
module _ (tables : code_flat.Tables) (samples : List ℕ) (memo : Memo) (x : List ℕ) where
  pub track_of : (row state stride j : ℕ) → stride ≡ length samples + 1 → row ≡ state * stride + 0
      → IsSettled tables memo.cache.conts.items.items memo.cache.states.items memo.suffixes.items state x j
      → (0 < j → IsReached (flat_of tables) (last_of tables) x j)
      → IsTrack tables samples memo x (record { row = row; at = j })
  track_of row state stride j wide position runs reached = record {
    state = state;
    row = let e : row ≡ state * (length samples + 1) + 0 = subst (λ v. row ≡ state * v + 0) wide position in
        omega (arith, e);
    runs = runs;
    reached = reached;
  }

  -- .. and a step to a state leads to its row
  pub step_taken : (s row j : ℕ) (step : RunStep) → IsStepTo s (length samples + 1) step
      → IsSettled tables memo.cache.conts.items.items memo.cache.states.items memo.suffixes.items s x (j + 1)
      → IsReached (flat_of tables) (last_of tables) x (j + 1) → IsStepTaken tables samples memo x row j step
  step_taken s row j (steps.To r) is runs reached = record { state = s; row = is; runs = runs; reached = λ _. reached }
  step_taken s row j steps.Dead is runs reached = absurd is
  step_taken s row j steps.Over is runs reached = tt

  -- .. and where a run stops after all symbols, ended says the verdict
  pub stop_verdict : IsMemo tables samples memo → (stop : Track) → IsRunStop tables samples memo x stop
      → length x ≤ stop.at → (ended : Bool) → IsEndOf samples memo stop.row ended
      → IsRunVerdict (flat_of tables) (last_of tables) x (if ended then Yes else No stop.at)
  stop_verdict is_memo stop is le ended ends =
      let within = is.within in
      let end : stop.at ≡ length x = omega (arith, within, le) in
      end_verdict tables memo.cache.conts.items.items memo.cache.states.items is.tracks.state x stop.at
      (below_of memo.cache.conts.items.items memo.suffixes.items) is.tracks.runs.over.at
      (plain_below memo.cache.conts.items.items memo.suffixes.items is.tracks.runs.over.at.state.ended
      is.tracks.runs.plain) end is.tracks.reached stop.at end ended (ends tables is_memo is.tracks.state
      is.tracks.row is.tracks.runs.over.at.state is.tracks.runs.over.at.is)

pub row_state : (s row stride n : ℕ) → stride ≡ n + 1 → row ≡ s * (n + 1) → row / stride ≡ s
row_state s row stride n wide position =
    ap (λ v. row / v) wide ∙ row_is s 0 (n + 1) row (omega arith) (omega (arith, position))

-- the last word of a row
module _ (tables : code_flat.Tables) (samples : List ℕ) (memo : Memo) (is_memo : IsMemo tables samples memo)
    (row s : ℕ) (position : row ≡ s * (length samples + 1)) (got : State)
    (there : slice_get memo.cache.states.items s ≡ Some got) where
  end_says : (ended : Bool) → IsEndAt samples memo.cache.states.items (row + length samples) ended → ended ≡ got.ended
  end_says ended end =
      let wider : length samples < length samples + 1 = omega arith in
      let at_end : row + length samples ≡ s * (length samples + 1) + length samples =
      ap (λ v. v + length samples) position in
      let both : Some end.state ≡ Some got =
      sym (subst (λ v. slice_get memo.cache.states.items v ≡ Some end.state)
      (row_is s (length samples) (length samples + 1) (row + length samples) wider at_end) end.is) ∙ there in
      let same : end.state ≡ got = cc both in
      sym end.ended_is ∙ ap (λ v. v.ended) same

  last_class : (row + length samples) % (length samples + 1) ≡ length samples
  last_class =
      class_is s (length samples) (length samples + 1) (row + length samples) (omega arith)
      (ap (λ v. v + length samples) position)

  pub last_says : (ended : Bool)
      → slice_get memo.transitions.items (row + length samples) ≡ Some (last_word ended) → ended ≡ got.ended
  last_says true word = end_says true ((is_memo.transitions (row + length samples) 1 word).ends last_class refl)
  last_says false word = end_says false ((is_memo.transitions (row + length samples) 0 word).runs last_class refl)
