-- What can follow the symbols of a line, by the stacks that they lead to.
-- Serves: expected, viable.
use Rattle.std.proofs.Common.{◌≡◌, ◌↔◌, ℕ, ◌+◌, ◌/◌, true, List, [], ◌∷◌, ◌++◌, length, refl}
use Rattle.std.proofs.Common.{sym, ◌∙◌, ap, subst, arith, inl, IsTrue}
use Rattle.std.specs.Prelude.{slice_get, Some}
use Rattle.flatgrammar.specs.Flat.{Flat, Dot, at, Set, Reads}
use Rattle.flatgrammar.specs.FlatVerdicts.{IsLastSet}
use Rattle.flatgrammar.specs.Holds.{Holds}
use Rattle.flatgrammar.specs.NodeSteps.{flat_of}
use Rattle.flatgrammar.specs.Positions.{In}
use Rattle.flatgrammar.specs.TableViews.{GiveTargets}
use Rattle.flatgrammar.specs.declared.closure.DottedRule.{DottedRule}
use Rattle.flatgrammar.specs.declared.tables.Tables as code_flat
use Rattle.flatgrammar.specs.Stacks.{AreUncounted, IsReading, reading, Lifted}
use Rattle.flatgrammar.proofs.StacksLemmas.{accepted_holds, holds_accepted, reached_item, item_reached, top_held}
use Rattle.flatgrammar.proofs.StacksLemmas.{reader_reached}
use Rattle.lazydfa.specs.declared.cache.State.{State}
use Rattle.lazydfa.specs.declared.glide.Track.{Track}
use Rattle.lazydfa.specs.declared.memo.Memo.{Memo}
use Rattle.lazydfa.specs.Cached.{IsAt}
use Rattle.lazydfa.specs.Conts.{last_of, AreTopsOf, IsStackOf}
use Rattle.lazydfa.specs.Domination.{Dominates, IsCovered, IsPlainCover}
use Rattle.lazydfa.proofs.DominatesLemmas.{same_reader}
use Rattle.lazydfa.specs.ExpectedSets.{AreReadersAt, IsExpected}
use Rattle.lazydfa.specs.Memos.{IsRunStop}
use Rattle.lazydfa.specs.RunVerdicts.{IsOne}
use Rattle.lazydfa.specs.StackSuffixes.{below_of}
use Rattle.lazydfa.specs.declared.expected.Expected.{Expected}
use Rattle.lazydfa.proofs.IsAtLemmas.{plain_cover}
use Rattle.lazydfa.proofs.IsOverLemmas.{plain_below}
use Rattle.lazydfa.proofs.IsTrackLemmas.{row_state}
use Rattle.lazydfa.proofs.MoveLemmas.{marks_last}

-- a dotted rule on top reads, whatever is below it
reads_above : (flat : Flat) (p : Dot) (below other : List Dot) → IsReading flat (p ∷ below)
    → IsReading flat (p ∷ other)
reads_above flat p below other (reading rd) = reading rd

-- what reads is not empty
top_of : (flat : Flat) (stack : List Dot) → IsReading flat stack
    → (p : Dot) × (below : List Dot) × (stack ≡ p ∷ below)
top_of flat _ (reading {q = q} {below = below} rd) = (q, below, refl)

module _ (tables : code_flat.Tables) (targets : GiveTargets (flat_of tables) tables.targets.items)
    (uncounted : AreUncounted (flat_of tables)) (one : IsOne (flat_of tables)) (samples : List ℕ) (memo : Memo)
    (x : List ℕ) (stop : Track) (is : IsRunStop tables samples memo x stop) where
  abbrev pub at_stop : IsAt tables memo.cache.conts.items.items memo.cache.states.items is.tracks.state x stop.at
      (below_of memo.cache.conts.items.items memo.suffixes.items)
  at_stop = is.tracks.runs.over.at

  none_below : at_stop.state.ended ≡ true → below_of memo.cache.conts.items.items memo.suffixes.items ≡ []
  none_below =
      plain_below memo.cache.conts.items.items memo.suffixes.items at_stop.state.ended is.tracks.runs.plain

  pub plain_stop : IsPlainCover (flat_of tables) (last_of tables) x stop.at
      (IsStackOf memo.cache.conts.items.items at_stop.state.tops.items)
      (below_of memo.cache.conts.items.items memo.suffixes.items)
  plain_stop =
      plain_cover (flat_of tables) (last_of tables) x stop.at
      (IsStackOf memo.cache.conts.items.items at_stop.state.tops.items) at_stop.state.ended
      (below_of memo.cache.conts.items.items memo.suffixes.items) none_below at_stop.cover

  last_set : IsLastSet (flat_of tables) x stop.at
  last_set = record {
    within = is.within;
    item = λ some.
        let r = is.tracks.reached some in
        reached_item (flat_of tables) uncounted x (last_of tables) (marks_last tables targets) r.0 r.1;
    last = λ m past most item.
        is.dead (omega (arith, past, most)) m past
        (item_reached (flat_of tables) uncounted x (last_of tables) (marks_last tables targets) item);
  }

  end_held : (at_stop.state.ended ≡ true) ↔ Holds (flat_of tables) x stop.at (at (flat_of tables).start 1) 0
  end_held = (
    λ ended. accepted_holds (flat_of tables) uncounted x (last_of tables) (marks_last tables targets) one.0 one.1
        (at_stop.cover.accepts.1 (ended, inl (none_below ended))),
    λ held. (at_stop.cover.accepts.0
        (holds_accepted (flat_of tables) uncounted x (last_of tables) (marks_last tables targets) one.0 one.1 held)).0,
  )

  module _ (dots : List DottedRule) (are : AreTopsOf memo.cache.conts.items.items at_stop.state.tops.items dots) where
    dot_held : (s : DottedRule) → In s dots → (i : ℕ) × Holds (flat_of tables) x stop.at (at s.node s.step) i
    dot_held s stands =
        let t = are.sound s stands in
        let top : IsStackOf memo.cache.conts.items.items at_stop.state.tops.items (at s.node s.step ∷ t.2) =
        record { id = t.0; stands = t.1; is = sym t.3 } in
        let below = below_of memo.cache.conts.items.items memo.suffixes.items in
        top_held (flat_of tables) uncounted x (last_of tables) (marks_last tables targets)
        ((plain_stop.reading (at s.node s.step ∷ (t.2 ++ below))
        (reads_above (flat_of tables) (at s.node s.step) t.2 (t.2 ++ below) (plain_stop.all_read _ top))).1
        (record { top = at s.node s.step ∷ t.2; is = top; stack_is = refl }))

    covered_in : (s : DottedRule) (below : List Dot) {set : Set} {r : Dot}
        → Reads (flat_of tables) (at s.node s.step) set r
        → IsCovered (flat_of tables) (Lifted (IsStackOf memo.cache.conts.items.items at_stop.state.tops.items)
        (below_of memo.cache.conts.items.items memo.suffixes.items)) (at s.node s.step ∷ below) → In s dots
    covered_in s below rd c =
        let under = below_of memo.cache.conts.items.items memo.suffixes.items in
        let l = c.is in
        let t = top_of (flat_of tables) l.top (plain_stop.all_read l.top l.is) in
        let is : c.over ≡ t.0 ∷ (t.1 ++ under) = l.stack_is ∙ ap (λ v. v ++ under) t.2 in
        let same = same_reader (flat_of tables) (t.1 ++ under) below
        (subst (λ v. IsReading (flat_of tables) v) is c.reads)
        (subst (λ v. Dominates (flat_of tables) v (at s.node s.step ∷ below)) is c.dominates) rd in
        are.whole s l.is.id t.1 l.is.stands (sym l.is.is ∙ (t.2 ∙ ap (λ v. v ∷ t.1) same.0))

    readers_at : AreReadersAt (flat_of tables) x stop.at dots
    readers_at = record {
      held = dot_held;
      all = λ s i set r held rd.
          let h = reader_reached (flat_of tables) uncounted x (last_of tables) (marks_last tables targets) held rd in
          covered_in s h.0 rd ((plain_stop.reading (at s.node s.step ∷ h.0) (reading rd)).0 h.1);
    }

  -- the state of the row where a run stops
  pub state_there : (k : ℕ) (got : State) → k ≡ stop.row / (length samples + 1)
      → slice_get memo.cache.states.items k ≡ Some got → got ≡ at_stop.state
  state_there k got position there =
      let here : k ≡ is.tracks.state =
      position ∙ row_state is.tracks.state stop.row (length samples + 1) (length samples) refl is.tracks.row in
      let both : Some got ≡ Some at_stop.state =
      sym (subst (λ v. slice_get memo.cache.states.items v ≡ Some got) here there) ∙ at_stop.is in
      cc both

  pub expected_there : (k : ℕ) (got : State) → k ≡ stop.row / (length samples + 1)
      → slice_get memo.cache.states.items k ≡ Some got → (reported : Expected) → reported.after ≡ stop.at
      → reported.ends ≡ got.ended → AreTopsOf memo.cache.conts.items.items got.tops.items reported.dots.items
      → IsExpected (flat_of tables) x reported
  expected_there k got position there reported after ends dots =
      let same = state_there k got position there in
      record {
        last = subst (λ v. IsLastSet (flat_of tables) x v) (sym after) last_set;
        readers = subst (λ v. AreReadersAt (flat_of tables) x v reported.dots.items) (sym after)
            (readers_at reported.dots.items
            (subst (λ v. AreTopsOf memo.cache.conts.items.items v.tops.items reported.dots.items) same dots));
        end = subst (λ v. IsTrue reported.ends ↔ Holds (flat_of tables) x v (at (flat_of tables).start 1) 0) (sym after)
            (subst (λ v. (v ≡ true) ↔ Holds (flat_of tables) x stop.at (at (flat_of tables).start 1) 0)
            (sym (ends ∙ ap (λ v. v.ended) same)) end_held);
      }
