-- Words that a table fills, and changes of a line.
-- Serves: first, after.
use Rattle.std.proofs.Common.{◌≡◌, ℕ, zero, suc, ◌+◌, ◌-◌, ◌<◌, ◌≤◌, List, [], ◌∷◌, ◌++◌, length}
use Rattle.std.proofs.Common.{refl, sym, ◌∙◌}
use Rattle.std.proofs.Common.{ap, subst, arith, append_assoc, append-nil, drop, take, length-drop}
use Rattle.std.specs.Option.{is_some}
use Rattle.std.specs.Prelude.{Bool, true, false, Option, None, Some, slice_get, Contains}
use Rattle.flatgrammar.specs.Stacks.{IsNext}
use Rattle.lazydfa.specs.StateSets.{grammar_of, last_in, StateSet}
use Rattle.rulelines.specs.FirstLines.{shorter, sort_key}
use Rattle.rulelines.specs.Samples.{symbol_of}
use Rattle.rulelines.specs.declared.list.search.Change.{Change}
use Rattle.rulelines.specs.declared.list.table.Table.{Table}
use Rattle.rulelines.specs.ListedSets.{listed_in}
use Rattle.rulelines.specs.StateTables.{HasNoNextRestIn, IsChange, IsChangedTo, IsFilledBy}
use Rattle.rulelines.specs.StateTables.{IsFirstKeyIn}
use Rattle.rulelines.specs.StateTables.{IsFirstRestIn, IsLastChange, IsNextBy, IsNextRestIn, IsStep}
use Rattle.rulelines.proofs.FirstKeyLemmas.{IsState, step_leads}
use Rattle.rulelines.proofs.RestLemmas.{changed_next, first_ended, first_more, next_on, none_next}

drop_at : (xs : List ℕ) (k c : ℕ) → slice_get xs k ≡ Some c → drop k xs ≡ c ∷ drop (k + 1) xs
drop_at [] k c is = cc is
drop_at (x ∷ xs) zero c is = ap (λ v. v ∷ xs) (cc is)
drop_at (x ∷ xs) (suc k) c is =
    let next : suc (k + 1) ≡ suc k + 1 = omega arith in
    drop_at xs k c is ∙ ap (λ v. c ∷ drop v (x ∷ xs)) next

take_at : (xs : List ℕ) (k c : ℕ) → slice_get xs k ≡ Some c → take (k + 1) xs ≡ take k xs ++ c ∷ []
take_at [] k c is = cc is
take_at (x ∷ xs) zero c is = ap (λ v. v ∷ []) (cc is)
take_at (x ∷ xs) (suc k) c is =
    let next : suc k + 1 ≡ suc (k + 1) = omega arith in
    ap (λ v. take v (x ∷ xs)) next ∙ ap (λ v. x ∷ v) (take_at xs k c is)

none_left : (xs : List ℕ) (k : ℕ) → length xs ≤ k → drop k xs ≡ []
none_left [] zero le = refl
none_left [] (suc k) le = refl
none_left (x ∷ xs) zero le = absurd (omega (arith, le))
none_left (x ∷ xs) (suc k) le = none_left xs k (omega (arith, le))

module _ (table : Table) where
  -- so many symbols of a word were taken, which lead to a state
  pub record IsFilling (first : StateSet) (count done at : ℕ) (old word : List ℕ) : Type 0 where
    pub here : StateSet
    pub is : IsState table at here
    pub taken : List ℕ
    pub word_is : word ≡ old ++ taken
    pub on : (left : ℕ) → left + done ≡ count → (u : List ℕ) → IsFirstRestIn table here left u
        → IsFirstRestIn table first count (taken ++ u)

  pub filling_begun : (first : StateSet) (count at : ℕ) (old : List ℕ) → IsState table at first
      → IsFilling first count 0 at old old
  filling_begun first count at old is = record {
    here = first;
    is = is;
    taken = [];
    word_is = sym (append-nil old);
    on = λ left e u h. subst (λ v. IsFirstRestIn table first v u) (omega (arith, e)) h;
  }

  pub filling_more : (first : StateSet) (count done at key next rest c : ℕ) (old word new : List ℕ)
      → rest + (done + 1) ≡ count → IsFilling first count done at old word
      → ((s : StateSet) → IsState table at s → IsFirstKeyIn table s 0 rest (Some key)) → c ≡ symbol_of key
      → IsStep table at c next → new ≡ word ++ c ∷ [] → IsFilling first count (done + 1) next old new
  filling_more first count done at key next rest c old word new size f found is step added = record {
    here = step.next.to;
    is = step.next.to_is;
    taken = f.taken ++ c ∷ [];
    word_is = added ∙ (ap (λ v. v ++ c ∷ []) f.word_is ∙ append_assoc old f.taken (c ∷ []));
    on = λ left e u h. subst (λ v. IsFirstRestIn table first count v) (sym (append_assoc f.taken (c ∷ []) u))
        (f.on (left + 1) (omega (arith, e)) (c ∷ u)
        (subst (λ v. IsFirstRestIn table f.here (left + 1) (v ∷ u)) (sym is)
        (first_more (grammar_of table.states) (last_in table.states) (listed_in table.symbols) f.here step.next.to left
        (left + 1) key (omega arith)
        (subst (λ v. IsFirstKeyIn table f.here 0 v (Some key)) (omega (arith, e, size)) (found f.here f.is))
        (subst (λ v. IsNext (grammar_of table.states) (last_in table.states) (Contains f.here.stacks) v
        (Contains step.next.to.stacks) step.next.to.ended) is
        (step_leads table at c next f.here step.next.to step f.is step.next.to_is)) u h)));
  }

  pub filling_done : (first : StateSet) (count done at : ℕ) (old word : List ℕ) → count ≡ done
      → IsFilling first count done at old word → (ended : Bool)
      → ((s : StateSet) → IsState table at s → ended ≡ s.ended) → ended ≡ true
      → (u : List ℕ) × IsFirstRestIn table first count u × (word ≡ old ++ u)
  filling_done first count done at old word size f ended reported is = (
    f.taken,
    subst (λ v. IsFirstRestIn table first count v) (append-nil f.taken)
        (f.on 0 (omega (arith, size)) []
        (first_ended (grammar_of table.states) (last_in table.states) (listed_in table.symbols) f.here
        (sym (reported f.here f.is) ∙ is))),
    f.word_is,
  )

  -- a line was walked up to an index, which leads to a state
  pub record IsWalk (first : StateSet) (line : List ℕ) (at state : ℕ) (best : Option Change) : Type 0 where
    pub here : StateSet
    pub is : IsState table state here
    pub on : (v : List ℕ) → IsNextRestIn table here (drop at line) v → IsNextRestIn table first line (take at line ++ v)
    pub best_is : HasNoNextRestIn table here (drop at line) → IsLastChange table first line best

  pub walk_begun : (first : StateSet) (line : List ℕ) (state : ℕ) → IsState table state first
      → IsWalk first line 0 state None
  walk_begun first line state is = record { here = first; is = is; on = λ v h. h; best_is = λ none. none }

  none_after : (s : StateSet) → HasNoNextRestIn table s []
  none_after s [] r (shorter lt) = omega (arith, lt)
  none_after s (c ∷ v) r b = let e = r.count in omega (arith, e)

  pub walk_done : (first : StateSet) (line : List ℕ) (at state : ℕ) (best : Option Change) → length line ≤ at
      → IsWalk first line at state best → IsLastChange table first line best
  walk_done first line at state best le w =
      w.best_is (subst (λ x. HasNoNextRestIn table w.here x) (sym (none_left line at le)) (none_after w.here))

  module _ (first : StateSet) (line : List ℕ) (at state c next rest : ℕ) (best : Option Change)
      (at_c : slice_get line at ≡ Some c) (within : at < length line) (size : rest ≡ length line - 1 - at)
      (w : IsWalk first line at state best) (step : IsStep table state c next) where
    abbrev Left : List ℕ
    Left = drop (at + 1) line

    rest_is : rest ≡ length Left
    rest_is = omega (arith, size, within, length-drop (at + 1) line)

    left_is : drop at line ≡ c ∷ Left
    left_is = drop_at line at c at_c

    abbrev Leads : StateSet → ℕ → StateSet → Type 0
    Leads s d t = IsNext (grammar_of table.states) (last_in table.states) (Contains s.stacks) d (Contains t.stacks)
        t.ended

    step_on : Leads w.here c step.next.to
    step_on = step_leads table state c next w.here step.next.to step w.is step.next.to_is

    walk_on : (v : List ℕ) → IsNextRestIn table w.here (c ∷ Left) v → IsNextRestIn table first line (take at line ++ v)
    walk_on v h = w.on v (subst (λ x. IsNextRestIn table w.here x v) (sym left_is) h)

    next_walk : (new : Option Change)
        → (HasNoNextRestIn table step.next.to Left → IsLastChange table first line new)
        → IsWalk first line (at + 1) next new
    next_walk new reported = record {
      here = step.next.to;
      is = step.next.to_is;
      on = λ v h. subst (λ x. IsNextRestIn table first line x)
          (sym (append_assoc (take at line) (c ∷ []) v) ∙ ap (λ x. x ++ v) (sym (take_at line at c at_c)))
          (walk_on (c ∷ v)
          (next_on (grammar_of table.states) (last_in table.states) (listed_in table.symbols) w.here step.next.to c
          Left step_on step.symbol v h));
      best_is = reported;
    }

    same_best : ((s : StateSet) → IsState table state s → IsFirstKeyIn table s (sort_key c + 1) rest None)
        → HasNoNextRestIn table step.next.to Left → IsLastChange table first line best
    same_best never none =
        w.best_is (subst (λ x. HasNoNextRestIn table w.here x) (sym left_is)
        (none_next (grammar_of table.states) (last_in table.states) (listed_in table.symbols) w.here step.next.to c
        Left step_on step.symbol none
        (subst (λ x. IsFirstKeyIn table w.here (sort_key c + 1) x None) rest_is (never w.here w.is))))

    new_best : (change : Change) → IsChange table state w.here (sort_key c + 1) rest at (Some change)
        → HasNoNextRestIn table step.next.to Left → IsNextBy table first line change
    new_best change reported none =
        let here = reported.0 in
        let on = reported.1 in
        let key = reported.2 in
        let same = reported.4 in
        record {
          within = subst (λ x. x < length line) (sym here) within;
          to = on.next.to;
          to_is = on.next.to_is;
          next = λ u h. subst (λ x. IsNextRestIn table first line (take change.at line ++ x ∷ u))
              (sym same)
              (subst (λ x. IsNextRestIn table first line (take x line ++ symbol_of key ∷ u)) (sym here)
              (walk_on (symbol_of key ∷ u)
              (changed_next (grammar_of table.states) (last_in table.states) (listed_in table.symbols) w.here
              step.next.to c Left step_on step.symbol key on.next.to u none
              (subst (λ x. IsFirstKeyIn table w.here (sort_key c + 1) x (Some key)) rest_is reported.3)
              (subst (λ v. Leads w.here v on.next.to) same
              (step_leads table state change.symbol change.state w.here on.next.to on w.is on.next.to_is))
              (subst (λ x. IsFirstRestIn table on.next.to x u) (ap (λ x. length line - 1 - x) here ∙ sym size ∙ rest_is)
              h))));
        }

    pub walk_more : (change new : Option Change)
        → ((s : StateSet) → IsState table state s → IsChange table state s (sort_key c + 1) rest at change)
        → (is_some change ≡ true → new ≡ change) → (is_some change ≡ false → new ≡ best)
        → IsWalk first line (at + 1) next new
    walk_more None new reported here there =
        subst (λ x. IsWalk first line (at + 1) next x) (sym (there refl)) (next_walk best (same_best reported))
    walk_more (Some change) new reported here there =
        subst (λ x. IsWalk first line (at + 1) next x) (sym (here refl))
        (next_walk (Some change) (new_best change (reported w.here w.is)))

  -- the first line of a change
  pub changed_made : (line first second word : List ℕ) (change : Change) (count : ℕ)
      → count ≡ length line - 1 - change.at → first ≡ take change.at line → second ≡ first ++ change.symbol ∷ []
      → IsFilledBy table change.state count second word → IsChangedTo table line change word
  changed_made line first second word change count size begun added filled t is =
      let f = filled t is in (
        f.0,
        subst (λ v. IsFirstRestIn table t v f.0) size f.1,
        f.2 ∙ (ap (λ v. v ++ f.0) (added ∙ ap (λ v. v ++ change.symbol ∷ []) begun)
            ∙ append_assoc (take change.at line) (change.symbol ∷ []) f.0),
      )
