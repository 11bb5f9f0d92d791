-- Tables of states that grow.
-- Serves: first, after.
use Rattle.std.proofs.Common.{◌≡◌, ◌↔◌, ◌⊎◌, inl, inr, ℕ, zero, suc, ◌-◌, ◌<◌, ◌≤◌, List, [], ◌∷◌, ◌++◌, length}
use Rattle.std.proofs.Common.{refl, sym, ◌∙◌}
use Rattle.std.proofs.Common.{ap, subst, arith, append_assoc, append-nil, length-append, set, Vec, Global}
use Rattle.std.proofs.lemmas.Option.{slice_get_within}
use Rattle.std.specs.List.Sorted.{IsStrictlyIncreasing}
use Rattle.std.specs.Prelude.{Bool, true, slice_get, Some, Contains, IsTrue}
use Rattle.flatgrammar.specs.NodeSteps.{flat_of}
use Rattle.flatgrammar.proofs.SliceGetLemmas.{push_cases}
use Rattle.flatgrammar.specs.Stacks.{AreUncounted, IsStackClosure, IsNext, MarksLast}
use Rattle.lazydfa.specs.Conts.{last_of}
use Rattle.lazydfa.specs.RunVerdicts.{IsOne}
use Rattle.lazydfa.specs.StateSets.{AreMoreStates, grammar_of, IsNextState, IsStartState, last_in}
use Rattle.lazydfa.specs.StateSets.{StateSet, StateSets}
use Rattle.lazydfa.proofs.StateSetsLemmas.{got_at}
use Rattle.rulelines.specs.Alone.{AreOfGrammar}
use Rattle.rulelines.specs.FirstLines.{sort_key}
use Rattle.rulelines.specs.Samples.{symbol_of}
use Rattle.rulelines.specs.declared.list.table.Table.{Table}
use Rattle.rulelines.specs.ListedSets.{listed_in, symbol_set}
use Rattle.rulelines.specs.LineSets.{has_symbol}
use Rattle.rulelines.specs.Rests.{HasRest}
use Rattle.rulelines.specs.Starts.{AreClassStarts, IsLastUpTo}
use Rattle.rulelines.specs.StateTables.{AreLevelsOf, AreRowsOf, IsCanOf, IsEntryAdded, IsTableGrown}
use Rattle.rulelines.specs.StateTables.{IsRowOf}
use Rattle.rulelines.specs.StateTables.{HasRestIn, IsCan, IsStateTable, IsStep}
use Rattle.rulelines.proofs.SamplesLemmas.{key_symbol}
use Rattle.rulelines.proofs.SearchLemmas.{get_left}
use Rattle.rulelines.proofs.StatePairsLemmas.{element_at}
use Rattle.rulelines.proofs.StartsLemmas.{class_of_symbol}
use Rattle.rulelines.proofs.TakesLemmas.{next_alike}

pub one_element : {A : Type 0} (xs : List A) (k : ℕ) (x y : A) → slice_get xs k ≡ Some x → slice_get xs k ≡ Some y
    → x ≡ y
one_element xs k x y a b = cc (a, b)

-- states were added
module _ (old new : StateSets) (more : AreMoreStates old new) where
  pub state_kept : (n : ℕ) (s : StateSet) → slice_get old.states n ≡ Some s → slice_get new.states n ≡ Some s
  state_kept n s is = subst (λ v. slice_get v n ≡ Some s) (sym more.grown) (get_left old.states more.added n s is)

  pub more_length : length old.states ≤ length new.states
  more_length =
      let l = length-append old.states more.added in
      let e = ap (λ v. length v) more.grown in
      omega (arith, l, e)

  pub next_kept : (c s t : ℕ) → IsNextState old c s t → IsNextState new c s t
  next_kept c s t n = record {
    from = n.from;
    to = n.to;
    from_is = state_kept s n.from n.from_is;
    to_is = state_kept t n.to n.to_is;
    next = subst (λ v. IsNext (flat_of v) (last_of v) (Contains n.from.stacks) c (Contains n.to.stacks) n.to.ended)
        (sym more.same) n.next;
  }

  pub start_kept : (t : ℕ) → IsStartState old t → IsStartState new t
  start_kept t s = record {
    state = s.state;
    is = state_kept t s.state s.is;
    closure = λ x. subst (λ v. IsStackClosure (flat_of v) (last_of v) x 0 (Contains s.state.stacks) s.state.ended [])
        (sym more.same) (s.closure x);
  }

  pub grammar_kept : AreOfGrammar (grammar_of old) old → AreOfGrammar (grammar_of new) new
  grammar_kept a = record {
    is = refl;
    one = subst (λ v. IsOne (flat_of v)) (sym more.same) a.one;
    uncounted = subst (λ v. AreUncounted (flat_of v)) (sym more.same) a.uncounted;
    tail_positions = subst (λ v. MarksLast (flat_of v) (last_of v)) (sym more.same) a.tail_positions;
  }

  pub row_kept : (starts : List ℕ) (s : ℕ) (row : List ℕ) → IsRowOf old starts s row → IsRowOf new starts s row
  row_kept starts s row r j key t at_j is = next_kept (symbol_of key) s t (r j key t at_j is)

  pub rows_kept : (starts : List ℕ) (rows : List (Vec ℕ Global)) → AreRowsOf old starts rows
      → AreRowsOf new starts rows
  rows_kept starts rows are s row at_s = row_kept starts s row.items (are s row at_s)

  pub seen_kept : (seen : ℕ) → seen ≤ length old.states → seen ≤ length new.states
  seen_kept seen le = let more = more_length in omega (arith, le, more)

  pub can_kept : (has : ℕ → Bool) (s count : ℕ) (can : Bool) → IsCanOf old has s count can → IsCanOf new has s count can
  can_kept has s count can c = record {
    state = c.state;
    is = state_kept s c.state c.is;
    says = subst (λ v. (can ≡ true) ↔ HasRest (flat_of v) (last_of v) has c.state count) (sym more.same) c.says;
  }

pub more_trans : (a b c : StateSets) → AreMoreStates a b → AreMoreStates b c → AreMoreStates a c
more_trans a b c first then = record {
  same = then.same ∙ first.same;
  added = first.added ++ then.added;
  grown = then.grown ∙ (ap (λ v. v ++ then.added) first.grown ∙ append_assoc a.states first.added then.added);
}

pub no_more : (a : StateSets) → AreMoreStates a a
no_more a = record { same = refl; added = []; grown = sym (append-nil a.states) }

pub kept_self : (a : Table) → IsStateTable a → IsTableGrown a a
kept_self a is = record { is = is; more = no_more a.states; symbols = refl; start = refl }

pub kept_trans : (a b c : Table) → IsTableGrown a b → IsTableGrown b c → IsTableGrown a c
kept_trans a b c first then = record {
  is = then.is;
  more = more_trans a.states b.states c.states first.more then.more;
  symbols = then.symbols ∙ first.symbols;
  start = then.start ∙ first.start;
}

-- rows and levels were added
module _ (old new : Table) (is : IsStateTable old) (symbols : symbol_set new.symbols ≡ symbol_set old.symbols)
    (start : new.start ≡ old.start)
    (starts : new.starts.items ≡ old.starts.items) where
  pub levels_changed : new.states ≡ old.states → new.seen ≡ old.seen → new.rows.items ≡ old.rows.items
      → AreLevelsOf old.states (listed_in old.symbols) new.levels.items → IsTableGrown old new
  levels_changed states seen rows levels = record {
    is = record {
      grammar = subst (λ v. AreOfGrammar (grammar_of v) v) (sym states) is.grammar;
      begins = subst (λ v. IsStartState v new.start) (sym states)
          (subst (λ v. IsStartState old.states v) (sym start) is.begins);
      seen = subst (λ v. new.seen ≤ length v.states) (sym states)
          (subst (λ v. v ≤ length old.states.states) (sym seen) is.seen);
      starts_are = subst (λ v. AreClassStarts (grammar_of v) (listed_in new.symbols) new.starts.items) (sym states)
          (subst (λ v. AreClassStarts (grammar_of old.states) (has_symbol v) new.starts.items) (sym symbols)
          (subst (λ v. AreClassStarts (grammar_of old.states) (listed_in old.symbols) v) (sym starts) is.starts_are));
      rise = subst (λ v. IsStrictlyIncreasing v) (sym starts) is.rise;
      rows_are = subst (λ v. AreRowsOf v new.starts.items new.rows.items) (sym states)
          (subst (λ v. AreRowsOf old.states v new.rows.items) (sym starts)
          (subst (λ v. AreRowsOf old.states old.starts.items v) (sym rows) is.rows_are));
      levels_are = subst (λ v. AreLevelsOf v (listed_in new.symbols) new.levels.items) (sym states)
          (subst (λ v. AreLevelsOf old.states (has_symbol v) new.levels.items) (sym symbols) levels);
    };
    more = subst (λ v. AreMoreStates old.states v) (sym states) (no_more old.states);
    symbols = symbols;
    start = start;
  }

  pub states_added : (more : AreMoreStates old.states new.states) → new.seen ≤ length new.states.states
      → new.levels.items ≡ old.levels.items → AreRowsOf new.states old.starts.items new.rows.items
      → IsTableGrown old new
  states_added more seen levels rows = record {
    is = record {
      grammar = grammar_kept old.states new.states more is.grammar;
      begins = subst (λ v. IsStartState new.states v) (sym start)
          (start_kept old.states new.states more old.start is.begins);
      seen = seen;
      starts_are = subst (λ v. AreClassStarts (flat_of v) (listed_in new.symbols) new.starts.items) (sym more.same)
          (subst (λ v. AreClassStarts (grammar_of old.states) (has_symbol v) new.starts.items) (sym symbols)
          (subst (λ v. AreClassStarts (grammar_of old.states) (listed_in old.symbols) v) (sym starts) is.starts_are));
      rise = subst (λ v. IsStrictlyIncreasing v) (sym starts) is.rise;
      rows_are = subst (λ v. AreRowsOf new.states v new.rows.items) (sym starts) rows;
      levels_are = subst (λ v. AreLevelsOf new.states (has_symbol v) new.levels.items) (sym symbols)
          (subst (λ v. AreLevelsOf new.states (listed_in old.symbols) v) (sym levels)
          (λ count s level can at_count at_s. can_kept old.states new.states more (listed_in old.symbols) s count can
          (is.levels_are count s level can at_count at_s)));
    };
    more = more;
    symbols = symbols;
    start = start;
  }

-- an entry
pub entry_levels : (sets : StateSets) (has : ℕ → Bool) (old new : List (Vec Bool Global)) (count : ℕ) (can : Bool)
    (level : Vec Bool Global) → slice_get old count ≡ Some level → AreLevelsOf sets has old
    → IsEntryAdded old count can new → IsCanOf sets has (length level.items) count can → AreLevelsOf sets has new
entry_levels sets has old new count can level at_count are added is k s other value at_k at_s = by (added k other at_k)
  where
    at_end : (was : Vec Bool Global) → slice_get old count ≡ Some was
        → (slice_get was.items s ≡ Some value) ⊎ ((s ≡ length was.items) × (can ≡ value))
        → IsCanOf sets has s count value
    at_end was was_at (inl h) = are count s was value was_at h
    at_end was was_at (inr h) =
        let same : level ≡ was = one_element old count level was at_count was_at in
        let here : length level.items ≡ s = ap (λ v. length v.items) same ∙ sym h.0 in
        subst (λ v. IsCanOf sets has s count v) h.1 (subst (λ v. IsCanOf sets has v count can) here is)

    by : (slice_get old k ≡ Some other) ⊎ ((k ≡ count) × (was : Vec Bool Global) × (slice_get old k ≡ Some was)
        × (other.items ≡ was.items ++ can ∷ [])) → IsCanOf sets has s k value
    by (inl h) = are k s other value h at_s
    by (inr h) =
        subst (λ v. IsCanOf sets has s v value) (sym h.0)
        (at_end h.1 (subst (λ v. slice_get old v ≡ Some h.1) h.0 h.2)
        (push_cases h.1.items can s value (subst (λ v. slice_get v s ≡ Some value) h.3 at_s)))

-- an empty level
pub level_begun : (sets : StateSets) (has : ℕ → Bool) (old new : List (Vec Bool Global)) (level : Vec Bool Global)
    → level.items ≡ [] → new ≡ old ++ level ∷ [] → AreLevelsOf sets has old → AreLevelsOf sets has new
level_begun sets has old new level none grown are count s other can at_count at_s =
    by (push_cases old level count other (subst (λ v. slice_get v count ≡ Some other) grown at_count))
  where
    by : (slice_get old count ≡ Some other) ⊎ ((count ≡ length old) × (level ≡ other)) → IsCanOf sets has s count can
    by (inl h) = are count s other can h at_s
    by (inr h) =
        let empty : other.items ≡ [] = ap (λ v. v.items) (sym h.1) ∙ none in
        absurd (let e = subst (λ v. slice_get v s ≡ Some can) empty at_s in cc e)

-- a row
pub row_added : (old new : StateSets) → AreMoreStates old new → (starts : List ℕ) (rows others : List (Vec ℕ Global))
    (row : Vec ℕ Global) → AreRowsOf old starts rows → IsRowOf new starts (length rows) row.items
    → others ≡ rows ++ row ∷ [] → AreRowsOf new starts others
row_added old new more starts rows others row are is grown s got at_s =
    by (push_cases rows row s got (subst (λ v. slice_get v s ≡ Some got) grown at_s))
  where
    by : (slice_get rows s ≡ Some got) ⊎ ((s ≡ length rows) × (row ≡ got)) → IsRowOf new starts s got.items
    by (inl h) = row_kept old new more starts s got.items (are s got h)
    by (inr h) = subst (λ v. IsRowOf new starts s v.items) h.1
        (subst (λ v. IsRowOf new starts v row.items) (sym h.0) is)

-- a row grows
pub row_begun : (sets : StateSets) (starts : List ℕ) (s : ℕ) (row : List ℕ) → row ≡ [] → IsRowOf sets starts s row
row_begun sets starts s row none j key t at_j is =
    absurd (let e = subst (λ v. slice_get v j ≡ Some t) none is in cc e)

pub row_more : (old new : StateSets) → AreMoreStates old new → (starts : List ℕ) (s n : ℕ) (row more : List ℕ)
    (key t : ℕ) → IsRowOf old starts s row → length row ≡ n → slice_get starts n ≡ Some key
    → IsNextState new (symbol_of key) s t → more ≡ row ++ t ∷ [] → IsRowOf new starts s more
row_more old new added starts s n row more key t are count at_n next is j other to at_j to_is =
    by (push_cases row t j to (subst (λ v. slice_get v j ≡ Some to) is to_is))
  where
    by : (slice_get row j ≡ Some to) ⊎ ((j ≡ length row) × (t ≡ to)) → IsNextState new (symbol_of other) s to
    by (inl h) = next_kept old new added (symbol_of other) s to (are j other to at_j h)
    by (inr h) =
        let here : n ≡ j = sym count ∙ sym h.0 in
        let same : key ≡ other =
        one_element starts j key other (subst (λ v. slice_get starts v ≡ Some key) here at_n) at_j in
        subst (λ v. IsNextState new (symbol_of other) s v) h.1
        (subst (λ v. IsNextState new (symbol_of v) s t) same next)

pub row_within : (sets : StateSets) (starts : List ℕ) (s : ℕ) (row : List ℕ) → length row ≤ length starts
    → IsRowOf sets starts s row → (t : ℕ) → Contains row t → t < length sets.states
row_within sets starts s row le are t h =
    let at_j = got_at row t h in
    let lt = h.1 in
    let key = element_at starts h.0 (omega (arith, lt, le)) in
    let n = are h.0 key.0 t key.1 at_j in
    slice_get_within sets.states t n.to n.to_is

-- an entry of a state that was reached
pub entry_can : (table : Table) → IsStateTable table → (n count : ℕ) (can : Bool) → n < table.seen
    → ((s : StateSet) → slice_get table.states.states n ≡ Some s → IsTrue can ↔ HasRestIn table s count)
    → IsCan table n count can
entry_can table is n count can lt says =
    let g = element_at table.states.states n (let le = is.seen in omega (arith, lt, le)) in
    record { state = g.0; is = g.1; says = says g.0 g.1 }

-- one element of a list is another
pub set_cases : {A : Type 0} (xs : List A) (n : ℕ) (x : A) (k : ℕ) (y : A) → slice_get (set xs n x) k ≡ Some y
    → (slice_get xs k ≡ Some y) ⊎ ((k ≡ n) × (x ≡ y))
set_cases [] n x k y is = absurd (cc is)
set_cases (z ∷ xs) zero x zero y is = inr (refl, cc is)
set_cases (z ∷ xs) zero x (suc k) y is = inl is
set_cases (z ∷ xs) (suc n) x zero y is = inl is
set_cases (z ∷ xs) (suc n) x (suc k) y is = by (set_cases xs n x k y is)
  where
    by : (slice_get xs k ≡ Some y) ⊎ ((k ≡ n) × (x ≡ y)) → (slice_get xs k ≡ Some y) ⊎ ((suc k ≡ suc n) × (x ≡ y))
    by (inl h) = inl h
    by (inr h) = inr (ap suc h.0, h.1)

pub entry_added : (old : List (Vec Bool Global)) (count : ℕ) (can : Bool) (was now : Vec Bool Global)
    → slice_get old count ≡ Some was → now.items ≡ was.items ++ can ∷ []
    → IsEntryAdded old count can (set old count now)
entry_added old count can was now at_count grown k level at_k = by (set_cases old count now k level at_k)
  where
    by : (slice_get old k ≡ Some level) ⊎ ((k ≡ count) × (now ≡ level))
        → (slice_get old k ≡ Some level) ⊎ ((k ≡ count) × (was : Vec Bool Global) × (slice_get old k ≡ Some was)
        × (level.items ≡ was.items ++ can ∷ []))
    by (inl h) = inl h
    by (inr h) = inr (
      h.0,
      was,
      subst (λ v. slice_get old v ≡ Some was) (sym h.0) at_count,
      ap (λ v. v.items) (sym h.1) ∙ grown,
    )

-- the state that a symbol leads to
pub step_reported : (table : Table) → IsStateTable table → (c s j t : ℕ) (row : Vec ℕ Global)
    → listed_in table.symbols c ≡ true → IsLastUpTo table.starts.items (sort_key c) j
    → slice_get table.rows.items s ≡ Some row → slice_get row.items j ≡ Some t → IsStep table s c t
step_reported table is c s j t row symbol last at_s at_j = record { symbol = symbol; next = led }
  where
    led : IsNextState table.states c s t
    led =
        let start = last.start in
        let le = last.within in
        let g = class_of_symbol (grammar_of table.states) (listed_in table.symbols) table.starts.items
        is.starts_are start
        (sort_key c - start) c last.last (omega (arith, le)) symbol in
        let b : symbol_of start ≡ g.0 = ap symbol_of (sym g.1) ∙ key_symbol g.0 in
        let n = subst (λ v. IsNextState table.states v s t) b (is.rows_are s row at_s j start t last.is at_j) in
        record {
          from = n.from;
          to = n.to;
          from_is = n.from_is;
          to_is = n.to_is;
          next = next_alike (grammar_of table.states) (last_in table.states) g.2 (Contains n.from.stacks)
              (Contains n.to.stacks) n.to.ended n.next;
        }
