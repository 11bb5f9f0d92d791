-- States from which no more than so many symbols lead to the end.
-- Serves: is_over
use Rattle.std.proofs.Common.{◌≡◌, ◌⊎◌, inl, inr, ℕ, zero, suc, ◌+◌, ◌-◌, ◌<◌, ◌≤◌, length, refl, subst, arith}
use Rattle.std.specs.Prelude.{false, true, Some, slice_get}
use Rattle.std.proofs.Common.{Vec, Global}
use Rattle.std.proofs.lemmas.Bool.{cases_lt}
use Rattle.lazydfa.specs.StateSets.{grammar_of, last_in, StateSet}
use Rattle.rulelines.specs.Samples.{symbol_of}
use Rattle.rulelines.specs.declared.list.table.Table.{Table}
use Rattle.rulelines.specs.ListedSets.{listed_in}
use Rattle.rulelines.specs.StateTables.{AreRowsClosed, HasNoRestFrom, HaveNoRest, HasRestIn, IsCan}
use Rattle.rulelines.specs.StateTables.{IsStateTable, IsStep, TakesKeyIn}
use Rattle.rulelines.proofs.FirstKeyLemmas.{AreNotTaken, IsState, none_reported, step_leads}
use Rattle.rulelines.proofs.RestLemmas.{no_key, taken_key, taken_symbol}
use Rattle.rulelines.proofs.StatePairsLemmas.{element_at}
use Rattle.rulelines.proofs.StateTableLemmas.{one_element}

-- a false entry
pub no_rest : (table : Table) (n count : ℕ) (s : StateSet) → IsCan table n count false → IsState table n s
    → HasRestIn table s count → ⊥
no_rest table n count s can s_is h =
    let same : s ≡ can.state = one_element table.states.states n s can.state s_is can.is in
    let yes : false ≡ true = can.says.1 (subst (λ v. HasRestIn table v count) same h) in
    cc yes

-- the first states and one more
below_more : (A : ℕ → Type 0) (i : ℕ) → ((s : ℕ) → s < i → A s) → A i → (s : ℕ) → s < i + 1 → A s
below_more A i before here s lt = by (cases_lt s i)
  where
    by : (s < i) ⊎ (i ≤ s) → A s
    by (inl less) = before s less
    by (inr ge) = subst A (omega (arith, lt, ge)) here

pub closed_more : (table : Table) (i : ℕ) (row : Vec ℕ Global) → slice_get table.rows.items i ≡ Some row
    → length row.items ≡ length table.starts.items
    → ((j t : ℕ) → slice_get row.items j ≡ Some t → t < table.seen) → AreRowsClosed table i
    → AreRowsClosed table (i + 1)
closed_more table i row at size below before s lt =
    below_more (λ s. (row : Vec ℕ Global) × (slice_get table.rows.items s ≡ Some row)
    × (length row.items ≡ length table.starts.items)
    × ((j t : ℕ) → slice_get row.items j ≡ Some t → t < table.seen)) i before (row, at, size, below) s lt

pub none_more : (table : Table) (count i : ℕ) → IsCan table i count false → HaveNoRest table count i
    → HaveNoRest table count (i + 1)
none_more table count i can before n s lt =
    below_more (λ n. (s : StateSet) → IsState table n s → HasRestIn table s count → ⊥) i (λ n lt s. before n s lt)
    (λ s. no_rest table i count s can) n lt s

-- as many as there are
pub closed_all : (table : Table) (i : ℕ) → table.seen ≤ i → AreRowsClosed table i → AreRowsClosed table table.seen
closed_all table i le closed s lt = closed s (omega (arith, lt, le))

pub none_all : (table : Table) (count i : ℕ) → table.seen ≤ i → HaveNoRest table count i
    → HaveNoRest table count table.seen
none_all table count i le none n s lt = none n s (omega (arith, lt, le))

module _ (table : Table) (is : IsStateTable table) (closed : AreRowsClosed table table.seen) where
  -- the symbol of a start leads to a state that was reached
  taken_next : (k n j b : ℕ) (s : StateSet) → HaveNoRest table k table.seen → n < table.seen → IsState table n s
      → j < length table.starts.items → slice_get table.starts.items j ≡ Some b → TakesKeyIn table s b k → ⊥
  taken_next k n j b s none lt s_is within at_j taken =
      let row = closed n lt in
      let size = row.2 in
      let next = element_at row.0.items j (omega (arith, within, size)) in
      let to = is.rows_are n row.0 row.1 j b next.0 at_j next.1 in
      let symbol = taken_symbol (grammar_of table.states) (last_in table.states) (listed_in table.symbols) s b k
      taken in
      let step : IsStep table n (symbol_of b) next.0 = record { symbol = symbol.0; next = to } in
      let leads = step_leads table n (symbol_of b) next.0 s to.to step s_is to.to_is in
      none next.0 to.to (row.3 j next.0 next.1) to.to_is
      (taken_key (grammar_of table.states) (last_in table.states) (listed_in table.symbols) s to.to (symbol_of b) b k
      refl leads taken)

  -- no symbol has the key 0
  no_first : (k : ℕ) (s : StateSet) → TakesKeyIn table s 0 k → ⊥
  no_first k s taken =
      let e = (taken_symbol (grammar_of table.states) (last_in table.states) (listed_in table.symbols) s 0 k
      taken).1 in
      cc e

  one_longer : (k : ℕ) → HaveNoRest table k table.seen → HaveNoRest table (k + 1) table.seen
  one_longer k none n s lt s_is h =
      no_key (grammar_of table.states) (last_in table.states) (listed_in table.symbols) s k
      (none_reported table is n 0 k s s_is (no_first k s) (length table.starts.items) (omega arith) not_taken) h
    where
      not_taken : AreNotTaken table n 0 k (length table.starts.items)
      not_taken t t_is j b within at_j more taken = taken_next k n j b t none lt t_is within at_j taken

  all_longer : (count more : ℕ) → HaveNoRest table count table.seen → HaveNoRest table (count + more) table.seen
  all_longer count zero none =
      let e : count ≡ count + 0 = omega arith in
      subst (λ v. HaveNoRest table v table.seen) e none
  all_longer count (suc more) none =
      let e : count + more + 1 ≡ count + suc more = omega arith in
      subst (λ v. HaveNoRest table v table.seen) e (one_longer (count + more) (all_longer count more none))

  pub start_is_over : (count : ℕ) → table.start < table.seen → HaveNoRest table count table.seen
      → HasNoRestFrom table count
  start_is_over count lt none s k s_is le h =
      let e : k ≡ count + (k - count) = omega (arith, le) in
      all_longer count (k - count) none table.start s lt s_is (subst (λ v. HasRestIn table s v) e h)
