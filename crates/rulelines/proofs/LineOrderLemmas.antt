-- Lines of a table, and the line after another.
-- Serves: first, after.
use Rattle.std.proofs.Common.{◌≡◌, ◌⊎◌, inl, inr, ℕ, ◌+◌, ◌<◌, ◌≤◌, List, [], ◌∷◌, ◌++◌, length}
use Rattle.std.proofs.Common.{refl, sym, ◌∙◌}
use Rattle.std.proofs.Common.{ap, subst, arith, take, Vec, Global, ◌&&◌, not, eqb}
use Rattle.std.proofs.lemmas.Bool.{cases_lt}
use Rattle.std.specs.Prelude.{Bool, true, false}
use Rattle.abnfcheck.specs.Derivable.{AreLetters}
use Rattle.flatgrammar.specs.NodeSteps.{flat_of}
use Rattle.ruletable.specs.Letters.{has}
use Rattle.ruletable.specs.declared.alphabet.Alphabet.{Alphabet}
use Rattle.flatgrammar.proofs.StacksLemmas.{accepted_holds, holds_accepted}
use Rattle.lazydfa.specs.StateSets.{grammar_of, last_in, StateSet}
use Rattle.rulelines.specs.FirstLines.{ComesFirst, IsShortlexBefore, shorter}
use Rattle.rulelines.specs.declared.list.lines.NextLine.{NextLine}
use Rattle.rulelines.specs.declared.list.lines.NextLine.TheVariants.{Line, Done}
use Rattle.rulelines.specs.declared.list.search.Change.{Change}
use Rattle.rulelines.specs.declared.list.table.Table.{Table}
use Rattle.rulelines.specs.ListedSets.{listed_in, symbol_set}
use Rattle.rulelines.specs.LineSets.{IsLineAfter, IsFirstAfter, is_line_symbol, IsLineIn}
use Rattle.rulelines.specs.Rests.{IsRest}
use Rattle.rulelines.specs.StateTables.{
  HasNoNextRestIn,
  HasNoRestFrom,
  IsCan,
  IsChangedTo,
  IsFilledBy,
  IsFirstFrom,
}
use Rattle.rulelines.specs.StateTables.{IsFirstRestIn, IsTableGrown, IsNextBy, IsNextRestIn, IsStateTable}
use Rattle.rulelines.specs.StateTables.{table_lines}
use Rattle.rulelines.proofs.ComesFirstLemmas.{before_length}
use Rattle.rulelines.proofs.FirstKeyLemmas.{IsState}
use Rattle.rulelines.proofs.StateTableLemmas.{one_element}
use Rattle.rulelines.proofs.TakesLemmas.{accepted_takes, takes_accepted}

-- symbols of a line are symbols of the alphabet
pub inner_has : (alphabet : Alphabet) (terminator c : ℕ) → is_line_symbol alphabet terminator c ≡ true
    → has alphabet c ≡ true
inner_has alphabet terminator c is = by (has alphabet c) refl
  where
    by : (b : Bool) → has alphabet c ≡ b → has alphabet c ≡ true
    by true e = e
    by false e = absurd (let f = subst (λ v. (v && not (eqb c terminator)) ≡ true) e is in cc f)

pub inner_letters : (alphabet : Alphabet) (terminator : ℕ) (w : List ℕ)
    → AreLetters (is_line_symbol alphabet terminator) w → AreLetters (has alphabet) w
inner_letters alphabet terminator [] all = tt
inner_letters alphabet terminator (c ∷ w) all =
    (inner_has alphabet terminator c all.0, inner_letters alphabet terminator w all.1)

-- the lines of a table
pub lines_same : (old new : Table) (limit : ℕ) → IsTableGrown old new → table_lines new limit ≡ table_lines old limit
lines_same old new limit k =
    ap (λ v. record { flat = flat_of v; symbols = symbol_set new.symbols; limit = limit }) k.more.same
    ∙ ap (λ v. record { flat = grammar_of old.states; symbols = v; limit = limit }) k.symbols

module _ (table : Table) (is : IsStateTable table) (limit : ℕ) where
  abbrev Start : StateSet
  Start = is.begins.state

  abbrev Lines : List ℕ → Type 0
  Lines = IsLineIn (table_lines table limit)

  abbrev IsStartRest : ℕ → List ℕ → Type 0
  IsStartRest = IsRest (grammar_of table.states) (last_in table.states) (listed_in table.symbols) Start

  pub rest_line : (w : List ℕ) (k : ℕ) → k ≤ limit → IsStartRest k w → Lines w
  rest_line w k le r = record {
    symbols = r.symbols;
    within = (let e = r.count in omega (arith, e, le));
    derives = accepted_holds (grammar_of table.states) is.grammar.uncounted w (last_in table.states)
        is.grammar.tail_positions is.grammar.one.0 is.grammar.one.1
        (takes_accepted (grammar_of table.states) (last_in table.states) Start is.begins.closure w r.takes);
  }

  pub line_rest : (w : List ℕ) (k : ℕ) → length w ≡ k → Lines w → IsStartRest k w
  line_rest w k size l = record {
    symbols = l.symbols;
    count = size;
    takes = accepted_takes (grammar_of table.states) (last_in table.states) Start is.begins.closure w
        (holds_accepted (grammar_of table.states) is.grammar.uncounted w (last_in table.states)
        is.grammar.tail_positions is.grammar.one.0 is.grammar.one.1 l.derives);
  }

  -- no line is that long
  abbrev pub AreNoLines : ℕ → ℕ → Type 0
  AreNoLines least count = (v : List ℕ) → Lines v → least ≤ length v → length v < count → ⊥

  pub no_line_more : (least count : ℕ) → AreNoLines least count → IsCan table table.start count false
      → AreNoLines least (count + 1)
  no_line_more least count none can v l le lt = by (cases_lt (length v) count)
    where
      by : (length v < count) ⊎ (count ≤ length v) → ⊥
      by (inl less) = none v l le less
      by (inr ge) =
          let same : Start ≡ can.state =
          one_element table.states.states table.start Start can.state is.begins.is can.is in
          let reported : false ≡ true = can.says.1 (
            v,
            subst (λ s. IsRest (grammar_of table.states) (last_in table.states) (listed_in table.symbols) s count v)
                same (line_rest v count (omega (arith, lt, ge)) l),
          ) in
          cc reported

  pub no_line_from : (least count : ℕ) → limit < count → AreNoLines least count → (v : List ℕ) → Lines v
      → least ≤ length v → ⊥
  no_line_from least count over none v l le =
      none v l le (let within = l.within in omega (arith, within, over))

  pub first_line_from : (least count : ℕ) (word : List ℕ) → least ≤ count → count ≤ limit → AreNoLines least count
      → IsFilledBy table table.start count [] word
      → Lines word × (least ≤ length word) × ((v : List ℕ) → Lines v → least ≤ length v → ComesFirst word v)
  first_line_from least count word from within none filled =
      let f = filled Start is.begins.is in
      let u = f.0 in
      let same : u ≡ word = sym f.2 in
      let size = f.1.is.count in
      subst (λ x. Lines x × (least ≤ length x) × ((v : List ℕ) → Lines v → least ≤ length v → ComesFirst x v)) same (
        rest_line u count within f.1.is,
        omega (arith, size, from),
        λ v l le. by u f.1 size v l le (cases_lt (length v) count) (cases_lt count (length v)),
      )
    where
      by : (u : List ℕ) → IsFirstRestIn table Start count u → length u ≡ count → (v : List ℕ) → Lines v
          → least ≤ length v → (length v < count) ⊎ (count ≤ length v) → (count < length v) ⊎ (length v ≤ count)
          → ComesFirst u v
      by u first size v l le (inl less) _ = absurd (none v l le less)
      by u first size v l le (inr ge) (inl more) = inr (shorter (omega (arith, size, more)))
      by u first size v l le (inr ge) (inr most) = first.first v (line_rest v count (omega (arith, ge, most)) l)

  -- no line of the same length is after a line
  no_line_equal : (line v : List ℕ) → HasNoNextRestIn table Start line → Lines v → IsShortlexBefore line v
      → length line + 1 ≤ length v
  no_line_equal line v none l b = by (cases_lt (length line) (length v))
    where
      by : (length line < length v) ⊎ (length v ≤ length line) → length line + 1 ≤ length v
      by (inl lt) = omega (arith, lt)
      by (inr le) = absurd (none v (line_rest v (length line) (let ge = before_length b in omega (arith, le, ge)) l) b)

  pub after_longer : (line : List ℕ) (step : NextLine) → HasNoNextRestIn table Start line
      → IsFirstFrom Lines (length line + 1) step → IsLineAfter Lines line step
  after_longer line (Line w) none f = record {
    is_line = f.0;
    later = shorter (let le = f.1 in omega (arith, le));
    first = λ v l b. f.2 v l (no_line_equal line v none l b);
  }
  after_longer line Done none f = λ v l b. f v l (no_line_equal line v none l b)

  pub after_changed : (line word : List ℕ) (change : Change) → length line ≤ limit
      → IsNextBy table Start line change → IsChangedTo table line change word → IsFirstAfter Lines line word
  after_changed line word change within next changed =
      let g = changed next.to next.to_is in
      let same : take change.at line ++ change.symbol ∷ g.0 ≡ word = sym g.2 in
      let n = subst (λ x. IsNextRestIn table Start line x) same (next.next g.0 g.1) in
      let size = n.is.count in
      record {
        is_line = rest_line word (length line) within n.is;
        later = n.later;
        first = λ v l b. by n size v l b (cases_lt (length line) (length v));
      }
    where
      by : IsNextRestIn table Start line word → length word ≡ length line → (v : List ℕ) → Lines v
          → IsShortlexBefore line v → (length line < length v) ⊎ (length v ≤ length line) → ComesFirst word v
      by n size v l b (inl lt) = inr (shorter (omega (arith, size, lt)))
      by n size v l b (inr le) =
          n.first v (line_rest v (length line) (let ge = before_length b in omega (arith, le, ge)) l) b

-- the same of the lines of the table that has grown
module _ (old table : Table) (limit : ℕ) (grown : IsTableGrown old table) where
  abbrev Olds : List ℕ → Type 0
  Olds = IsLineIn (table_lines old limit)

  abbrev pub AreNoOldLines : ℕ → ℕ → Type 0
  AreNoOldLines least count = (v : List ℕ) → Olds v → least ≤ length v → length v < count → ⊥

  same_lines : table_lines table limit ≡ table_lines old limit
  same_lines = lines_same old table limit grown

  none_now : (least count : ℕ) → AreNoOldLines least count → AreNoLines table grown.is limit least count
  none_now least count none v l = none v (subst (λ set. IsLineIn set v) same_lines l)

  pub line_found : (least count : ℕ) (word : Vec ℕ Global) → least ≤ count → count ≤ limit
      → AreNoOldLines least count → IsFilledBy table table.start count [] word.items
      → IsFirstFrom Olds least (Line word)
  line_found least count word from within none filled =
      subst (λ set. IsFirstFrom (IsLineIn set) least (Line word)) same_lines
      (first_line_from table grown.is limit least count word.items from within (none_now least count none) filled)

  pub none_found : (least count : ℕ) → AreNoOldLines least count → IsCan table table.start count false
      → AreNoOldLines least (count + 1)
  none_found least count none can =
      subst (λ set. (v : List ℕ) → IsLineIn set v → least ≤ length v → length v < count + 1 → ⊥) same_lines
      (no_line_more table grown.is limit least count (none_now least count none) can)

  pub none_longer : (least count : ℕ) → AreNoOldLines least count → HasNoRestFrom table count
      → IsFirstFrom Olds least Done
  none_longer least count none over v l le = by (cases_lt (length v) count)
    where
      by : (length v < count) ⊎ (count ≤ length v) → ⊥
      by (inl less) = none v l le less
      by (inr ge) =
          let now = subst (λ set. IsLineIn set v) (sym same_lines) l in
          over grown.is.begins.state (length v) grown.is.begins.is ge
          (v, line_rest table grown.is limit v (length v) refl now)

  pub after_none : (line : List ℕ) (step : NextLine)
      → ((s : StateSet) → IsState table table.start s → HasNoNextRestIn table s line)
      → IsFirstFrom (IsLineIn (table_lines table limit)) (length line + 1) step → IsLineAfter Olds line step
  after_none line step none f =
      subst (λ set. IsLineAfter (IsLineIn set) line step) same_lines
      (after_longer table grown.is limit line step (none grown.is.begins.state grown.is.begins.is) f)

  pub after_change : (line : List ℕ) (word : Vec ℕ Global) (change : Change) → length line ≤ limit
      → ((s : StateSet) → IsState table table.start s → IsNextBy table s line change)
      → IsChangedTo table line change word.items → IsLineAfter Olds line (Line word)
  after_change line word change within next changed =
      subst (λ set. IsLineAfter (IsLineIn set) line (Line word)) same_lines
      (after_changed table grown.is limit line word.items change within
      (next grown.is.begins.state grown.is.begins.is) changed)

pub none_left_over : (old : Table) (limit least count : ℕ) → limit < count
    → ((v : List ℕ) → IsLineIn (table_lines old limit) v → least ≤ length v → length v < count → ⊥)
    → IsFirstFrom (IsLineIn (table_lines old limit)) least Done
none_left_over old limit least count over none v l le =
    none v l le (let within = l.within in omega (arith, within, over))
