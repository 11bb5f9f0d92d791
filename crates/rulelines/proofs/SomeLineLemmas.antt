-- Lines by lot.
-- Serves: by_lot.
use Rattle.std.proofs.Common.{◌≡◌, ℕ, ◌+◌, ◌≤◌, List, [], ◌∷◌, ◌++◌, length, refl, sym, ◌∙◌}
use Rattle.std.proofs.Common.{subst, arith, append_assoc, append-nil, length-append, Vec, Global}
use Rattle.std.specs.Prelude.{Bool, true}
use Rattle.abnfcheck.specs.Derivable.{AreLetters}
use Rattle.lazydfa.specs.StateSets.{grammar_of, last_in, StateSet}
use Rattle.rulelines.specs.declared.list.lines.NextLine.{NextLine}
use Rattle.rulelines.specs.declared.list.lines.NextLine.TheVariants.{Line, Done}
use Rattle.rulelines.specs.declared.list.table.Table.{Table}
use Rattle.rulelines.specs.ListedSets.{listed_in}
use Rattle.rulelines.specs.LineSets.{IsLineIn, IsSomeLine}
use Rattle.rulelines.specs.Rests.{Takes}
use Rattle.rulelines.specs.StateTables.{IsFirstFrom, IsRestIn, IsStep, IsTableGrown, table_lines}
use Rattle.rulelines.proofs.FirstKeyLemmas.{IsState, step_leads}
use Rattle.rulelines.proofs.LineOrderLemmas.{lines_same, rest_line}
use Rattle.rulelines.proofs.TakesLemmas.{takes_before}
use Rattle.rulelines.proofs.FoundPairsLemmas.{symbols_then}

module _ (table : Table) where
  -- so many symbols of a line were drawn, which lead from the first state to another
  pub record AreDrawn (first : StateSet) (done at : ℕ) (word : List ℕ) : Type 0 where
    pub here : StateSet
    pub is : IsState table at here
    pub symbols : AreLetters (listed_in table.symbols) word
    pub count : length word ≡ done
    pub on : (u : List ℕ) → Takes (grammar_of table.states) (last_in table.states) here u
        → Takes (grammar_of table.states) (last_in table.states) first (word ++ u)

  pub none_drawn : (first : StateSet) (at : ℕ) (word : List ℕ) → word ≡ [] → IsState table at first
      → AreDrawn first 0 at word
  none_drawn first at word none is = subst (λ v. AreDrawn first 0 at v) (sym none) (record {
    here = first;
    is = is;
    symbols = tt;
    count = refl;
    on = λ u h. h;
  })

  pub one_drawn : (first : StateSet) (done at c next : ℕ) (word new : List ℕ) → AreDrawn first done at word
      → IsStep table at c next → new ≡ word ++ c ∷ [] → AreDrawn first (done + 1) next new
  one_drawn first done at c next word new d step added = subst (λ v. AreDrawn first (done + 1) next v) (sym added)
      (record {
        here = step.next.to;
        is = step.next.to_is;
        symbols = symbols_then (listed_in table.symbols) word c d.symbols step.symbol;
        count = (let n = length-append word (c ∷ []) in let e = d.count in omega (arith, n, e));
        on = λ u h. subst (λ v. Takes (grammar_of table.states) (last_in table.states) first v)
            (sym (append_assoc word (c ∷ []) u))
            (d.on (c ∷ u) (takes_before (grammar_of table.states) (last_in table.states) d.here step.next.to c
            (step_leads table at c next d.here step.next.to step d.is step.next.to_is) u h));
      })

  pub all_drawn : (first : StateSet) (done at count : ℕ) (word : List ℕ) (ended : Bool) → AreDrawn first done at word
      → done ≡ count → ((s : StateSet) → IsState table at s → ended ≡ s.ended) → ended ≡ true
      → IsRestIn table first count word
  all_drawn first done at count word ended d size reported is = record {
    symbols = d.symbols;
    count = d.count ∙ size;
    takes = subst (λ v. Takes (grammar_of table.states) (last_in table.states) first v) (append-nil word)
        (d.on [] (sym (reported d.here d.is) ∙ is));
  }

-- a line of the table that has grown
pub drawn_line : (old table : Table) (limit count : ℕ) (word : Vec ℕ Global) → IsTableGrown old table → count ≤ limit
    → ((s : StateSet) → IsState table table.start s → IsRestIn table s count word.items)
    → IsSomeLine (IsLineIn (table_lines old limit)) (Line word)
drawn_line old table limit count word grown le drawn =
    subst (λ set. IsLineIn set word.items) (lines_same old table limit grown)
    (rest_line table grown.is limit word.items count le (drawn grown.is.begins.state grown.is.begins.is))

-- the first line is some line
pub some_first : (old table : Table) (limit : ℕ) (step : NextLine) → IsTableGrown old table
    → IsFirstFrom (IsLineIn (table_lines table limit)) 0 step → IsSomeLine (IsLineIn (table_lines old limit)) step
some_first old table limit step grown f =
    subst (λ set. IsSomeLine (IsLineIn set) step) (lines_same old table limit grown) (by step f)
  where
    by : (s : NextLine) → IsFirstFrom (IsLineIn (table_lines table limit)) 0 s
        → IsSomeLine (IsLineIn (table_lines table limit)) s
    by (Line w) g = g.0
    by Done g = λ v l. g v l (omega arith)
