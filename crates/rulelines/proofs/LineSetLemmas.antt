-- The lines of a rule, by a table.
-- Serves: new, first, after.
use Rattle.std.proofs.Common.{◌≡◌, ◌↔◌, ℕ, ◌+◌, ◌≤◌, List, [], length, refl, sym, ◌∙◌}
use Rattle.std.proofs.Common.{ap, subst, arith}
use Rattle.std.proofs.lemmas.Option.{slice_get_within}
use Rattle.std.specs.List.Sorted.{IsStrictlyIncreasing}
use Rattle.std.specs.Prelude.{Bool, None, Some, slice_get}
use Rattle.abnfread.specs.Element.{Rule}
use Rattle.abnfcheck.proofs.ReachedGrammarLemmas.{lines_reached}
use Rattle.abnfcheck.specs.AbnfGrammar.{Grammar}
use Rattle.abnfcheck.specs.Derivable.{AreLetters, RuleDerives}
use Rattle.abnfcheck.specs.ReachedGrammar.{IsReachedGrammar}
use Rattle.abnfread.specs.AbnfViews.{rules_of}
use Rattle.flatgrammar.specs.Flat.{Flat}
use Rattle.flatgrammar.specs.FlatVerdicts.{DerivesLine}
use Rattle.flatgrammar.specs.NodeSteps.{flat_of}
use Rattle.ruletable.specs.Letters.{has as has_letter}
use Rattle.ruletable.specs.declared.alphabet.Alphabet.{Alphabet}
use Rattle.flatgrammar.specs.Stacks.{AreUncounted, MarksLast}
use Rattle.lazydfa.specs.Conts.{last_of}
use Rattle.lazydfa.specs.RunVerdicts.{IsOne}
use Rattle.lazydfa.specs.StateSets.{AreMoreStates, AreStatesOf, grammar_of, IsStartState, last_in, StateSets}
use Rattle.rulelines.specs.declared.list.lines.NextLine.{NextLine}
use Rattle.rulelines.specs.declared.list.lines.NextLine.TheVariants.{Line, Done}
use Rattle.rulelines.specs.declared.list.table.Table.{Table}
use Rattle.rulelines.specs.ListedSets.{listed_in, symbol_set}
use Rattle.rulelines.specs.LineSets.{AreRuleLines, IsFirstStep, has_symbol, SymbolSet}
use Rattle.rulelines.specs.Starts.{AreClassStarts}
use Rattle.rulelines.specs.StateTables.{IsFirstFrom, IsTableGrown, IsTableFor}
use Rattle.rulelines.specs.StateTables.{flat_lines, table_lines}
use Rattle.rulelines.proofs.LineOrderLemmas.{inner_letters}

-- the first table
pub table_begun : (flat : Flat) (none : StateSets) (table : Table) (symbols : SymbolSet) → AreStatesOf flat none
    → AreMoreStates none table.states → IsStartState table.states table.start → table.seen ≤ table.start + 1
    → AreClassStarts flat (has_symbol symbols) table.starts.items → IsStrictlyIncreasing table.starts.items
    → table.rows.items ≡ [] → table.levels.items ≡ [] → symbol_set table.symbols ≡ symbols
    → IsTableFor flat symbols table
table_begun flat none table symbols s more begins seen starts rise rows levels same_symbols = record {
  is = record {
    grammar = record {
      is = refl;
      one = subst (λ v. IsOne v) (sym same) s.one;
      uncounted = subst (λ v. AreUncounted v) (sym same) s.uncounted;
      tail_positions = subst (λ v. MarksLast (flat_of v) (last_of v)) (sym more.same)
          (subst (λ v. MarksLast v (last_in none)) (sym s.is) s.tail_positions);
    };
    begins = begins;
    seen = (let lt = slice_get_within table.states.states table.start begins.state begins.is in
        omega (arith, lt, seen));
    starts_are = subst (λ v. AreClassStarts v (listed_in table.symbols) table.starts.items) (sym same)
        (subst (λ v. AreClassStarts flat (has_symbol v) table.starts.items) (sym same_symbols) starts);
    rise = rise;
    rows_are = λ n row at_n. absurd (let e = subst (λ v. slice_get v n ≡ Some row) rows at_n in cc e);
    levels_are = λ count n level can at_count at_n.
        absurd (let e = subst (λ v. slice_get v count ≡ Some level) levels at_count in cc e);
  };
  grammar = same;
  symbols = same_symbols;
}
  where
    same : grammar_of table.states ≡ flat
    same = ap (λ v. flat_of v) more.same ∙ s.is

pub table_still : (flat : Flat) (symbols : SymbolSet) (old new : Table) → IsTableFor flat symbols old
    → IsTableGrown old new → IsTableFor flat symbols new
table_still flat symbols old new t k = record {
  is = k.is;
  grammar = ap (λ v. flat_of v) k.more.same ∙ t.grammar;
  symbols = k.symbols ∙ t.symbols;
}

pub set_is : (flat : Flat) (symbols : SymbolSet) (table : Table) (limit : ℕ) → IsTableFor flat symbols table
    → table_lines table limit ≡ flat_lines flat symbols limit
set_is flat symbols table limit t =
    ap (λ v. flat_lines v (symbol_set table.symbols) limit) t.grammar ∙ ap (λ v. flat_lines flat v limit) t.symbols

pub prefix_of : (lines : List ℕ → Type 0) (step : NextLine) → IsFirstFrom lines 0 step → IsFirstStep lines step
prefix_of lines (Line w) f = (f.0, λ v l. f.2 v l (omega arith))
prefix_of lines Done f = λ v l. f v l (omega arith)

-- a flat grammar of the rules that the judged one reaches
pub derives_reached : (g kept : Grammar) (flat : Flat) (limit : ℕ) → IsReachedGrammar g kept
    → ((has : ℕ → Bool) (x : List ℕ) → length x ≤ limit → AreLetters has x
    → DerivesLine flat x ↔ RuleDerives has (rules_of kept.rules) kept.judged x) → (has : ℕ → Bool) (x : List ℕ)
    → length x ≤ limit → AreLetters has x → DerivesLine flat x ↔ RuleDerives has (rules_of g.rules) g.judged x
derives_reached g kept flat limit is derives has x short letters =
    let flat_derives = derives has x short letters in
    let same = lines_reached g kept is has x in
    (λ d. same.0 (flat_derives.0 d), λ d. flat_derives.1 (same.1 d))

-- the lines of a rule
pub rule_lines : (flat : Flat) (alphabet : Alphabet) (terminator limit : ℕ) (rules : List Rule) (id : ℕ)
    → ((has : ℕ → Bool) (x : List ℕ) → length x ≤ limit → AreLetters has x
    → DerivesLine flat x ↔ RuleDerives has rules id x)
    → AreRuleLines alphabet terminator limit rules id (record {
      flat = flat;
      symbols = record { alphabet = alphabet; terminator = terminator; only = None };
      limit = limit;
    })
rule_lines flat alphabet terminator limit rules id derives w = (
  λ l. record {
    symbols = l.symbols;
    within = l.within;
    derives = (derives (has_letter alphabet) w l.within (inner_letters alphabet terminator w l.symbols)).0 l.derives;
  },
  λ l. record {
    symbols = l.symbols;
    within = l.within;
    derives = (derives (has_letter alphabet) w l.within (inner_letters alphabet terminator w l.symbols)).1 l.derives;
  },
)
