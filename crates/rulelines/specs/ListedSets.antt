-- The sets of symbols that the code's stand for.
use Rattle.std.specs.Prelude.{ℕ, Bool, option_map}
use Rattle.rulelines.specs.LineSets.{SymbolSet, has_symbol}
use Rattle.rulelines.specs.declared.list.listed.ListedSymbols.{ListedSymbols}

abbrev pub symbol_set : ListedSymbols → SymbolSet
symbol_set s = record {
  alphabet = s.inner.alphabet;
  terminator = s.inner.terminator;
  only = option_map (λ keys. keys.items) s.only;
}

-- whether a number is one of the symbols
abbrev pub listed_in : ListedSymbols → ℕ → Bool
listed_in s = has_symbol (symbol_set s)
