-- The lines that a rule derives, and the line after another.
use Rattle.std.specs.Prelude.{◌↔◌, ℕ, ◌≤◌, Bool, true, ◌&&◌, not, List, length, eqb, Option, None, Some}
use Rattle.std.specs.List.{list_any}
use Rattle.abnfread.specs.Element.{Rule}
use Rattle.abnfcheck.specs.Derivable.{AreLetters, RuleDerives}
use Rattle.flatgrammar.specs.Flat.{Flat}
use Rattle.flatgrammar.specs.FlatVerdicts.{DerivesLine}
use Rattle.ruletable.specs.Letters.{has}
use Rattle.ruletable.specs.declared.alphabet.Alphabet.{Alphabet}
use Rattle.rulelines.specs.declared.list.lines.NextLine.{NextLine}
use Rattle.rulelines.specs.declared.list.lines.NextLine.TheVariants.{Line, Done}
use Rattle.rulelines.specs.FirstLines.{ComesFirst, HasNoLine, IsFirstLine, IsShortlexBefore, sort_key}

-- whether a number is a symbol of the alphabet, and not the one that ends a line
abbrev pub is_line_symbol : Alphabet → ℕ → ℕ → Bool
is_line_symbol alphabet terminator c = has alphabet c && not (eqb c terminator)

-- symbols of lines: those of the alphabet without the one that ends a line, or of them those of these keys
pub record SymbolSet : Type 0 where
  pub alphabet : Alphabet
  pub terminator : ℕ
  pub only : Option (List ℕ)

-- whether a key is among these, if there are any
abbrev pub allows_key : Option (List ℕ) → ℕ → Bool
allows_key None key = true
allows_key (Some keys) key = list_any (λ k. eqb k key) keys

-- whether a number is one of the symbols
abbrev pub has_symbol : SymbolSet → ℕ → Bool
has_symbol set c = allows_key set.only (sort_key c) && is_line_symbol set.alphabet set.terminator c

-- a flat grammar, and the symbols and the greatest length of its lines
pub record LineSet : Type 0 where
  pub flat : Flat
  pub symbols : SymbolSet
  pub limit : ℕ

-- the flat grammar derives a line
pub record IsLineIn (set : LineSet) (w : List ℕ) : Type 0 where
  pub symbols : AreLetters (has_symbol set.symbols) w
  pub within : length w ≤ set.limit
  pub derives : DerivesLine set.flat w

-- the rule of an id derives a line of at most that many symbols, without the one that ends a line
pub record IsRuleLine (alphabet : Alphabet) (terminator limit : ℕ) (rules : List Rule) (id : ℕ) (w : List ℕ) : Type 0
  where
    pub symbols : AreLetters (is_line_symbol alphabet terminator) w
    pub within : length w ≤ limit
    pub derives : RuleDerives (has alphabet) rules id w

-- the lines are those of the rule
abbrev pub AreRuleLines : Alphabet → ℕ → ℕ → List Rule → ℕ → LineSet → Type 0
AreRuleLines alphabet terminator limit rules id set =
    (w : List ℕ) → IsLineIn set w ↔ IsRuleLine alphabet terminator limit rules id w

-- of the lines after another, the first
pub record IsFirstAfter (lines : List ℕ → Type 0) (before w : List ℕ) : Type 0 where
  pub is_line : lines w
  pub later : IsShortlexBefore before w
  pub first : (v : List ℕ) → lines v → IsShortlexBefore before v → ComesFirst w v

-- no line is after another
abbrev pub HasNoneAfter : (List ℕ → Type 0) → List ℕ → Type 0
HasNoneAfter lines before = (v : List ℕ) → lines v → IsShortlexBefore before v → ⊥

-- the line after another
abbrev pub IsLineAfter : (List ℕ → Type 0) → List ℕ → NextLine → Type 0
IsLineAfter lines before (Line w) = IsFirstAfter lines before w.items
IsLineAfter lines before Done = HasNoneAfter lines before

-- the first line
abbrev pub IsFirstStep : (List ℕ → Type 0) → NextLine → Type 0
IsFirstStep lines (Line w) = IsFirstLine lines w.items
IsFirstStep lines Done = HasNoLine lines

-- some line
abbrev pub IsSomeLine : (List ℕ → Type 0) → NextLine → Type 0
IsSomeLine lines (Line w) = lines w.items
IsSomeLine lines Done = HasNoLine lines
