-- The first prefix of each state, whether the rule derives it, and symbols that cannot follow it.
use Rattle.std.specs.Prelude.{◌≡◌, ◌⊎◌, ℕ, ◌+◌, ◌<◌, ◌≤◌, Bool, true, false, List, [], ◌∷◌, ◌++◌, length, Contains}
use Rattle.std.specs.Prelude.{◌↔◌, map}
use Rattle.std.specs.List.{All, AllPairs}
use Rattle.abnfread.specs.Element.{Rule}
use Rattle.abnfcheck.specs.Derivable.{AreLetters, RuleDerives}
use Rattle.abnfcheck.specs.Prefixes.{BeginsMember, IsFurthest}
use Rattle.ruletable.specs.Letters.{has}
use Rattle.ruletable.specs.declared.alphabet.Alphabet.{Alphabet}
use Rattle.rulelines.specs.declared.miss.prefixes.StatePrefix.{StatePrefix}
use Rattle.rulelines.specs.FirstLines.{ComesFirst, IsShortlexBefore, sort_key}
use Rattle.rulelines.specs.LineSets.{is_line_symbol}
use Rattle.rulelines.specs.Samples.{AreInLineOrder}

-- a prefix as a line, if the rule does not derive it; and it with each of some symbols that cannot follow it
abbrev pub refused_lines : Bool → List ℕ → List (List ℕ)
refused_lines true u = u ∷ []
refused_lines false u = []

abbrev pub wrong_lines : List ℕ → List ℕ → List (List ℕ)
wrong_lines u symbols = map (λ c. u ++ c ∷ []) symbols

abbrev pub prefix_lines : StatePrefix → List (List ℕ)
prefix_lines p = refused_lines p.is_refused p.prefix.items ++ wrong_lines p.prefix.items p.wrong.items

module _ (alphabet : Alphabet) (terminator limit : ℕ) (rules : List Rule) (id : ℕ) where
  -- some line that the rule derives begins so
  abbrev pub IsViable : List ℕ → Type 0
  IsViable u = BeginsMember (has alphabet) rules id u (length u)

  -- a line has room for the symbol after a prefix, and no line that the rule derives begins so
  pub record CannotFollow (u : List ℕ) (c : ℕ) : Type 0 where
    pub symbol : is_line_symbol alphabet terminator c ≡ true
    pub room : length u < limit
    pub not_viable : IsViable (u ++ c ∷ []) → ⊥

  -- some line that the rule derives begins so, with a symbol of a line after a prefix
  pub record CanFollow (u : List ℕ) (c : ℕ) : Type 0 where
    pub symbol : is_line_symbol alphabet terminator c ≡ true
    pub viable : IsViable (u ++ c ∷ [])

  -- no symbol before it in the order of lines cannot follow
  abbrev pub IsFirstWrong : List ℕ → ℕ → Type 0
  IsFirstWrong u c = (d : ℕ) → CannotFollow u d → sort_key c ≤ sort_key d

  -- a symbol can follow whose number is one more or less
  pub record IsEdge (u : List ℕ) (c : ℕ) : Type 0 where
    pub next : ℕ
    pub follows : CanFollow u next
    pub beside : (next ≡ c + 1) ⊎ (c ≡ next + 1)

  -- a viable prefix of symbols of a line
  pub record IsViableLine (v : List ℕ) : Type 0 where
    pub symbols : AreLetters (is_line_symbol alphabet terminator) v
    pub within : length v ≤ limit
    pub viable : IsViable v

  -- the same symbols lead from both to lines that the rule derives
  abbrev pub HaveSameRests : List ℕ → List ℕ → Type 0
  HaveSameRests u v = (r : List ℕ) → AreLetters (has alphabet) r → length u + length r ≤ limit
      → length v + length r ≤ limit → RuleDerives (has alphabet) rules id (u ++ r)
      ↔ RuleDerives (has alphabet) rules id (v ++ r)

  -- one of the prefixes has the same rests, and comes no later
  pub record HasPrefixFor (ps : List StatePrefix) (v : List ℕ) : Type 0 where
    pub one : StatePrefix
    pub is : Contains ps one
    pub order : ComesFirst one.prefix.items v
    pub rests : HaveSameRests one.prefix.items v

  -- for each viable prefix there is one of them
  abbrev pub AreAllPrefixes : List StatePrefix → Type 0
  AreAllPrefixes ps = (v : List ℕ) → IsViableLine v → HasPrefixFor ps v

  -- with edges or without
  module _ (edges : Bool) where
    -- a symbol that is reported after a prefix: the first that cannot follow; with edges, each one next to one that can
    pub record IsReportedWrong (u : List ℕ) (c : ℕ) : Type 0 where
      pub cannot : CannotFollow u c
      pub reason : IsFirstWrong u c ⊎ ((edges ≡ true) × IsEdge u c)

    -- all of them, in the order of lines
    pub record AreReportedWrong (u symbols : List ℕ) : Type 0 where
      pub are : (c : ℕ) → Contains symbols c ↔ IsReportedWrong u c
      pub order : AreInLineOrder (is_line_symbol alphabet terminator) symbols

    -- what is reported of a prefix is right
    pub record IsStatePrefix (p : StatePrefix) : Type 0 where
      pub symbols : AreLetters (is_line_symbol alphabet terminator) p.prefix.items
      pub within : length p.prefix.items ≤ limit
      pub viable : 0 < length p.prefix.items → IsViable p.prefix.items
      pub refused : p.is_refused ≡ true → RuleDerives (has alphabet) rules id p.prefix.items → ⊥
      pub derived : p.is_refused ≡ false → RuleDerives (has alphabet) rules id p.prefix.items
      pub wrong : AreReportedWrong p.prefix.items p.wrong.items

    -- the first prefixes, in order: for each other viable prefix there is one of them, or it comes after all of them
    pub record AreFirstPrefixes (ps : List StatePrefix) : Type 0 where
      pub are : All IsStatePrefix ps
      pub rise : AllPairs (λ p q. IsShortlexBefore p.prefix.items q.prefix.items) ps
      pub rest : (v : List ℕ) → IsViableLine v
          → HasPrefixFor ps v ⊎ All (λ p. IsShortlexBefore p.prefix.items v) ps

    -- A line of symbols that the rule does not derive: its longest viable prefix is all of it, or all but the last
    -- symbol, which is one that is reported there.
    pub record IsMiss (w : List ℕ) : Type 0 where
      pub symbols : AreLetters (is_line_symbol alphabet terminator) w
      pub within : length w ≤ limit
      pub refused : RuleDerives (has alphabet) rules id w → ⊥
      pub after : ℕ
      pub furthest : IsFurthest (has alphabet) rules id w after
      pub near : (after ≡ length w) ⊎ ((u : List ℕ) × (c : ℕ) × (w ≡ u ++ c ∷ []) × (after ≡ length u)
          × IsReportedWrong u c)
