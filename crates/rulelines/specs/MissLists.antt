-- The lines that a rule does not derive, in the order in which they are reported.
use Rattle.std.specs.Prelude.{◌≡◌, ℕ, Bool, true, false, List, [], ◌∷◌, ◌++◌, map, reverse}
use Rattle.std.specs.List.{All, flat_map}
use Rattle.std.proofs.Common.{Vec, Global}
use Rattle.abnfread.specs.Element.{Rule}
use Rattle.ruletable.specs.declared.alphabet.Alphabet.{Alphabet}
use Rattle.rulelines.specs.declared.list.lines.NextLine.{NextLine}
use Rattle.rulelines.specs.declared.list.lines.NextLine.TheVariants.{Line, Done}
use Rattle.rulelines.specs.declared.miss.prefixes.StatePrefix.{StatePrefix}
use Rattle.rulelines.specs.Misses.{AreAllPrefixes, AreFirstPrefixes, IsMiss, prefix_lines}
use Rattle.rulelines.specs.MissSearch.{ArePrefixesReported, GivesPrefixesTo, PrefixSearch}

module _ (alphabet : Alphabet) (terminator limit : ℕ) (rules : List Rule) (id : ℕ) (edges : Bool) where
  -- the first of the lines of first prefixes, each of which is right
  pub record AreFirstMisses (ws : List (List ℕ)) : Type 0 where
    pub prefixes : List StatePrefix
    pub first : AreFirstPrefixes alphabet terminator limit rules id edges prefixes
    pub rest : List (List ℕ)
    pub are : flat_map prefix_lines prefixes ≡ ws ++ rest
    pub right : All (IsMiss alphabet terminator limit rules id edges) ws

  -- all of them, and each viable prefix has one
  pub record AreAllMisses (ws : List (List ℕ)) : Type 0 where
    pub prefixes : List StatePrefix
    pub first : AreFirstPrefixes alphabet terminator limit rules id edges prefixes
    pub all : AreAllPrefixes alphabet terminator limit rules id prefixes
    pub are : flat_map prefix_lines prefixes ≡ ws

-- lines, and those that were put last first
abbrev pub item_lines : List (Vec ℕ Global) → List (List ℕ)
item_lines lines = map (λ line. line.items) lines

abbrev pub waiting_lines : List (Vec ℕ Global) → List (List ℕ)
waiting_lines lines = reverse (item_lines lines)

-- the prefixes that are reported, and lines of the last one that are not
pub record MissList : Type 0 where
  pub prefixes : PrefixSearch
  pub waiting : List (List ℕ)

-- the prefixes are those of the rule
abbrev pub AreOfRule : List Rule → ℕ → MissList → Type 0
AreOfRule rules id list = GivesPrefixesTo list.prefixes.set.alphabet list.prefixes.set.limit rules id
    list.prefixes.set.flat

-- the first of the lines that miss the rule, and all of them
abbrev pub AreFirstMissesOf : List Rule → ℕ → MissList → List (List ℕ) → Type 0
AreFirstMissesOf rules id list = AreFirstMisses list.prefixes.set.alphabet list.prefixes.set.terminator
    list.prefixes.set.limit rules id list.prefixes.set.edges

abbrev pub AreAllMissesOf : List Rule → ℕ → MissList → List (List ℕ) → Type 0
AreAllMissesOf rules id list = AreAllMisses list.prefixes.set.alphabet list.prefixes.set.terminator
    list.prefixes.set.limit rules id list.prefixes.set.edges

-- these lines were reported
pub record AreLinesReported (rules : List Rule) (id : ℕ) (list : MissList) (ws : List (List ℕ)) : Type 0 where
  pub prefixes : List StatePrefix
  pub reported : ArePrefixesReported rules id list.prefixes prefixes
  pub are : flat_map prefix_lines prefixes ≡ ws ++ list.waiting

-- the lines of one more prefix wait, or there is none
abbrev pub IsRefilled : List Rule → ℕ → MissList → MissList → Bool → Type 0
IsRefilled rules id old new true = (ws : List (List ℕ)) → old.waiting ≡ [] → AreLinesReported rules id old ws
    → AreLinesReported rules id new ws
IsRefilled rules id old new false = (ws : List (List ℕ)) → old.waiting ≡ [] → AreLinesReported rules id old ws
    → AreAllMissesOf rules id old ws

-- one more line is reported, or all are
abbrev pub IsMissStep : List Rule → ℕ → MissList → MissList → NextLine → Type 0
IsMissStep rules id old new (Line w) = (ws : List (List ℕ)) → AreLinesReported rules id old ws
    → AreLinesReported rules id new (ws ++ w.items ∷ [])
IsMissStep rules id old new Done = (ws : List (List ℕ)) → AreLinesReported rules id old ws
    → AreAllMissesOf rules id old ws

-- no line is reported yet of those that miss what a rule derives
pub record AreMissesOf (alphabet : Alphabet) (terminator limit : ℕ) (edges : Bool) (rules : List Rule) (id : ℕ)
    (list : MissList) : Type 0 where
  pub alphabet_is : list.prefixes.set.alphabet ≡ alphabet
  pub terminator_is : list.prefixes.set.terminator ≡ terminator
  pub limit_is : list.prefixes.set.limit ≡ limit
  pub edges_is : list.prefixes.set.edges ≡ edges
  pub rule : AreOfRule rules id list
  pub none : AreLinesReported rules id list []
