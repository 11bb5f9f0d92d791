-- The dotted rules of an item set that belong to what began before, and their parts.
use Rattle.std.specs.Prelude.{◌≡◌, ◌↔◌, ◌⊎◌, ℕ, false, List, ◌++◌, Some}
use Rattle.flatgrammar.specs.ItemClosures.{item_at}
use Rattle.flatgrammar.specs.CalledParts.{IsPartOf}
use Rattle.flatgrammar.specs.Positions.{In}
use Rattle.flatgrammar.specs.TableViews.{callee_of, name_of}
use Rattle.flatgrammar.specs.declared.closure.DottedRule.{DottedRule}
use Rattle.flatgrammar.specs.declared.tables.Tables as code_flat

-- a dotted rule calls a node that is no name
pub record Enters (tables : code_flat.Tables) (q : DottedRule) (m : ℕ) : Type 0 where
  pub next : ℕ
  pub callee : callee_of tables (item_at 0 q) ≡ Some (m, next)
  pub no_name : name_of tables m ≡ false

-- Of the dotted rules of a set those with older origins, those of the augmented start before the first symbol, and
-- those of nodes that one of them enters.
pub data IsOldDot (tables : code_flat.Tables) (n : ℕ) (older dots : List DottedRule) : DottedRule → Type 0 where
  older : {s : DottedRule} → In s older → IsOldDot tables n older dots s
  whole : {s : DottedRule} → n ≡ 0 → In s dots → s.node ≡ tables.start → IsOldDot tables n older dots s
  entered : {q s : DottedRule} → IsOldDot tables n older dots q → Enters tables q s.node → In s dots
      → IsOldDot tables n older dots s

abbrev pub AreOldDots : code_flat.Tables → ℕ → List DottedRule → List DottedRule → List DottedRule → Type 0
AreOldDots tables n before dots old = (s : DottedRule) → In s old ↔ IsOldDot tables n before dots s

-- the dotted rules of a node were added
pub record AddsNode (dots : List DottedRule) (node : ℕ) (old new : List DottedRule) : Type 0 where
  pub added : List DottedRule
  pub grown : new ≡ old ++ added
  pub are : (s : DottedRule) → In s added ↔ (In s dots × (s.node ≡ node))

-- the dotted rules of the node that a dotted rule enters are there
pub record EntersFrom (tables : code_flat.Tables) (dots : List DottedRule) (q : DottedRule) (entered more : List ℕ)
    (old new : List DottedRule) : Type 0 where
  pub added : List DottedRule
  pub grown : new ≡ old ++ added
  pub sound : (s : DottedRule) → In s added → Enters tables q s.node × In s dots
  pub kept : (m : ℕ) → In m entered → In m more
  pub all : (m : ℕ) → In m more → In m entered ⊎ ((s : DottedRule) → In s dots → s.node ≡ m → In s added)
  pub has : (m : ℕ) → Enters tables q m → In m more

-- the parts of dotted rules
pub record IsPartOfSome (tables : code_flat.Tables) (dots : List DottedRule) (s : DottedRule) : Type 0 where
  pub dot : DottedRule
  pub stands : In dot dots
  pub part : IsPartOf tables dot.node dot.step s

abbrev pub ArePartsOf : code_flat.Tables → List DottedRule → List DottedRule → Type 0
ArePartsOf tables dots parts = (s : DottedRule) → In s parts ↔ IsPartOfSome tables dots s
