-- A chart as contracts see it: of each set its items, each a dotted rule with its origin.
use Rattle.std.specs.Prelude.{◌≡◌, ◌↔◌, ℕ, ◌<◌, nat_lt, if◌then◌else◌, List, [], ◌∷◌, map, slice_get, slice_index_or}
use Rattle.std.specs.Prelude.{length, sum_by, Option, Some, None}
use Rattle.std.specs.List.{flat_map}
use Rattle.std.proofs.Common.{Global}
use Rattle.std.specs.declared.rc.Rc.{Rc}
use Rattle.flatgrammar.specs.Flat.{Flat, Dot, at}
use Rattle.flatgrammar.specs.Holds.{Holds}
use Rattle.flatgrammar.specs.ItemClosures.{dot}
use Rattle.flatgrammar.specs.Positions.{In, AreDifferent}
use Rattle.flatgrammar.specs.declared.closure.DottedRule.{DottedRule}
use Rattle.flatgrammar.specs.declared.flat_item.Item.{Item}
use Rattle.earleyitems.specs.EarleySets.{EarleySet}
use Rattle.flatgrammar.specs.declared.tables.Tables as code_flat
use Rattle.earleyitems.specs.SetViews.{views}

-- an item as the definitions name it
abbrev pub pair : Item → Dot × ℕ
pair a = (at a.node a.step, a.origin)

-- the sets of a chart; with no tables there are none
abbrev pub chart_of : Option (Rc code_flat.Tables Global) → List EarleySet → List (List (Dot × ℕ))
chart_of None kept_sets = []
chart_of (Some tables) kept_sets = map (λ set. map pair set) (views tables.value 0 kept_sets)

-- set j; one that is not there is empty
abbrev pub set_at : List (List (Dot × ℕ)) → ℕ → List (Dot × ℕ)
set_at sets j = slice_index_or sets j []

-- an item of a set has this dotted rule
pub record HasDot (set : List (Dot × ℕ)) (s : DottedRule) : Type 0 where
  pub origin : ℕ
  pub stands : In {A = Dot × ℕ} (at s.node s.step, origin) set

-- the dotted rules are those of the items of a set
abbrev pub AreDotsOf : List (Dot × ℕ) → List DottedRule → Type 0
AreDotsOf set dots = (s : DottedRule) → In s dots ↔ HasDot set s

-- an item of a set has this dotted rule, and an origin before n
pub record HasOlderDot (set : List (Dot × ℕ)) (n : ℕ) (s : DottedRule) : Type 0 where
  pub origin : ℕ
  pub older : origin < n
  pub stands : In {A = Dot × ℕ} (at s.node s.step, origin) set

-- the dotted rules are those of the items with origins before n
abbrev pub AreOlderDotsOf : List (Dot × ℕ) → ℕ → List DottedRule → Type 0
AreOlderDotsOf set n dots = (s : DottedRule) → In s dots ↔ HasOlderDot set n s

-- the dotted rule of an item with an origin before n
abbrev pub older_dot : ℕ → Item → List DottedRule
older_dot n a = if nat_lt a.origin n then dot a.node a.step ∷ [] else []

abbrev pub older_dots : ℕ → List Item → List DottedRule
older_dots n items = flat_map (older_dot n) items

-- a list is exactly the items of set j, each once
pub record IsSet (flat : Flat) (x : List ℕ) (j : ℕ) (set : List (Dot × ℕ)) : Type 0 where
  pub held : (p : Dot) (i : ℕ) → In {A = Dot × ℕ} (p, i) set → Holds flat x j p i
  pub all : (p : Dot) (i : ℕ) → Holds flat x j p i → In {A = Dot × ℕ} (p, i) set
  pub different : AreDifferent set

-- sets of a line, from the first on, have more than that many items in all
pub record HaveMoreItems (flat : Flat) (x : List ℕ) (most : ℕ) : Type 0 where
  pub sets : List (List (Dot × ℕ))
  pub are_sets : (j : ℕ) (set : List (Dot × ℕ)) → slice_get sets j ≡ Some set → IsSet flat x j set
  pub more : most < sum_by (λ set. length set) sets

-- each set has its size beside it
pub record AreSized (tables : Option (Rc code_flat.Tables Global)) (kept_sets : List EarleySet) : Type 0 where
  pub size : (j : ℕ) (kept_set : EarleySet) → slice_get kept_sets j ≡ Some kept_set
      → kept_set.size ≡ length (set_at (chart_of tables kept_sets) j)
