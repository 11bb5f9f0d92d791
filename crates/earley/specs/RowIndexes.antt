-- The filled sets of a line, in kinds by the rows of a dotted rule.
use Rattle.std.specs.Prelude.{◌≡◌, ◌↔◌, ◌⊎◌, ℕ, ◌<◌, ◌≤◌, List, [], length, Option, Some, None, slice_get, Contains}
use Rattle.earley.specs.RowSets.{HasAt}
use Rattle.flatgrammar.specs.ItemClosures.{dot}
use Rattle.flatgrammar.specs.Positions.{In}
use Rattle.flatgrammar.specs.declared.closure.DottedRule.{DottedRule}
use Rattle.flatgrammar.specs.declared.flat_item.Item.{Item}
use Rattle.earley.specs.RowItems.{IsAfterCall}
use Rattle.earley.specs.declared.dot_table.Call.{Call}
use Rattle.earley.specs.declared.row_index.FilledSets.{FilledSets}
use Rattle.earley.specs.declared.row_sets.KeptRows.{KeptRows}

-- the rows of a set
abbrev pub rows_or : Option KeptRows → List (List ℕ)
rows_or None = []
rows_or (Some s) = s.rows.items

abbrev pub rows_at : List KeptRows → ℕ → List (List ℕ)
rows_at sets o = rows_or (slice_get sets o)

-- a row has one number alone
abbrev pub HasAlone : List ℕ → ℕ → Type 0
HasAlone row number = (k : ℕ) → Contains row k ↔ (k ≡ number)

-- the kind of a set is noted at a dotted rule, by its row there
pub record Indexes (number position : ℕ) (row : List ℕ) (mine others union mine' others' union' : List (List ℕ))
    : Type 0 where
  pub own : (p o : ℕ) → HasAt mine' p o → HasAt mine p o ⊎ ((p ≡ position) × (o ≡ number) × HasAlone row number)
  pub own_kept : (p o : ℕ) → HasAt mine p o → HasAt mine' p o
  pub rest_kept : (p o : ℕ) → HasAt others p o → HasAt others' p o
  pub union_kept : (p k : ℕ) → HasAt union p k → HasAt union' p k
  pub there : (k : ℕ) → Contains row k → HasAt mine' position number ⊎ HasAt others' position number
  pub united : (k : ℕ) → Contains row k → HasAt mine' position number ⊎ HasAt union' position k

-- the kind of a set is noted at the dotted rules below one, by its rows
pub record AreIndexedBelow (number below : ℕ) (rows mine others union mine' others' union' : List (List ℕ))
    : Type 0 where
  pub own : (p o : ℕ) → HasAt mine' p o
      → HasAt mine p o ⊎ ((o ≡ number) × ((k : ℕ) → HasAt rows p k ↔ (k ≡ number)))
  pub own_kept : (p o : ℕ) → HasAt mine p o → HasAt mine' p o
  pub rest_kept : (p o : ℕ) → HasAt others p o → HasAt others' p o
  pub union_kept : (p k : ℕ) → HasAt union p k → HasAt union' p k
  pub there : (p k : ℕ) → p < below → HasAt rows p k → HasAt mine' p number ⊎ HasAt others' p number
  pub united : (p k : ℕ) → p < below → HasAt rows p k → HasAt mine' p number ⊎ HasAt union' p k

-- the kind of each set whose row at a dotted rule is not empty is noted there, and what it has there is in the union if
-- it is not its number alone
pub record AreIndexed (positions : ℕ) (filled : FilledSets) : Type 0 where
  pub own_count : length filled.own.items ≡ positions
  pub rest_count : length filled.rest.items ≡ positions
  pub union_count : length filled.union.items ≡ positions
  pub own : (p o k : ℕ) → HasAt filled.own.items p o → HasAt (rows_at filled.sets.items o) p k ↔ (k ≡ o)
  pub there : (p o k : ℕ) → HasAt (rows_at filled.sets.items o) p k
      → HasAt filled.own.items p o ⊎ HasAt filled.rest.items p o
  pub united : (p o k : ℕ) → HasAt (rows_at filled.sets.items o) p k
      → HasAt filled.own.items p o ⊎ HasAt filled.union.items p k

-- the dotted rule after a call, with the origins of the dotted rule that calls, in the set of each number of a row that
-- is below one
pub record IsAfterIn (dots : List DottedRule) (call : Call) (sets : List KeptRows) (row : List ℕ) (below : ℕ)
    (a : Item)
    : Type 0 where
  pub origin : ℕ
  pub has : Contains row origin
  pub under : origin < below
  pub after : IsAfterCall dots call (rows_at sets origin) a

-- the same in the set of the greatest number of the row
pub record IsAfterLast (dots : List DottedRule) (call : Call) (sets : List KeptRows) (row : List ℕ) (below : ℕ)
    (a : Item)
    : Type 0 where
  pub after : IsAfterIn dots call sets row below a
  pub last : (k : ℕ) → Contains row k → k ≤ after.origin

-- the dotted rule after a call, with those numbers of a row that are in its own row too
pub record IsAfterOwn (dots : List DottedRule) (call : Call) (mine : List (List ℕ)) (row : List ℕ)
    (a : Item) : Type 0 where
  pub after : slice_get dots call.after ≡ Some (dot a.node a.step)
  pub has : Contains row a.origin
  pub own : HasAt mine call.from a.origin

-- the dotted rules after these calls, likewise
pub record IsAfterSome (dots : List DottedRule) (calls : List Call) (sets : List KeptRows) (row : List ℕ) (below : ℕ)
    (a : Item) : Type 0 where
  pub call : Call
  pub stands : In call calls
  pub after : IsAfterIn dots call sets row below a
