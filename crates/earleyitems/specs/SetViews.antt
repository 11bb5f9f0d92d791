-- A set as it is kept: predictions with their closures, and the items beside them.
use Rattle.std.specs.Prelude.{◌≡◌, ℕ, suc, ◌<◌, ◌≤◌, ◌⊎◌, List, [], ◌∷◌, ◌++◌, length, map, take, Some}
use Rattle.flatgrammar.specs.declared.closure.DottedRule.{DottedRule}
use Rattle.flatgrammar.specs.Flat.{at}
use Rattle.flatgrammar.specs.Holds.{Holds}
use Rattle.flatgrammar.specs.Positions.{In, AreDifferent}
use Rattle.flatgrammar.specs.NodeSteps.{flat_of}
use Rattle.earleyitems.specs.Closed.{Hold}
use Rattle.flatgrammar.specs.declared.flat_item.Item.{Item}
use Rattle.earleyitems.specs.EarleySets.{EarleySet}
use Rattle.flatgrammar.specs.declared.tables.Tables as code_flat
use Rattle.flatgrammar.specs.TableViews.{call_of, start_target}
use Rattle.earleyitems.specs.ItemSets.{IsCompleted}
use Rattle.earleyitems.specs.Worklist.{AdvancesNullable, IsWorked}
use Rattle.flatgrammar.specs.ItemClosures.{ItemClosure, IsItemClosure, item_at, closure_of, begin_count, IsPrediction}
use Rattle.flatgrammar.specs.ItemClosures.{IsLate}

abbrev pub expand : (ℕ → ItemClosure) → ℕ → List ℕ → List Item
expand closures j [] = []
expand closures j (h ∷ predictions) = map (item_at j) (closures h).dots ++ expand closures j predictions

-- a set as it is kept: the predictions predicted in it, and the items beside their closures
abbrev pub full : (ℕ → ItemClosure) → ℕ → List ℕ → List Item → List Item
full closures j predictions items = expand closures j predictions ++ items

pub record AreClosures (flat : code_flat.Tables) (closures : ℕ → ItemClosure) (predictions : List ℕ) : Type 0 where
  pub closure : (h : ℕ) → In h predictions → IsItemClosure flat h (closures h)
  pub apart : (g h : ℕ) → In g predictions → In h predictions → (p : DottedRule) → In p (closures g).dots
      → In p (closures h).dots
      → g ≡ h

-- what the closures of a front of the predictions predict and advance is there
pub record AreOpened (closures : ℕ → ItemClosure) (j : ℕ) (front predictions : List ℕ)
    (items : List Item) : Type 0 where
  pub calls : (h : ℕ) → In h front → (t : ℕ) → In t (closures h).calls → In t predictions
  pub passes : (h : ℕ) → In h front → (r : DottedRule) → In r (closures h).passes
      → In (item_at j r) (full closures j predictions items)

abbrev pub view : code_flat.Tables → ℕ → EarleySet → List Item
view flat j kept_set = full (closure_of flat) j kept_set.predictions kept_set.items

-- the sets from number j on
abbrev pub views : code_flat.Tables → ℕ → List EarleySet → List (List Item)
views flat j [] = []
views flat j (kept_set ∷ kept_sets) = view flat j kept_set ∷ views flat (suc j) kept_sets

-- the target that an item calls
pub record IsPredictedTarget (flat : code_flat.Tables) (item : Item) (t : ℕ) : Type 0 where
  pub next : ℕ
  pub call : call_of flat item ≡ Some (t, next)

-- an item advanced over a nullable target, and another than before
pub record MovesOverNullable (flat : code_flat.Tables) (item : Item) (a : Item) : Type 0 where
  pub passed : AdvancesNullable flat item a
  pub moves : a.step ≡ item.step → ⊥

abbrev pub IsAddedFor : code_flat.Tables → List (List Item) → Item → Item → Type 0
IsAddedFor flat sets item a = MovesOverNullable flat item a ⊎ IsCompleted flat sets [] item a

-- a set on which the worklist has come to items ii and predictions hi
pub record IsWorklist (flat : code_flat.Tables) (x : List ℕ) (sets : List (List Item)) (ii hi : ℕ)
    (predictions : List ℕ)
    (items : List Item) : Type 0 where
  pub within_items : ii ≤ length items
  pub within_predictions : hi ≤ length predictions
  pub predicted : (h : ℕ) → In h predictions → (k : ℕ) → k < begin_count flat h
      → Holds (flat_of flat) x (length sets) (at h k) (length sets)
  pub below : (h : ℕ) → In h predictions → h < length flat.nodes.items
  pub are_predictions : (h : ℕ) → In h predictions → IsPrediction flat h
  pub held : Hold (flat_of flat) x (length sets) items
  pub predictions_different : AreDifferent predictions
  pub items_different : AreDifferent items
  pub late : (a : Item) → In a items → IsLate flat a
  pub beside : (a : Item) → In a items → a.origin ≡ length sets → a.step < begin_count flat a.node → ⊥
  pub worked : IsWorked flat sets (take ii items) (full (closure_of flat) (length sets) predictions items)
  pub opened : AreOpened (closure_of flat) (length sets) (take hi predictions) predictions items

-- the target of the augmented start, predicted before the first letter
abbrev pub IsWholeAt : code_flat.Tables → ℕ → ℕ → Type 0
IsWholeAt flat j t = (j ≡ 0) × (start_target flat ≡ Some t)
