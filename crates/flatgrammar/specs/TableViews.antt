-- What the tables of a flat grammar hold, node by node.
use Rattle.std.specs.Prelude.{◌≡◌, ℕ, ◌↔◌, Bool, true, false, List, slice_get, Option, Some, None}
use Rattle.std.specs.Option.{option_flatten}
use Rattle.flatgrammar.specs.declared.flat_item.Item.{Item}
use Rattle.flatgrammar.specs.declared.flat_node.Node as code_node
use Rattle.flatgrammar.specs.declared.tables.Tables as code_flat
use Rattle.flatgrammar.specs.Flat.{Flat, Set}
use Rattle.flatgrammar.specs.FlatViews.{node_of}
use Rattle.flatgrammar.specs.NodeSteps.{begin_count, is_done, is_name_node, callee, takes, read_at}
use Rattle.flatgrammar.specs.Nullable.{Nullable}
use Rattle.flatgrammar.specs.Targets.{Target}

-- the table has of each node its target
abbrev pub GiveTargets : Flat → List (Option ℕ) → Type 0
GiveTargets flat targets = (s t : ℕ) → (slice_get targets s ≡ Some (Some t)) ↔ Target flat.nodes flat.bodies s t

-- a target in the table
abbrev pub target_in : Option (Option ℕ) → ℕ → Option (ℕ × ℕ)
target_in None l = None
target_in (Some None) l = None
target_in (Some (Some r)) l = Some (r, l)

abbrev pub rooted : List (Option ℕ) → Option (ℕ × ℕ) → Option (ℕ × ℕ)
rooted targets None = None
rooted targets (Some called) = target_in (slice_get targets called.0) called.1

abbrev pub called_by : List (Option ℕ) → Option code_node.Node → ℕ → Option (ℕ × ℕ)
called_by targets None k = None
called_by targets (Some node) k = rooted targets (callee (node_of node) k)

-- the target that an item's dotted rule calls, and the step after it
abbrev pub call_of : code_flat.Tables → Item → Option (ℕ × ℕ)
call_of flat item = called_by flat.targets.items (slice_get flat.nodes.items item.node) item.step

abbrev pub callee_in : Option code_node.Node → ℕ → Option (ℕ × ℕ)
callee_in None k = None
callee_in (Some node) k = callee (node_of node) k

-- the node that an item's dotted rule calls, and the step after it
abbrev pub callee_of : code_flat.Tables → Item → Option (ℕ × ℕ)
callee_of flat item = callee_in (slice_get flat.nodes.items item.node) item.step

abbrev pub is_name_in : Option code_node.Node → Bool
is_name_in None = false
is_name_in (Some node) = is_name_node (node_of node)

-- a node is a name
abbrev pub name_of : code_flat.Tables → ℕ → Bool
name_of flat s = is_name_in (slice_get flat.nodes.items s)

abbrev pub done_in : Option code_node.Node → ℕ → Bool
done_in None k = false
done_in (Some node) k = is_done (node_of node) k

abbrev pub done_of : code_flat.Tables → Item → Bool
done_of flat item = done_in (slice_get flat.nodes.items item.node) item.step

abbrev pub count_in : Option code_node.Node → ℕ
count_in None = 0
count_in (Some node) = begin_count (node_of node)

abbrev pub takes_in : Option code_node.Node → Bool
takes_in None = false
takes_in (Some node) = takes (node_of node)

-- what an item's dotted rule calls has to take a letter
abbrev pub takes_of : code_flat.Tables → Item → Bool
takes_of flat item = takes_in (slice_get flat.nodes.items item.node)

-- the marks are those of the nullable nodes
abbrev pub AreNulls : Flat → List Bool → Type 0
AreNulls flat nulls = (t : ℕ) → (slice_get nulls t ≡ Some true) ↔ Nullable flat.nodes flat.bodies t

abbrev pub null_in : Option Bool → Bool
null_in None = false
null_in (Some marked) = marked

abbrev pub null_of : code_flat.Tables → ℕ → Bool
null_of flat t = null_in (slice_get flat.nulls.items t)

-- the target of the augmented start
abbrev pub start_target : code_flat.Tables → Option ℕ
start_target flat = option_flatten (slice_get flat.targets.items flat.start)

abbrev pub read_in : Option code_node.Node → ℕ → Option Set
read_in None k = None
read_in (Some node) k = read_at (node_of node) k

abbrev pub read_of : code_flat.Tables → Item → Option Set
read_of flat item = read_in (slice_get flat.nodes.items item.node) item.step
