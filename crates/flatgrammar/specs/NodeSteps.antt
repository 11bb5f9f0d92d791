-- The relations of a node as functions.
use Rattle.std.specs.Prelude.{ℕ, ◌+◌, ◌-◌, Bool, true, false, ◌&&◌, ◌||◌, eqb, ltb, leb, length, slice_get, Option}
use Rattle.std.specs.Prelude.{Some, None, if◌then◌else◌}
use Rattle.flatgrammar.specs.FlatViews.{nodes_of}
use Rattle.flatgrammar.specs.declared.tables.Tables as code_flat
use Rattle.flatgrammar.specs.Flat.{Node, Set, Has, Flat, Letters, Concat, Alt, Rep, Iterations, Opt, Name, Nothing}

-- the grammar of the tables
abbrev pub flat_of : code_flat.Tables → Flat
flat_of flat = record {
  nodes = nodes_of flat.nodes.items;
  bodies = flat.bodies.items;
  start = flat.start;
  limit = flat.limit;
}

-- the steps below this are those where the node begins
abbrev pub begin_count : Node → ℕ
begin_count (Letters sets) = 1
begin_count (Concat ms) = 1
begin_count (Alt ms) = length ms
begin_count (Rep a b m) = 1
begin_count (Iterations b m) = 1
begin_count (Opt m) = 2
begin_count (Name r) = 0
begin_count Nothing = 0

abbrev pub is_done : Node → ℕ → Bool
is_done (Letters sets) k = eqb k (length sets)
is_done (Concat ms) k = eqb k (length ms)
is_done (Alt ms) k = leb (length ms) k && ltb (k - length ms) (length ms)
is_done (Rep a None m) k = eqb k a
is_done (Rep a (Some b) m) k = leb a k && leb k b
is_done (Iterations None m) k = eqb k 0
is_done (Iterations (Some b) m) k = leb k b
is_done (Opt m) k = eqb k 1 || eqb k 2
is_done (Name r) k = false
is_done Nothing k = false

-- each iteration takes a letter
abbrev pub takes : Node → Bool
takes (Letters sets) = false
takes (Concat ms) = false
takes (Alt ms) = false
takes (Rep a b m) = false
takes (Iterations b m) = true
takes (Opt m) = false
takes (Name r) = false
takes Nothing = false

-- a called node, and the step after it
abbrev pub with_next : Option ℕ → ℕ → Option (ℕ × ℕ)
with_next None l = None
with_next (Some s) l = Some (s, l)

abbrev pub callee : Node → ℕ → Option (ℕ × ℕ)
callee (Letters sets) k = None
callee (Concat ms) k = with_next (slice_get ms k) (k + 1)
callee (Alt ms) k = with_next (slice_get ms k) (length ms + k)
callee (Rep a None m) k = if ltb k a then Some (m, k + 1) else (if eqb k a then Some (m, a) else None)
callee (Rep a (Some b) m) k = if ltb k b then Some (m, k + 1) else None
callee (Iterations None m) k = if eqb k 0 then Some (m, 0) else None
callee (Iterations (Some b) m) k = if ltb k b then Some (m, k + 1) else None
callee (Opt m) k = if eqb k 0 then Some (m, 2) else None
callee (Name r) k = None
callee Nothing k = None

abbrev pub is_name_node : Node → Bool
is_name_node (Letters sets) = false
is_name_node (Concat ms) = false
is_name_node (Alt ms) = false
is_name_node (Rep a b m) = false
is_name_node (Iterations b m) = false
is_name_node (Opt m) = false
is_name_node (Name r) = true
is_name_node Nothing = false

-- the steps below this may call something
abbrev pub call_count : Node → ℕ
call_count (Letters sets) = 0
call_count (Concat ms) = length ms
call_count (Alt ms) = length ms
call_count (Rep a b m) = 0
call_count (Iterations b m) = 0
call_count (Opt m) = 1
call_count (Name r) = 0
call_count Nothing = 0

-- what each iteration calls
abbrev pub turned : Node → Option ℕ
turned (Letters sets) = None
turned (Concat ms) = None
turned (Alt ms) = None
turned (Rep a b m) = Some m
turned (Iterations b m) = Some m
turned (Opt m) = None
turned (Name r) = None
turned Nothing = None

-- the set that a step reads
abbrev pub read_at : Node → ℕ → Option Set
read_at (Letters sets) k = slice_get sets k
read_at (Concat ms) k = None
read_at (Alt ms) k = None
read_at (Rep a b m) k = None
read_at (Iterations b m) k = None
read_at (Opt m) k = None
read_at (Name r) k = None
read_at Nothing k = None

abbrev pub IfSomeSet : Option Set → ℕ → Type 0
IfSomeSet None c = ⊥
IfSomeSet (Some set) c = Has set c
