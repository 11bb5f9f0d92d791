-- A grammar as numbered nodes, its dotted rules, and the relations between them.
use Rattle.std.specs.Prelude.{◌≡◌, ℕ, ◌+◌, ◌<◌, ◌≤◌, min, List, length, slice_get, Option, Some, None}
use Rattle.ruletable.specs.Letters.{small}

-- a set of letters
pub data Set : Type 0 where
  Exactly : ℕ → Set
  EitherCase : ℕ → Set
  Between : (low : ℕ) → (high : ℕ) → Set

abbrev pub Has : Set → ℕ → Type 0
Has (Exactly v) c = c ≡ v
Has (EitherCase v) c = small c ≡ small v
Has (Between low high) c = (low ≤ c) × (c ≤ high)

-- an expression with the numbers of its operands
pub data Node : Type 0 where
  Letters : List Set → Node
  Concat : List ℕ → Node
  Alt : List ℕ → Node
  Rep : (least : ℕ) → (most : Option ℕ) → ℕ → Node
  Iterations : (most : Option ℕ) → ℕ → Node  -- at most so many iterations, each of at least one letter
  Opt : ℕ → Node
  Name : ℕ → Node  -- a rule, by its number
  Nothing : Node

pub record Flat : Type 0 where
  pub nodes : List Node
  pub bodies : List ℕ  -- for each rule the node of its body
  pub start : ℕ  -- the node of the judged rule's body alone, as a concatenation of one
  pub limit : ℕ  -- it serves lines of at most so many letters

-- a dotted rule: a node, and how far one is in it
pub data Dot : Type 0 where
  at : (node : ℕ) → (step : ℕ) → Dot

-- the last step of a repetition that is counted
abbrev pub top : ℕ → Option ℕ → ℕ
top least None = least
top least (Some most) = most

-- a number, or one more than the limit where that is less
abbrev pub capped : ℕ → ℕ → ℕ
capped limit n = min n (limit + 1)

-- the steps where a node begins
pub data Begins : Node → ℕ → Type 0 where
  letters : {sets : List Set} → Begins (Letters sets) 0
  concat : {ms : List ℕ} → Begins (Concat ms) 0
  alt : {ms : List ℕ} {k : ℕ} → k < length ms → Begins (Alt ms) k
  rep : {a m : ℕ} {b : Option ℕ} → Begins (Rep a b m) 0
  iterations : {m : ℕ} {b : Option ℕ} → Begins (Iterations b m) 0
  opt : {m : ℕ} → Begins (Opt m) 0
  opt_empty : {m : ℕ} → Begins (Opt m) 1

-- the steps where it is done
pub data IsDone : Node → ℕ → Type 0 where
  letters : {sets : List Set} {k : ℕ} → k ≡ length sets → IsDone (Letters sets) k
  concat : {ms : List ℕ} {k : ℕ} → k ≡ length ms → IsDone (Concat ms) k
  alt : {ms : List ℕ} {k : ℕ} → k < length ms → IsDone (Alt ms) (length ms + k)
  rep : {a m k : ℕ} {b : Option ℕ} → a ≤ k → k ≤ top a b → IsDone (Rep a b m) k
  iterations : {m k : ℕ} {b : Option ℕ} → k ≤ top 0 b → IsDone (Iterations b m) k
  opt : {m : ℕ} → IsDone (Opt m) 2
  opt_empty : {m : ℕ} → IsDone (Opt m) 1

-- from one step to another by a letter
pub data Reading : Node → ℕ → Set → ℕ → Type 0 where
  letter : {sets : List Set} {k : ℕ} {set : Set} → slice_get sets k ≡ Some set → Reading (Letters sets) k set (k + 1)

-- from one step to another by a node
pub data Calling : Node → ℕ → ℕ → ℕ → Type 0 where
  member : {ms : List ℕ} {k s : ℕ} → slice_get ms k ≡ Some s → Calling (Concat ms) k s (k + 1)
  alternative : {ms : List ℕ} {k s : ℕ} → slice_get ms k ≡ Some s → Calling (Alt ms) k s (length ms + k)
  iteration : {a m k : ℕ} {b : Option ℕ} → k < top a b → Calling (Rep a b m) k m (k + 1)
  iteration_uncounted : {a m : ℕ} → Calling (Rep a None m) a m a
  takes : {m k : ℕ} {b : Option ℕ} → k < top 0 b → Calling (Iterations b m) k m (k + 1)
  takes_uncounted : {m : ℕ} → Calling (Iterations None m) 0 m 0
  operand : {m : ℕ} → Calling (Opt m) 0 m 2

-- a node whose iterations take at least one letter each
pub data IsTaking : Node → Type 0 where
  is_taking : {m : ℕ} {b : Option ℕ} → IsTaking (Iterations b m)

module _ (flat : Flat) where
  -- a name starts and ends where its body does
  pub data Starts : ℕ → Dot → Type 0 where
    starts : {s k : ℕ} {node : Node} → slice_get flat.nodes s ≡ Some node → Begins node k → Starts s (at s k)
    name_starts : {s t r : ℕ} {p : Dot} → slice_get flat.nodes s ≡ Some (Name r) → slice_get flat.bodies r ≡ Some t
        → Starts t p → Starts s p

  pub data Ends : Dot → ℕ → Type 0 where
    ends : {s k : ℕ} {node : Node} → slice_get flat.nodes s ≡ Some node → IsDone node k → Ends (at s k) s
    name_ends : {s t r : ℕ} {p : Dot} → slice_get flat.nodes s ≡ Some (Name r) → slice_get flat.bodies r ≡ Some t
        → Ends p t → Ends p s

  pub data Reads : Dot → Set → Dot → Type 0 where
    reads : {s k l : ℕ} {set : Set} {node : Node} → slice_get flat.nodes s ≡ Some node → Reading node k set l
        → Reads (at s k) set (at s l)

  pub data Calls : Dot → ℕ → Dot → Type 0 where
    calls : {s k t l : ℕ} {node : Node} → slice_get flat.nodes s ≡ Some node → Calling node k t l
        → Calls (at s k) t (at s l)

  -- a dotted rule in such a node
  pub data Takes : Dot → Type 0 where
    in_iterations : {s k : ℕ} {node : Node} → slice_get flat.nodes s ≡ Some node → IsTaking node → Takes (at s k)
