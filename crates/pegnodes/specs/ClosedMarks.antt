-- Marks of nodes that are closed under what a node's namers are: those that may take nothing, that may ask for a node
-- at their own position, or where they end.
use Rattle.std.specs.Prelude.{◌≡◌, ℕ, ◌==◌, if◌then◌else◌, Bool, true, false, List, [], ◌∷◌, Option, Some, None}
use Rattle.std.specs.Prelude.{slice_get, get_or}
use Rattle.fixpoint.specs.NumberMarks.{IsMarked}
use Rattle.pegnodes.specs.Nodes.{Shape, Any, Bytes, Set, Name, Seq, Choice, Star, Plus, Opt, And, Not, Act, Open}
use Rattle.pegnodes.specs.Nodes.{Close}
use Rattle.pegnodes.specs.declared.apart.Wanted.{Wanted}
use Rattle.pegnodes.specs.declared.apart.Wanted.TheVariants.{Empties, Nears, Lasts}

-- each of these is marked
abbrev pub all_marked : List Bool → List ℕ → Bool
all_marked marks [] = true
all_marked marks (m ∷ ms) = if get_or marks m false then all_marked marks ms else false

-- one of these is marked
abbrev pub any_marked : List Bool → List ℕ → Bool
any_marked marks [] = false
any_marked marks (m ∷ ms) = if get_or marks m false then true else any_marked marks ms

-- one of these is marked, and all before it may take nothing
abbrev pub front_marked : List Bool → List Bool → List ℕ → Bool
front_marked empties marks [] = false
front_marked empties marks (m ∷ ms) = if get_or marks m false then true else
    (if get_or empties m false then front_marked empties marks ms else false)

-- one of these is marked, and all after it may take nothing
abbrev pub back_marked : List Bool → List Bool → List ℕ → Bool
back_marked empties marks [] = false
back_marked empties marks (m ∷ ms) = if get_or marks m false then
    (if all_marked empties ms then true else back_marked empties marks ms) else back_marked empties marks ms

abbrev pub body_marked : List Bool → Option ℕ → Bool
body_marked marks None = false
body_marked marks (Some m) = get_or marks m false

abbrev pub is_no_byte : List ℕ → Bool
is_no_byte [] = true
is_no_byte (b ∷ bs) = false

-- a node of this shape may take nothing, if those may that are marked
abbrev pub empty_step : List ℕ → List Bool → Shape → Bool
empty_step bodies marks Any = false
empty_step bodies marks (Bytes bs) = is_no_byte bs
empty_step bodies marks (Set s) = false
empty_step bodies marks (Name id) = body_marked marks (slice_get bodies id)
empty_step bodies marks (Seq ms) = all_marked marks ms
empty_step bodies marks (Choice ms) = any_marked marks ms
empty_step bodies marks (Star k) = true
empty_step bodies marks (Plus k s) = get_or marks k false
empty_step bodies marks (Opt k) = true
empty_step bodies marks (And k) = true
empty_step bodies marks (Not k) = true
empty_step bodies marks (Act t) = true
empty_step bodies marks Open = true
empty_step bodies marks Close = true

-- it may ask for a marked node at its own position
abbrev pub near_step : List ℕ → List Bool → List Bool → Shape → Bool
near_step bodies empties marks Any = false
near_step bodies empties marks (Bytes bs) = false
near_step bodies empties marks (Set s) = false
near_step bodies empties marks (Name id) = body_marked marks (slice_get bodies id)
near_step bodies empties marks (Seq ms) = front_marked empties marks ms
near_step bodies empties marks (Choice ms) = any_marked marks ms
near_step bodies empties marks (Star k) = get_or marks k false
near_step bodies empties marks (Plus k s) = get_or marks k false
near_step bodies empties marks (Opt k) = get_or marks k false
near_step bodies empties marks (And k) = get_or marks k false
near_step bodies empties marks (Not k) = get_or marks k false
near_step bodies empties marks (Act t) = false
near_step bodies empties marks Open = false
near_step bodies empties marks Close = false

-- it may end with a marked node
abbrev pub last_step : List ℕ → List Bool → List Bool → Shape → Bool
last_step bodies empties marks Any = false
last_step bodies empties marks (Bytes bs) = false
last_step bodies empties marks (Set s) = false
last_step bodies empties marks (Name id) = body_marked marks (slice_get bodies id)
last_step bodies empties marks (Seq ms) = back_marked empties marks ms
last_step bodies empties marks (Choice ms) = any_marked marks ms
last_step bodies empties marks (Star k) = get_or marks k false
last_step bodies empties marks (Plus k s) = get_or marks s false
last_step bodies empties marks (Opt k) = get_or marks k false
last_step bodies empties marks (And k) = false
last_step bodies empties marks (Not k) = false
last_step bodies empties marks (Act t) = false
last_step bodies empties marks Open = false
last_step bodies empties marks Close = false

-- node n of this shape is one of those that are wanted, if the marked ones are
abbrev pub wanted_step : Wanted → List ℕ → List Bool → ℕ → Shape → Bool
wanted_step Empties bodies marks n shape = empty_step bodies marks shape
wanted_step (Nears l empties) bodies marks n shape = if n == l then true else
    near_step bodies empties.now marks shape
wanted_step (Lasts empties near) bodies marks n shape = if get_or empties.now n false then
    (if get_or near.now n false then true else last_step bodies empties.now marks shape)
    else last_step bodies empties.now marks shape

-- each node that is one of them by the marks is marked
abbrev pub AreClosedMarks : Wanted → List Shape → List ℕ → List Bool → Type 0
AreClosedMarks wanted nodes bodies marks = (n : ℕ) (shape : Shape) → slice_get nodes n ≡ Some shape
    → wanted_step wanted bodies marks n shape ≡ true → IsMarked marks n

-- after none of these that may end with a node the next ones may ask for it
abbrev pub members_apart : List Bool → List Bool → List Bool → List ℕ → Bool
members_apart empties near last [] = true
members_apart empties near last (m ∷ ms) = if get_or last m false then
    (if front_marked empties near ms then false else members_apart empties near last ms)
    else members_apart empties near last ms

-- at most one of these is marked
abbrev pub others_apart : List Bool → List ℕ → Bool
others_apart near [] = true
others_apart near (m ∷ ms) = if get_or near m false then
    (if any_marked near ms then false else others_apart near ms) else others_apart near ms

-- an operand does not end with a node that the next iteration may ask for
abbrev pub iterations_apart : List Bool → List Bool → ℕ → ℕ → Bool
iterations_apart near last k s = if get_or last k false then (if get_or near s false then false else true) else true

-- this holds of node n of this shape
abbrev pub shape_apart : List Bool → List Bool → List Bool → ℕ → Shape → Bool
shape_apart empties near last n Any = true
shape_apart empties near last n (Bytes bs) = true
shape_apart empties near last n (Set s) = true
shape_apart empties near last n (Name id) = true
shape_apart empties near last n (Seq ms) = members_apart empties near last ms
shape_apart empties near last n (Choice ms) = others_apart near ms
shape_apart empties near last n (Star k) = iterations_apart near last k n
shape_apart empties near last n (Plus k s) = iterations_apart near last k s
shape_apart empties near last n (Opt k) = true
shape_apart empties near last n (And k) = true
shape_apart empties near last n (Not k) = true
shape_apart empties near last n (Act t) = true
shape_apart empties near last n Open = true
shape_apart empties near last n Close = true

-- and of each node
abbrev pub AreShapesApart : List Bool → List Bool → List Bool → List Shape → Type 0
AreShapesApart empties near last nodes = (n : ℕ) (shape : Shape) → slice_get nodes n ≡ Some shape
    → shape_apart empties near last n shape ≡ true
