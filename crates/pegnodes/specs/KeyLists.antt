-- Marks of the nodes and tails that are keys, as lists.
use Rattle.std.specs.Prelude.{ℕ, Bool, true, false, List, [], ◌∷◌, map, get_or}
use Rattle.pegnodes.specs.Nodes.{Shape, Any, Bytes, Set, Name, Seq, Choice, Star, Plus, Opt, And, Not, Act, Open}
use Rattle.pegnodes.specs.Nodes.{Close}

-- of each node whether it is a key, and which of its tails are
pub record Marks : Type 0 where
  pub nodes : List Bool
  pub tails : List (List Bool)

-- whether a node is a key; one without a mark is
abbrev pub node_marks : Marks → ℕ → Bool
node_marks marks n = get_or marks.nodes n true

-- whether a node's tail from member i on is a key; one without a mark is not
abbrev pub tail_marks : Marks → ℕ → ℕ → Bool
tail_marks marks n i = get_or (get_or marks.tails n []) i false

-- Which tails of a node are keys, given after which nodes they are: those of a sequence after its members. A whole
-- sequence is none, and no tail of a choice is one.
abbrev pub tails_of : List Bool → Shape → List Bool
tails_of after Any = []
tails_of after (Bytes bs) = []
tails_of after (Set s) = []
tails_of after (Name id) = []
tails_of after (Seq ms) = false ∷ map (λ m. get_or after m true) ms
tails_of after (Choice ms) = []
tails_of after (Star m) = []
tails_of after (Plus m k) = []
tails_of after (Opt m) = []
tails_of after (And m) = []
tails_of after (Not m) = []
tails_of after (Act t) = []
tails_of after Open = []
tails_of after Close = []

-- the marks of all nodes and their tails
abbrev pub marks_of : List Shape → List Bool → List Bool → Marks
marks_of nodes keys after = record { nodes = keys; tails = map (tails_of after) nodes }
