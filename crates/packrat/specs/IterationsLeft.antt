-- What the machine's loop has left: a number that each iteration lowers.
use Rattle.std.specs.Prelude.{ℕ, suc, ◌+◌, ◌*◌, ◌-◌, ◌^◌, ◌≤◌, max, List, [], ◌∷◌, length}
use Rattle.gramcheck.specs.Grammar.{Grammar}
use Rattle.pegnodes.specs.Nodes.{Shape, shapes_of}
use Rattle.memo.specs.declared.task.MatchTask.{MatchTask}
use Rattle.memo.specs.declared.task.MatchTask.TheVariants.{Eval, Tail}
use Rattle.pegnodes.specs.NodeWays.{Way, Leaf, Body, Members, Alternatives, Iterations, Operand, way_of}
use Rattle.packrat.specs.declared.frames.Frame.{Frame}
use Rattle.packrat.specs.declared.frames.Wait.{Wait}
use Rattle.packrat.specs.declared.frames.Wait.TheVariants.{First, Last, Turned}
use Rattle.packrat.specs.LoopIterations.{Iteration, Ask, Answer}

-- the number of members of a node that goes on in this way
abbrev pub members_of : Way → ℕ
members_of Leaf = 0
members_of (Body id) = 0
members_of (Members ms) = length ms
members_of (Alternatives ms) = length ms
members_of (Iterations k s) = 0
members_of (Operand k) = 0

-- the greatest number of members that a node has
abbrev pub most_members : List Shape → ℕ
most_members [] = 0
most_members (s ∷ nodes) = max (members_of (way_of 0 s)) (most_members nodes)

module _ (most : ℕ) where
  -- the cost of a task that is asked for, without that of the evaluations that begin
  abbrev pub ask_cost : MatchTask → ℕ
  ask_cost (Eval n p) = 1
  ask_cost (Tail n i p) = 4 * (most - i)

  -- likewise of a frame that awaits its last child, its node after its iterations, or its first child
  abbrev pub wait_cost : Wait → MatchTask → ℕ
  wait_cost (Last head) a = 1
  wait_cost (Turned last) a = 1
  wait_cost First (Eval n p) = 3
  wait_cost First (Tail n i p) = 2 + 4 * (most - suc i)

  abbrev pub frames_cost : List Frame → ℕ
  frames_cost [] = 0
  frames_cost (f ∷ fs) = wait_cost f.wait f.task + frames_cost fs

  abbrev pub iteration_cost : Iteration → ℕ
  iteration_cost (Ask a) = ask_cost a
  iteration_cost (Answer given) = 0

module _ (g : Grammar) (x : List ℕ) where
  -- there are no more evaluations
  abbrev pub most_begun : ℕ
  most_begun = length g.nodes * (length x + 1)

  -- so many evaluations, and those that one step more begins, fit in 64 bits
  abbrev pub FitsBegun : Type 0
  FitsBegun = most_begun + 2 ^ 33 ≤ 2 ^ 64

  -- what is left: the evaluations that are not begun yet, and the cost of the iteration and of the frames
  unfoldable pub left : Iteration → List Frame → ℕ → ℕ
  left iteration frames begun = (4 * most_members (shapes_of g.nodes) + 4) * (length g.nodes * (length x + 1) - begun)
      + (iteration_cost (most_members (shapes_of g.nodes)) iteration + frames_cost
      (most_members (shapes_of g.nodes)) frames)
