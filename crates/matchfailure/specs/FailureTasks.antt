-- The tasks of an evaluation: what they give, and what they ask for. A task is that of a node at a position, or that of
-- the members of a sequence or a choice from one of them on.
use Rattle.std.specs.Prelude.{◌≡◌, ℕ, ◌≤◌, Bool, true, false, List, [], ◌∷◌, length, drop, slice_get, Some}
use Rattle.gramcheck.specs.Grammar.{Grammar}
use Rattle.memo.specs.declared.found.Found.{Found}
use Rattle.memo.specs.declared.found.Found.TheVariants.{Failed, Took}
use Rattle.memo.specs.declared.task.MatchTask.{MatchTask}
use Rattle.memo.specs.declared.task.MatchTask.TheVariants.{Eval, Tail}
use Rattle.pegmatch.specs.KeptEvents.{SpellsSome}
use Rattle.pegmatch.specs.Visits.{NodeTakes, NodeFails, AsksMember, AsksAlternative}
use Rattle.pegnodes.specs.KeyLists.{Marks, node_marks, tail_marks}
use Rattle.pegnodes.specs.Nodes.{Shape, Seq, Choice, Star, Plus, Opt, And, Not, shapes_of}
use Rattle.pegread.specs.PegViews.{rules_of}
use Rattle.matchfailure.specs.Farthest.{AsksOutside, Outside}

-- whether the result of a task is stored
abbrev pub is_key_task : Marks → MatchTask → Bool
is_key_task marks (Eval n p) = node_marks marks n
is_key_task marks (Tail n i p) = tail_marks marks n i

-- a sequence or a choice
abbrev pub HasTails : Shape → Type 0
HasTails (Seq ms) = Unit {0}
HasTails (Choice ms) = Unit {0}
HasTails _ = ⊥

module _ (g : Grammar) (x : List ℕ) where
  -- what node n gives at p
  abbrev pub NodeFinds : ℕ → ℕ → Found → Type 0
  NodeFinds n p Failed = NodeFails (rules_of g.rules) (shapes_of g.nodes) g.bodies x n p
  NodeFinds n p (Took q) = NodeTakes (rules_of g.rules) (shapes_of g.nodes) g.bodies x n p q

  -- what the members give, in order, each from where the one before ends
  pub data MembersFind : List ℕ → ℕ → Found → Type 0 where
    find_end : {p : ℕ} → MembersFind [] p (Took p)
    find_fails : {m p : ℕ} {ms : List ℕ} → NodeFinds m p Failed → MembersFind (m ∷ ms) p Failed
    find_takes : {m p q : ℕ} {ms : List ℕ} {f : Found} → NodeFinds m p (Took q) → MembersFind ms q f
        → MembersFind (m ∷ ms) p f

  -- what the first alternative gives that succeeds
  pub data AlternativesFind (p : ℕ) : List ℕ → Found → Type 0 where
    find_none : AlternativesFind p [] Failed
    find_first : {m q : ℕ} {ms : List ℕ} → NodeFinds m p (Took q) → AlternativesFind p (m ∷ ms) (Took q)
    find_later : {m : ℕ} {ms : List ℕ} {f : Found} → NodeFinds m p Failed → AlternativesFind p ms f
        → AlternativesFind p (m ∷ ms) f

  -- what those from member i on give
  abbrev pub TailFinds : Shape → ℕ → ℕ → Found → Type 0
  TailFinds (Seq ms) i p f = MembersFind (drop i ms) p f
  TailFinds (Choice ms) i p f = AlternativesFind p (drop i ms) f
  TailFinds _ i p f = ⊥

  -- what those from member i on ask for
  abbrev pub TailAsks : Shape → ℕ → ℕ → ℕ → ℕ → Type 0
  TailAsks (Seq ms) i p m q = AsksMember (rules_of g.rules) (shapes_of g.nodes) g.bodies x (drop i ms) p m q
  TailAsks (Choice ms) i p m q =
      AsksAlternative (rules_of g.rules) (shapes_of g.nodes) g.bodies x p (drop i ms) m × (q ≡ p)
  TailAsks _ i p m q = ⊥

  -- what a task gives
  abbrev pub TaskFinds : MatchTask → Found → Type 0
  TaskFinds (Eval n p) f = NodeFinds n p f
  TaskFinds (Tail n i p) f = (shape : Shape) × (slice_get (shapes_of g.nodes) n ≡ Some shape) × TailFinds shape i p f

  -- a task that is of no `!` asks for node m at q
  abbrev pub TaskAsks : MatchTask → ℕ → ℕ → Type 0
  TaskAsks (Eval n p) m q = AsksOutside (rules_of g.rules) (shapes_of g.nodes) g.bodies x n p m q
  TaskAsks (Tail n i p) m q =
      (shape : Shape) × (slice_get (shapes_of g.nodes) n ≡ Some shape) × TailAsks shape i p m q

  -- the evaluations that a task consists of: its node's, or those that it asks for
  abbrev pub TaskHas : MatchTask → ℕ → ℕ → Type 0
  TaskHas (Eval n p) m q = (m ≡ n) × (q ≡ p)
  TaskHas (Tail n i p) m q = TaskAsks (Tail n i p) m q

  -- a task of the grammar and the window
  abbrev pub IsWell : MatchTask → Type 0
  IsWell (Eval n p) = SpellsSome (rules_of g.rules) (shapes_of g.nodes) n × (p ≤ length x)
  IsWell (Tail n i p) = SpellsSome (rules_of g.rules) (shapes_of g.nodes) n × (p ≤ length x)
      × ((shape : Shape) × (slice_get (shapes_of g.nodes) n ≡ Some shape) × HasTails shape)

  -- its evaluations are asked for outside of `!`
  abbrev pub IsOutside : MatchTask → Type 0
  IsOutside a = (m q : ℕ) → TaskHas a m q
      → Outside (rules_of g.rules) (shapes_of g.nodes) g.bodies x g.start m q

-- the operand of a node of this shape, and whether the node is a `!`
abbrev pub HasOperand : Shape → ℕ → Bool → Type 0
HasOperand (Star m) k denied = (k ≡ m) × (denied ≡ false)
HasOperand (Plus m s) k denied = (k ≡ m) × (denied ≡ false)
HasOperand (Opt m) k denied = (k ≡ m) × (denied ≡ false)
HasOperand (And m) k denied = (k ≡ m) × (denied ≡ false)
HasOperand (Not m) k denied = (k ≡ m) × (denied ≡ true)
HasOperand _ k denied = ⊥

-- member i of a node of this shape
abbrev pub HasMemberAt : Shape → ℕ → ℕ → Type 0
HasMemberAt (Seq ms) i k = slice_get ms i ≡ Some k
HasMemberAt (Choice ms) i k = slice_get ms i ≡ Some k
HasMemberAt _ i k = ⊥

-- a task asks for node k at q first
abbrev pub IsFirst : Grammar → MatchTask → ℕ → ℕ → Bool → Type 0
IsFirst g (Eval n p) k q denied = (q ≡ p)
    × ((shape : Shape) × (slice_get (shapes_of g.nodes) n ≡ Some shape) × HasOperand shape k denied)
IsFirst g (Tail n i p) k q denied = (q ≡ p) × (denied ≡ false)
    × ((shape : Shape) × (slice_get (shapes_of g.nodes) n ≡ Some shape) × HasMemberAt shape i k)
