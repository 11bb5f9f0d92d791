-- Expressions whose successes may leave events.
use Rattle.std.specs.Prelude.{◌≡◌, ◌↔◌, ℕ, Bool, List, [], ◌∷◌, map, slice_get, Some, option_to_list}
use Rattle.pegread.specs.Pattern.{Pattern, Patterns, Name, Seq, Choice, Star, Plus, Opt, Act, Open, Close, more, Rule}
use Rattle.pegread.specs.Pattern.{body_of}
use Rattle.fixpoint.specs.Demands as d
use Rattle.fixpoint.specs.Demands.{Demand}
use Rattle.fixpoint.specs.NumberMarks.{IsMarked}
use Rattle.pegnodes.specs.Nodes as node
use Rattle.pegnodes.specs.Nodes.{Shape, Spells}

module _ (rules : List Rule) where
  mutual
    -- The expression is an action or an end of a capture, or has one among its operands or in the body of a rule that
    -- it names. What a predicate looks at leaves no event.
    pub data Prints : Pattern → Type 0 where
      by_act : {t : List ℕ} → Prints (Act t)
      by_open : Prints Open
      by_close : Prints Close
      by_name : {n : List ℕ} {e : Pattern} → body_of rules n ≡ Some e → Prints e → Prints (Name n)
      by_member : {es : Patterns} → SomePrint es → Prints (Seq es)
      by_alternative : {es : Patterns} → SomePrint es → Prints (Choice es)
      by_starred : {e : Pattern} → Prints e → Prints (Star e)
      by_repeated : {e : Pattern} → Prints e → Prints (Plus e)
      by_optional : {e : Pattern} → Prints e → Prints (Opt e)

    pub data SomePrint : Patterns → Type 0 where
      first_prints : {e : Pattern} {es : Patterns} → Prints e → SomePrint (more e es)
      later_prints : {e : Pattern} {es : Patterns} → SomePrint es → SomePrint (more e es)

-- the nodes of which one must print before a node does: one of none where it never does, all of none where it does at
-- once
abbrev pub print_demand : List ℕ → Shape → Demand
print_demand bodies node.Any = d.One []
print_demand bodies (node.Bytes bs) = d.One []
print_demand bodies (node.Set s) = d.One []
print_demand bodies (node.Name id) = d.One (option_to_list (slice_get bodies id))
print_demand bodies (node.Seq ms) = d.One ms
print_demand bodies (node.Choice ms) = d.One ms
print_demand bodies (node.Star m) = d.One (m ∷ [])
print_demand bodies (node.Plus m k) = d.One (m ∷ [])
print_demand bodies (node.Opt m) = d.One (m ∷ [])
print_demand bodies (node.And m) = d.One []
print_demand bodies (node.Not m) = d.One []
print_demand bodies (node.Act t) = d.All []
print_demand bodies node.Open = d.All []
print_demand bodies node.Close = d.All []

-- what each node needs before it prints
abbrev pub print_demands : List ℕ → List Shape → List Demand
print_demands bodies nodes = map (print_demand bodies) nodes

-- exactly those nodes are marked that spell expressions that may print
abbrev pub ArePrintMarks : List Rule → List Shape → List Bool → Type 0
ArePrintMarks rules nodes marks = (n : ℕ) (e : Pattern) → Spells rules nodes n e → IsMarked marks n ↔ Prints rules e
