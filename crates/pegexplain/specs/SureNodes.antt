-- Which nodes fail nowhere, and a test of expressions by marks of the rules. Private helpers alone use it.
use Rattle.std.specs.Prelude.{ℕ, Bool, true, false, ◌&&◌, ◌||◌, List, [], ◌∷◌, map, slice_get, option_to_list}
use Rattle.pegread.specs.Pattern as p
use Rattle.pegread.specs.Pattern.{Pattern, Patterns, Rule, none, more}
use Rattle.fixpoint.specs.Demands as d
use Rattle.fixpoint.specs.Demands.{Demand}
use Rattle.fixpoint.specs.NumberMarks.{IsMarked}
use Rattle.pegnodes.specs.Nodes.{Shape, Any, Bytes, Set, Name, Seq, Choice, Star, Plus, Opt, And, Not, Act, Open}
use Rattle.pegnodes.specs.Nodes.{Close, Spells}
use Rattle.pegexplain.specs.FailsNowhere.{FailsNowhere}
use Rattle.pegexplain.specs.NullTests.{is_empty_list}

-- the nodes of which all or one must fail nowhere before a node does: all of none where it does at once, one of none
-- where it never does
abbrev pub sure_demand : List ℕ → Shape → Demand
sure_demand bodies Any = d.One []
sure_demand bodies (Bytes []) = d.All []
sure_demand bodies (Bytes (b ∷ bs)) = d.One []
sure_demand bodies (Set s) = d.One []
sure_demand bodies (Name id) = d.One (option_to_list (slice_get bodies id))
sure_demand bodies (Seq ms) = d.All ms
sure_demand bodies (Choice ms) = d.One ms
sure_demand bodies (Star m) = d.All []
sure_demand bodies (Plus m k) = d.One (m ∷ [])
sure_demand bodies (Opt m) = d.All []
sure_demand bodies (And m) = d.One (m ∷ [])
sure_demand bodies (Not m) = d.One []
sure_demand bodies (Act t) = d.All []
sure_demand bodies Open = d.All []
sure_demand bodies Close = d.All []

-- what each node needs before it fails nowhere
abbrev pub sure_demands : List ℕ → List Shape → List Demand
sure_demands bodies nodes = map (sure_demand bodies) nodes

-- exactly those nodes are marked that spell expressions which fail nowhere
pub record AreSureMarks (rules : List Rule) (nodes : List Shape) (marks : List Bool) : Type 0 where
  pub sound : (n : ℕ) (e : Pattern) → Spells rules nodes n e → IsMarked marks n → FailsNowhere rules e
  pub whole : (n : ℕ) (e : Pattern) → Spells rules nodes n e → FailsNowhere rules e → IsMarked marks n

module _ (is_sure : List ℕ → Bool) where
  abbrev mutual
    -- whether an expression fails nowhere, where it is known of names
    pub sure_by : Pattern → Bool
    sure_by p.Any = false
    sure_by (p.Bytes bytes) = is_empty_list bytes
    sure_by (p.Set test) = false
    sure_by (p.Name name) = is_sure name
    sure_by (p.Seq es) = all_sure_by es
    sure_by (p.Choice es) = some_sure_by es
    sure_by (p.Star e) = true
    sure_by (p.Plus e) = sure_by e
    sure_by (p.Opt e) = true
    sure_by (p.And e) = sure_by e
    sure_by (p.Not e) = false
    sure_by (p.Act template) = true
    sure_by p.Open = true
    sure_by p.Close = true

    pub all_sure_by : Patterns → Bool
    all_sure_by none = true
    all_sure_by (more e es) = sure_by e && all_sure_by es

    pub some_sure_by : Patterns → Bool
    some_sure_by none = false
    some_sure_by (more e es) = sure_by e || some_sure_by es
