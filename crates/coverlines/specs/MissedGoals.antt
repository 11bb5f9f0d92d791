-- The goals of the rules that names lead to, and those of them that no line reaches.
use Rattle.std.specs.Prelude.{◌≡◌, ℕ, zero, suc, ◌+◌, Bool, true, false, ◌&&◌, ◌||◌, eqb, ltb, if◌then◌else◌}
use Rattle.std.specs.Prelude.{List, [], ◌∷◌, ◌++◌, map, Option, Some, None}
use Rattle.std.specs.Char.{is_ascii_alphabetic}
use Rattle.abnfread.specs.AbnfViews.{element_of}
use Rattle.abnfread.specs.Element.{Element, Elements, Text, Values, Range, Concat, Alt, Rep, Opt, Name, Prose, none}
use Rattle.abnfread.specs.Element.{more, Rule}
use Rattle.abnfcheck.specs.AbnfGrammar.{Reachable}
use Rattle.coverlines.specs.CoverLines.{Reaches}
use Rattle.coverlines.specs.Goals.{Goal}
use Rattle.coverlines.specs.declared.bounds.LineBounds.{LineBounds}
use Rattle.coverlines.specs.declared.way.CoverGoal.{CoverGoal}
use Rattle.coverlines.specs.declared.way.GoalWay.{GoalWay}
use Rattle.coverlines.specs.declared.way.GoalWay.TheVariants.{Chosen, Taken, LeftOut, Rounds, First, Last, Same}
use Rattle.coverlines.specs.declared.way.GoalWay.TheVariants.{OtherCase}

-- a US-ASCII letter
abbrev pub has_letters : List ℕ → Bool
has_letters [] = false
has_letters (c ∷ t) = is_ascii_alphabetic c || has_letters t

-- a way, if the condition holds
abbrev pub way_if : Bool → GoalWay → List GoalWay
way_if holds way = if holds then way ∷ [] else []

-- how many there are
abbrev pub alternative_count : Elements → ℕ
alternative_count none = 0
alternative_count (more e es) = suc (alternative_count es)

-- each of the first so many alternatives
abbrev pub chosen_below : ℕ → List GoalWay
chosen_below zero = []
chosen_below (suc n) = chosen_below n ++ Chosen n ∷ []

-- as few rounds as may be; as many as may be, or one more than the fewest where there is no bound; and one, where none
-- and more than one may be
abbrev pub round_ways : ℕ → Option ℕ → List GoalWay
round_ways least None = Rounds least ∷ Rounds (least + 1) ∷ []
round_ways least (Some most) = (Rounds least ∷ way_if (if eqb most least then false else true) (Rounds most))
    ++ way_if (eqb least 0 && ltb 1 most) (Rounds 1)

-- the ways of an element that are goals; a text has its other case, if it folds and has a letter
abbrev pub ways_of : Element → List GoalWay
ways_of (Text folds t) = Same ∷ way_if (folds && has_letters t) OtherCase
ways_of (Values vs) = Same ∷ []
ways_of (Range low high) = First ∷ Last ∷ []
ways_of (Concat es) = []
ways_of (Alt es) = chosen_below (alternative_count es)
ways_of (Rep least most e) = round_ways least most
ways_of (Opt e) = Taken ∷ LeftOut ∷ []
ways_of (Name name) = []
ways_of (Prose text) = []

-- a goal within an element: the numbers of the operands that lead to an element, and what that does
pub record SitedGoal : Type 0 where
  pub site : List ℕ
  pub element : Element
  pub way : GoalWay

-- the goals of an element itself
abbrev pub own_goal : Element → GoalWay → SitedGoal
own_goal e way = record { site = []; element = e; way = way }

abbrev pub own_goals : Element → List SitedGoal
own_goals e = map (own_goal e) (ways_of e)

-- a goal within the operand of that number
abbrev pub under : ℕ → SitedGoal → SitedGoal
under i g = record { site = i ∷ g.site; element = g.element; way = g.way }

-- the goals within an element: its own, then those of its operands in order
abbrev mutual
  pub goals_in : Element → List SitedGoal
  goals_in (Text folds t) = own_goals (Text folds t)
  goals_in (Values vs) = own_goals (Values vs)
  goals_in (Range low high) = own_goals (Range low high)
  goals_in (Concat es) = goals_from 0 es
  goals_in (Alt es) = own_goals (Alt es) ++ goals_from 0 es
  goals_in (Rep least most e) = own_goals (Rep least most e) ++ map (under 0) (goals_in e)
  goals_in (Opt e) = own_goals (Opt e) ++ map (under 0) (goals_in e)
  goals_in (Name name) = []
  goals_in (Prose text) = []

  -- .. of operands, of which the first has that number
  pub goals_from : ℕ → Elements → List SitedGoal
  goals_from i none = []
  goals_from i (more e es) = map (under i) (goals_in e) ++ goals_from (suc i) es

-- as a goal of the rule with that id
abbrev pub goal_of : ℕ → SitedGoal → Goal
goal_of rule g = record { rule = rule; site = g.site; way = g.way }

-- the code's goal is that one, of the rule with that id
pub record IsGoalOf (rule : ℕ) (g : SitedGoal) (m : CoverGoal) : Type 0 where
  pub rule_is : m.rule ≡ rule
  pub element_is : element_of m.elem.now ≡ g.element
  pub way_is : m.way ≡ g.way

-- each goal of a list is a hit, or a miss that stands in the other list, in order
module _ (rule : ℕ) (Hit Miss : SitedGoal → Type 0) where
  pub data AreSifted : List SitedGoal → List CoverGoal → Type 0 where
    no_goal : AreSifted [] []
    one_hit : {g : SitedGoal} {gs : List SitedGoal} {ms : List CoverGoal} → Hit g → AreSifted gs ms
        → AreSifted (g ∷ gs) ms
    one_miss : {g : SitedGoal} {gs : List SitedGoal} {m : CoverGoal} {ms : List CoverGoal} → Miss g
        → IsGoalOf rule g m → AreSifted gs ms → AreSifted (g ∷ gs) (m ∷ ms)

module _ (b : LineBounds) (rules : List Rule) (judged : ℕ) where
  -- a line reaches the goal
  abbrev pub HasLine : ℕ → SitedGoal → Type 0
  HasLine id g = (w : List ℕ) × Reaches b rules judged (goal_of id g) w

  -- no line does
  abbrev pub HasNoLine : ℕ → SitedGoal → Type 0
  HasNoLine id g = (w : List ℕ) → Reaches b rules judged (goal_of id g) w → ⊥

  -- of the goals of these rules, of which the first has that id, those that no line reaches; a rule that names do not
  -- lead to has none
  pub data AreMissedFrom : ℕ → List Rule → List CoverGoal → Type 0 where
    no_rule : {id : ℕ} → AreMissedFrom id [] []
    unnamed_rule : {id : ℕ} {rule : Rule} {rest : List Rule} {ms : List CoverGoal} → (Reachable rules judged id → ⊥)
        → AreMissedFrom (suc id) rest ms → AreMissedFrom id (rule ∷ rest) ms
    named_rule : {id : ℕ} {rule : Rule} {rest : List Rule} {own ms : List CoverGoal} → Reachable rules judged id
        → AreSifted id (HasLine id) (HasNoLine id) (goals_in rule.body) own → AreMissedFrom (suc id) rest ms
        → AreMissedFrom id (rule ∷ rest) (own ++ ms)

  -- The goals of the rules that no line reaches, in the order of rules and of sites, each once.
  abbrev pub AreMissed : List CoverGoal → Type 0
  AreMissed missed = AreMissedFrom 0 rules missed
