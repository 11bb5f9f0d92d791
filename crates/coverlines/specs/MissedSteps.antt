-- Goals within an element that no line reaches, by how many symbols stand round the element.
use Rattle.std.specs.Prelude.{◌≡◌, ℕ, ◌+◌, ◌<◌, ◌≤◌, List, ◌++◌, length, Contains, Option, Some, None}
use Rattle.std.proofs.Common.{Vec, Global}
use Rattle.abnfread.specs.Element.{Element, Rule}
use Rattle.coverlines.specs.MadeWords.{MakesSo}
use Rattle.coverlines.specs.MissedGoals.{AreSifted, SitedGoal}
use Rattle.coverlines.specs.RuleContexts.{size_of}
use Rattle.coverlines.specs.Sites.{StandsAt, Stood, room_of}
use Rattle.coverlines.specs.declared.bounds.LineBounds.{LineBounds}
use Rattle.coverlines.specs.declared.context.LineContext.{LineContext}
use Rattle.coverlines.specs.declared.made.MadeWord.{MadeWord}
use Rattle.coverlines.specs.declared.way.CoverGoal.{CoverGoal}
use Rattle.coverlines.specs.declared.way.GoalWay.{GoalWay}

-- so many symbols stand round an operand: those round the whole and those of both lists
abbrev pub IsRoomInside : ℕ → Option ℕ → Option (Vec ℕ Global) → Option (Vec ℕ Global) → Option ℕ → Type 0
IsRoomInside limit None front back inner = inner ≡ None
IsRoomInside limit (Some n) None back inner = inner ≡ None
IsRoomInside limit (Some n) (Some f) None inner = inner ≡ None
IsRoomInside limit (Some n) (Some f) (Some k) None = limit < n + (length f.items + length k.items)
IsRoomInside limit (Some n) (Some f) (Some k) (Some m) = m ≡ n + (length f.items + length k.items)

-- one of the lists is made in that way, and has at most `limit` symbols with those round it
pub record HasMadeWithin (all : List MadeWord) (way : GoalWay) (limit room : ℕ) : Type 0 where
  pub made : MadeWord
  pub among : Contains all made
  pub same : made.way ≡ way
  pub within : room + length made.word.items ≤ limit

-- .. if it may stand in a line
abbrev pub HasMadeIn : List MadeWord → GoalWay → ℕ → Option ℕ → Type 0
HasMadeIn all way limit None = ⊥
HasMadeIn all way limit (Some room) = HasMadeWithin all way limit room

abbrev pub room_of_context : Option LineContext → Option ℕ
room_of_context None = None
room_of_context (Some c) = Some (size_of c)

module _ (b : LineBounds) (rules : List Rule) (e : Element) where
  -- an element within does what the goal asks for, in at most `limit` symbols with those round the whole
  pub record FitsAt (room : ℕ) (site : List ℕ) (way : GoalWay) : Type 0 where
    pub stood : Stood
    pub word : List ℕ
    pub stands : StandsAt b rules e site stood
    pub makes : MakesSo b rules stood.element way word
    pub within : room + (room_of stood + length word) ≤ b.limit

  -- .. if the whole may stand in a line
  abbrev pub MayFit : Option ℕ → SitedGoal → Type 0
  MayFit None g = ⊥
  MayFit (Some room) g = FitsAt room g.site g.way

-- those of some goals within an element were added that do not fit
pub record AddsGoals (b : LineBounds) (rules : List Rule) (rule : ℕ) (e : Element) (room : Option ℕ)
    (goals : List SitedGoal) (old new : List CoverGoal) : Type 0 where
  pub added : List CoverGoal
  pub sifted : AreSifted rule (MayFit b rules e room) (λ g. MayFit b rules e room g → ⊥) goals added
  pub is : new ≡ old ++ added
