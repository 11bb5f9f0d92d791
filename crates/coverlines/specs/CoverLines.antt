-- Lines that reach each goal.
use Rattle.std.specs.Prelude.{◌≡◌, ◌≢◌, ◌⊎◌, ℕ, ◌<◌, ◌≤◌, List, ◌++◌, map, length, Contains, Option, None, Some}
use Rattle.std.specs.List.{All, AllPairs}
use Rattle.std.proofs.Common.{Vec, Global}
use Rattle.abnfread.specs.Element.{Rule}
use Rattle.abnfcheck.specs.Derivable.{AreLetters, RuleDerives}
use Rattle.ruletable.specs.Letters.{has}
use Rattle.coverlines.specs.Goals.{Goal, Does}
use Rattle.coverlines.specs.MadeWords.{AreMade}
use Rattle.coverlines.specs.RuleContexts.{context_at, sites_at}
use Rattle.coverlines.specs.Shortest.{IsShortestOf, may}
use Rattle.coverlines.specs.Sites.{Stood}
use Rattle.coverlines.specs.declared.bounds.LineBounds.{LineBounds}
use Rattle.coverlines.specs.declared.context.LineContext.{LineContext}
use Rattle.coverlines.specs.declared.cover.CoverLine.{CoverLine}
use Rattle.coverlines.specs.declared.made.MadeWord.{MadeWord}
use Rattle.coverlines.specs.declared.sites.Site.{Site}

-- the symbols of each line
abbrev pub line_items : List CoverLine → List (List ℕ)
line_items lines = map (λ line. line.line.items) lines

-- a line is not longer than another one that comes before it
abbrev pub Falls : CoverLine → CoverLine → Type 0
Falls u v = length v.line.items ≤ length u.line.items

-- .. and differs from it
pub record ComesLater (u v : CoverLine) : Type 0 where
  pub shorter : length v.line.items ≤ length u.line.items
  pub other : u.line.items ≢ v.line.items

module _ (b : LineBounds) (rules : List Rule) (judged : ℕ) where
  -- the judged rule derives a line
  pub record IsLine (w : List ℕ) : Type 0 where
    pub symbols : AreLetters (may b) w
    pub within : length w ≤ b.limit
    pub derives : RuleDerives (has b.alphabet) rules judged w

  -- a derivation of a line does what the goal asks for
  pub record Reaches (g : Goal) (w : List ℕ) : Type 0 where
    pub line : IsLine w
    pub does : Does (has b.alphabet) (may b) rules judged g w

  -- of the lines that reach a goal of its rule in its way, it is a shortest one
  pub record IsRight (line : CoverLine) : Type 0 where
    pub site : List ℕ
    pub shortest : IsShortestOf (Reaches (record { rule = line.goal.rule; site = site; way = line.goal.way })) b.limit
        line.line.items

  -- one of the lines reaches a goal
  pub record IsReached (lines : List CoverLine) (g : Goal) : Type 0 where
    pub line : CoverLine
    pub among : Contains lines line
    pub reaches : Reaches g line.line.items

  -- Each line is a shortest one for some goal, and each goal that a derived line reaches is reached by one of them. No
  -- line comes twice, and longer ones come first.
  pub record IsCover (lines : List CoverLine) : Type 0 where
    pub right : All IsRight lines
    pub complete : (g : Goal) (w : List ℕ) → Reaches g w → IsReached lines g
    pub order : AllPairs ComesLater lines

-- a line: what stands round the rule, what stands round the element in it, and what the element derives
abbrev pub line_around : LineContext → Stood → List ℕ → List ℕ
line_around c s word = (c.before.items ++ s.before) ++ (word ++ (s.after ++ c.after.items))

-- there is a line of these symbols for a goal of the rule
pub record HasLineOf (rule : ℕ) (lines : List CoverLine) (w : List ℕ) : Type 0 where
  pub line : CoverLine
  pub among : Contains lines line
  pub rule_is : line.goal.rule ≡ rule
  pub is : line.line.items ≡ w

-- lines of a kind were added
pub record AddsSome (kind : CoverLine → Type 0) (old new : List CoverLine) : Type 0 where
  pub keeps : (line : CoverLine) → Contains old line → Contains new line
  pub right : (line : CoverLine) → Contains new line → Contains old line ⊎ kind line

-- a line was added, if it has at most `limit` symbols
pub record AddsFitting (limit : ℕ) (line : CoverLine) (old new : List CoverLine) : Type 0 where
  pub adds : AddsSome (λ l. (l ≡ line) × (length line.line.items ≤ limit)) old new
  pub there : length line.line.items ≤ limit → Contains new line

module _ (limit rule : ℕ) (c : LineContext) (s : Stood) where
  -- a line of the rule, by what an element makes
  pub record IsLineOf (made : MadeWord) (line : CoverLine) : Type 0 where
    pub rule_is : line.goal.rule ≡ rule
    pub way_is : line.goal.way ≡ made.way
    pub line_is : line.line.items ≡ line_around c s made.word.items
    pub within : length line.line.items ≤ limit

  -- a line of one of the lists that are made
  pub record IsLineOfOne (all : List MadeWord) (line : CoverLine) : Type 0 where
    pub made : MadeWord
    pub among : Contains all made
    pub is : IsLineOf made line

  -- each line that fits is there
  abbrev pub HasLinesOfAll : List MadeWord → List CoverLine → Type 0
  HasLinesOfAll all lines = (m : MadeWord) → Contains all m → length (line_around c s m.word.items) ≤ limit
      → HasLineOf rule lines (line_around c s m.word.items)

  -- the lines of these lists were added
  pub record AddsMadeLines (all : List MadeWord) (old new : List CoverLine) : Type 0 where
    pub adds : AddsSome (IsLineOfOne all) old new
    pub complete : HasLinesOfAll all new

module _ (b : LineBounds) (rules : List Rule) (rule : ℕ) (c : LineContext) where
  -- a line of what is made at some site
  pub record IsLineAt (sites : List Stood) (line : CoverLine) : Type 0 where
    pub stood : Stood
    pub all : List MadeWord
    pub at : Contains sites stood
    pub are : AreMade b rules stood.element all
    pub one : IsLineOfOne b.limit rule c stood all line

  -- of what is made at a site each line that fits is there
  pub record HasLinesOf (lines : List CoverLine) (s : Stood) : Type 0 where
    pub all : List MadeWord
    pub are : AreMade b rules s.element all
    pub each : HasLinesOfAll b.limit rule c s all lines

  -- the lines of these sites were added
  pub record AddsLines (sites : List Stood) (old new : List CoverLine) : Type 0 where
    pub adds : AddsSome (IsLineAt sites) old new
    pub complete : (s : Stood) → Contains sites s → HasLinesOf new s

-- .. if there is a context
abbrev pub MayAddLines : LineBounds → List Rule → ℕ → Option LineContext → List Stood → List CoverLine
    → List CoverLine → Type 0
MayAddLines b rules rule None sites old new = new ≡ old
MayAddLines b rules rule (Some c) sites old new = AddsLines b rules rule c sites old new

module _ (b : LineBounds) (rules : List Rule) (contexts : List (Option LineContext)) (sites : List (Vec Site Global))
  where
    -- a line at some site of a rule that has a context
    pub record IsGoalLine (line : CoverLine) : Type 0 where
      pub rule : ℕ
      pub context : LineContext
      pub known : context_at contexts rule ≡ Some context
      pub is : IsLineAt b rules rule context (sites_at sites rule) line

    -- the lines at the sites of the first so many rules
    pub record AreGoalLines (n : ℕ) (lines : List CoverLine) : Type 0 where
      pub right : (line : CoverLine) → Contains lines line → IsGoalLine line
      pub complete : (id : ℕ) (c : LineContext) (s : Stood) → id < n → context_at contexts id ≡ Some c
          → Contains (sites_at sites id) s → HasLinesOf b rules id c lines s
