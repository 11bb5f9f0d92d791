-- The line after a note on a rule that repeats what may take nothing.
use Rattle.std.specs.Prelude.{◌≡◌, ℕ, ◌<◌, List, [], ◌∷◌, ◌++◌, slice_get, Option, Some, None, MatchOption, codes}
use Rattle.std.specs.Prelude.{decimal}
use Rattle.diagnostics.specs.ShownBytes.{cut}
use Rattle.pegprint.specs.Canon.{text_of}
use Rattle.pegread.specs.Pattern.{Pattern, Patterns, Any, Bytes, Set, Name, Seq, Choice, Star, Plus, Opt, And, Not, Act}
use Rattle.pegread.specs.Pattern.{Open, Close, none, more, Rule}
use Rattle.gramcheck.specs.Left.{Nullable}

-- the repetitions in an expression, in the order of their marks: those in what is repeated stand before the one of it
abbrev mutual
  pub repeats_in : Pattern → List Pattern
  repeats_in Any = []
  repeats_in (Bytes bytes) = []
  repeats_in (Set test) = []
  repeats_in (Name name) = []
  repeats_in (Seq es) = repeats_in_all es
  repeats_in (Choice es) = repeats_in_all es
  repeats_in (Star e) = repeats_in e ++ Star e ∷ []
  repeats_in (Plus e) = repeats_in e ++ Plus e ∷ []
  repeats_in (Opt e) = repeats_in e
  repeats_in (And e) = repeats_in e
  repeats_in (Not e) = repeats_in e
  repeats_in (Act template) = []
  repeats_in Open = []
  repeats_in Close = []

  pub repeats_in_all : Patterns → List Pattern
  repeats_in_all none = []
  repeats_in_all (more e es) = repeats_in e ++ repeats_in_all es

-- a repetition, and its position among those of a body
pub record RepeatAt : Type 0 where
  pub position : ℕ
  pub repeat : Pattern

-- the line of a repetition, if its mark stands on one
abbrev pub repeat_line : Option ℕ → Pattern → List ℕ
repeat_line None e = []
repeat_line (Some line) e = codes "  line " ++ (decimal line ++ (codes ": " ++ (cut (text_of e)
    ++ codes " repeats what may take nothing\n")))

-- the line of one whose mark has that position among the marks on these lines
abbrev pub repeat_reported : List ℕ → Option RepeatAt → List ℕ
repeat_reported lines None = []
repeat_reported lines (Some r) = repeat_line (slice_get lines r.position) r.repeat

module _ (rules : List Rule) where
  -- it repeats what may take nothing
  pub data RepeatsNothing : Pattern → Type 0 where
    starred : {e : Pattern} → Nullable rules e → RepeatsNothing (Star e)
    repeated : {e : Pattern} → Nullable rules e → RepeatsNothing (Plus e)

  -- of some repetitions the first one that does
  pub record IsFirstLoop (repeats : List Pattern) (r : RepeatAt) : Type 0 where
    pub there : slice_get repeats r.position ≡ Some r.repeat
    pub loops : RepeatsNothing r.repeat
    pub first : (k : ℕ) (d : Pattern) → k < r.position → slice_get repeats k ≡ Some d → RepeatsNothing d → ⊥

  -- the first one, or none exactly if none does
  abbrev pub IsLoopOf : List Pattern → Option RepeatAt → Type 0
  IsLoopOf repeats found = MatchOption found ((k : ℕ) (d : Pattern) → slice_get repeats k ≡ Some d → RepeatsNothing d
      → ⊥) (IsFirstLoop repeats)

  -- the line for a rule's body, the marks of whose repetitions stand on these lines
  pub record IsLoopLine (lines : List ℕ) (body : Pattern) (line : List ℕ) : Type 0 where
    pub found : Option RepeatAt
    pub is_first : IsLoopOf (repeats_in body) found
    pub is : line ≡ repeat_reported lines found

  -- and for a rule, if it has a body
  abbrev pub IsLoopLineIf : List ℕ → Option Pattern → List ℕ → Type 0
  IsLoopLineIf lines None line = line ≡ []
  IsLoopLineIf lines (Some body) line = IsLoopLine lines body line
