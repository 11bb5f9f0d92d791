-- Which expressions may take nothing, as a test by marks of the rules. It serves private helpers alone.
use Rattle.std.specs.Prelude.{◌≡◌, ℕ, ◌<◌, ◌&&◌, ◌||◌, Bool, true, false, List, [], ◌∷◌, slice_get, slice_index_or}
use Rattle.std.specs.Prelude.{Option, Some, None, MatchOption}
use Rattle.ruletable.specs.Rules as table
use Rattle.ruletable.specs.Rules.{find_in}
use Rattle.pegread.specs.Pattern.{Pattern, Patterns, Any, Bytes, Set, Name, Seq, Choice, Star, Plus, Opt, And, Not, Act}
use Rattle.pegread.specs.Pattern.{Open, Close, none, more}
use Rattle.pegread.specs.declared.expr.Expr.{Expr}
use Rattle.pegexplain.specs.PegLoops.{RepeatAt}

-- the mark of the rule with an id, or none
abbrev pub mark_with : List Bool → Option ℕ → Bool
mark_with marks None = false
mark_with marks (Some id) = slice_index_or marks id false

-- the mark of the rule of a name
abbrev pub null_mark_of : table.Rules Expr → List Bool → List ℕ → Bool
null_mark_of rules marks name = mark_with marks (find_in rules name)

abbrev pub is_empty_list : List ℕ → Bool
is_empty_list [] = true
is_empty_list (b ∷ bs) = false

module _ (may_be : List ℕ → Bool) where
  abbrev mutual
    -- whether an expression may take nothing, where it is known of names
    pub nullable_by : Pattern → Bool
    nullable_by Any = false
    nullable_by (Bytes bytes) = is_empty_list bytes
    nullable_by (Set test) = false
    nullable_by (Name name) = may_be name
    nullable_by (Seq es) = all_nullable_by es
    nullable_by (Choice es) = some_nullable_by es
    nullable_by (Star e) = true
    nullable_by (Plus e) = nullable_by e
    nullable_by (Opt e) = true
    nullable_by (And e) = true
    nullable_by (Not e) = true
    nullable_by (Act template) = true
    nullable_by Open = true
    nullable_by Close = true

    pub all_nullable_by : Patterns → Bool
    all_nullable_by none = true
    all_nullable_by (more e es) = nullable_by e && all_nullable_by es

    pub some_nullable_by : Patterns → Bool
    some_nullable_by none = false
    some_nullable_by (more e es) = nullable_by e || some_nullable_by es

  -- whether it repeats what may
  abbrev pub loops_by : Pattern → Bool
  loops_by (Star e) = nullable_by e
  loops_by (Plus e) = nullable_by e
  loops_by _ = false

  -- of some repetitions the first one that does
  pub record IsFirstLoopBy (repeats : List Pattern) (r : RepeatAt) : Type 0 where
    pub there : slice_get repeats r.position ≡ Some r.repeat
    pub loops : loops_by r.repeat ≡ true
    pub first : (k : ℕ) (d : Pattern) → k < r.position → slice_get repeats k ≡ Some d → loops_by d ≡ false

  abbrev pub IsLoopBy : List Pattern → Option RepeatAt → Type 0
  IsLoopBy repeats found = MatchOption found ((k : ℕ) (d : Pattern) → slice_get repeats k ≡ Some d
      → loops_by d ≡ false) (IsFirstLoopBy repeats)
