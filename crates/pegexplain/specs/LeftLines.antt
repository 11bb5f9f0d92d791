-- The lines after a note on a left-recursive rule.
use Rattle.std.specs.Prelude.{◌≡◌, ℕ, zero, suc, ◌&&◌, Bool, true, List, [], ◌∷◌, ◌++◌, length, map, slice_get}
use Rattle.std.specs.Prelude.{slice_index_or, if◌then◌else◌, Option, Some, None, bytes_eq, codes, decimal}
use Rattle.diagnostics.specs.ShownBytes.{cut}
use Rattle.diagnostics.specs.NoteLines.{more_reported}
use Rattle.pegprint.specs.CanonMembers.{members_text}
use Rattle.pegread.specs.Definitions.{id_in}
use Rattle.pegread.specs.Pattern.{Pattern, Rule}
use Rattle.pegread.specs.PegViews.{patterns}
use Rattle.fixpoint.specs.ShortChains.{IsRoundIfAny}
use Rattle.pegexplain.specs.LeftUses.{NameUse, left_row, skipped_in, uses_in}

-- a use of the name to which left steps lead
abbrev pub is_left_use : List ℕ → NameUse → Bool
is_left_use name u = u.is_left && bytes_eq u.name name

-- the members that a step skips
abbrev pub skipped_reported : List Pattern → List ℕ
skipped_reported [] = []
skipped_reported (e ∷ es) = codes " behind " ++ cut (members_text (patterns (e ∷ es)))

abbrev pub skipped_if : Option (List Pattern) → List ℕ
skipped_if None = []
skipped_if (Some es) = skipped_reported es

-- a step from one rule to another, by a use on a line
abbrev pub step_line : Option ℕ → List ℕ → List ℕ → List ℕ → List ℕ
step_line None from to after = []
step_line (Some line) from to after = codes "  line " ++ (decimal line ++ (codes ": '" ++ (cut from
    ++ (codes "' begins with '" ++ (cut to ++ (codes "'" ++ (after ++ codes "\n")))))))

-- of lines, one for each use, that of the first use that passes
abbrev pub line_of_first : (NameUse → Bool) → List NameUse → List ℕ → Option ℕ
line_of_first passes [] lines = None
line_of_first passes (u ∷ us) [] = None
line_of_first passes (u ∷ us) (line ∷ lines) = if passes u then Some line else line_of_first passes us lines

-- from each rule left steps lead to the rules of the names to which they do
abbrev pub left_steps : List Rule → (Pattern → Bool) → List (List ℕ)
left_steps rules null = map (λ rule. left_row (id_in rules) null rule.body) rules

-- where it is known which expressions may take nothing, and on which lines the names in a rule's first definition stand
module _ (null : Pattern → Bool) (lines : List ℕ → List ℕ) where
  -- the step goes to the first such use
  abbrev pub step_reported : Rule → Rule → List ℕ
  step_reported a b = step_line (line_of_first (is_left_use b.name) (uses_in null true a.body) (lines a.name))
      a.name b.name (skipped_if (skipped_in null b.name a.body))

  abbrev pub step_between : Option Rule → Option Rule → List ℕ
  step_between None b = []
  step_between (Some a) None = []
  step_between (Some a) (Some b) = step_reported a b

module _ (rules : List Rule) (null : Pattern → Bool) (lines : List ℕ → List ℕ) where
  -- the first ones of the steps from each rule of a chain to the next, and from the last to the first one of all, and
  -- how many more there are
  abbrev pub steps_reported : ℕ → ℕ → List ℕ → List ℕ
  steps_reported first budget [] = []
  steps_reported first zero (id ∷ ids) = more_reported (length (id ∷ ids))
  steps_reported first (suc budget) (id ∷ ids) =
      step_between null lines (slice_get rules id) (slice_get rules (slice_index_or ids 0 first))
      ++ steps_reported first budget ids

  abbrev pub way_reported : ℕ → Option (List ℕ) → List ℕ
  way_reported first None = []
  way_reported first (Some ids) = steps_reported first 8 ids

  -- the steps of the way from a rule back to itself
  pub record IsWayReported (id : ℕ) (reported : List ℕ) : Type 0 where
    pub chain : Option (List ℕ)
    pub is_round : IsRoundIfAny (left_steps rules null) id chain
    pub is : reported ≡ way_reported id chain
