-- Which mention a note is reported of.
use Rattle.std.specs.Prelude.{◌≡◌, ◌⊎◌, ℕ, ◌<◌, ◌≤◌, ◌==◌, ◌||◌, Bool, false, List, [], ◌∷◌, Option, Some, None}
use Rattle.std.specs.Prelude.{◌&&◌, if◌then◌else◌, slice_get, MatchOption}
use Rattle.std.specs.List.{filter, find, list_any}
use Rattle.ruletable.specs.Rules.{same_name}
use Rattle.ruletable.specs.declared.table.NameCase.{NameCase}
use Rattle.diagnostics.specs.BodyMentions.{MentionedAt, is_kind}
use Rattle.diagnostics.specs.DefinitionHeads.{DefinedAt}
use Rattle.diagnostics.specs.declared.noteplaces.mentions.MentionKind.TheVariants.{Use, Prose}

-- the rule of a definition: the first definition of its name
abbrev pub rule_named : NameCase → List DefinedAt → List ℕ → Option DefinedAt
rule_named names definitions name = find (λ d. same_name names name d.name) definitions

-- a definition stands in a rule that begins there if it begins it, or adds to it
abbrev pub stands_in : DefinedAt → Option DefinedAt → Option DefinedAt
stands_in d None = None
stands_in d (Some r) = if (r.start == d.start) || d.adds then Some r else None

-- the rule in which that definition stands
abbrev pub rule_standing : NameCase → List DefinedAt → Option DefinedAt → Option DefinedAt
rule_standing names definitions None = None
rule_standing names definitions (Some d) = stands_in d (rule_named names definitions d.name)

-- the rule in which the definition at a position stands
abbrev pub rule_standing_at : NameCase → List DefinedAt → ℕ → Option DefinedAt
rule_standing_at names definitions position = rule_standing names definitions
    (find (λ d. d.start == position) definitions)

-- a mention, and the rule in which it stands
pub record RuleMention : Type 0 where
  pub rule : DefinedAt
  pub mention : MentionedAt

-- None of the mentions stands in a rule.
abbrev pub NoneStands : NameCase → List DefinedAt → List MentionedAt → Type 0
NoneStands names definitions mentions = (k : ℕ) (m : MentionedAt) (r : DefinedAt) → slice_get mentions k ≡ Some m
    → rule_standing_at names definitions m.within ≡ Some r → ⊥

-- The mention at a position stands in a rule. No mention stands in a rule that comes before, and none of that rule
-- stands before it.
pub record IsFirstMention (names : NameCase) (definitions : List DefinedAt) (mentions : List MentionedAt)
    (found : RuleMention) : Type 0 where
  pub position : ℕ
  pub there : slice_get mentions position ≡ Some found.mention
  pub stands : rule_standing_at names definitions found.mention.within ≡ Some found.rule
  pub first : (k : ℕ) (m : MentionedAt) (r : DefinedAt) → slice_get mentions k ≡ Some m
      → rule_standing_at names definitions m.within ≡ Some r
      → (found.rule.start < r.start) ⊎ ((found.rule.start ≡ r.start) × (position ≤ k))

-- one that is the first, or none exactly if none stands in a rule
abbrev pub IsFirstIfAny : NameCase → List DefinedAt → List MentionedAt → Option RuleMention → Type 0
IsFirstIfAny names definitions mentions found =
    MatchOption found (NoneStands names definitions mentions) (IsFirstMention names definitions mentions)

-- the uses of a name
abbrev pub uses_of : NameCase → List ℕ → List MentionedAt → List MentionedAt
uses_of names name mentions = filter (λ m. is_kind Use m.kind && same_name names name m.text) mentions

-- of the definitions of a rule those that stand: the first one, and those after it that add to it
abbrev pub standing_definitions : List DefinedAt → List DefinedAt
standing_definitions [] = []
standing_definitions (d ∷ ds) = d ∷ filter (λ e. e.adds) ds

-- whether a definition adds to a rule or begins it
abbrev pub stands_by : DefinedAt → Option DefinedAt → Bool
stands_by rule None = false
stands_by rule (Some d) = d.adds || (d.start == rule.start)

-- whether the definition at a position does
abbrev pub is_standing : List DefinedAt → DefinedAt → ℕ → Bool
is_standing definitions rule position = stands_by rule (find (λ d. d.start == position) definitions)

-- the first prose in the bodies of definitions
abbrev pub first_prose : List DefinedAt → List MentionedAt → Option MentionedAt
first_prose definitions mentions =
    find (λ m. is_kind Prose m.kind && list_any (λ d. d.start == m.within) definitions) mentions
