-- Of which names that no rule has the rule is reported that is perhaps meant.
use Rattle.std.specs.Prelude.{◌||◌, ℕ, Bool, List, ◌++◌, Option, length, map, position}
use Rattle.std.specs.List.{filter}
use Rattle.diagnostics.specs.BodyMentions.{MentionedAt, is_kind}
use Rattle.diagnostics.specs.NearNames.{is_before_limit}
use Rattle.diagnostics.specs.UseLines.{is_given}
use Rattle.diagnostics.specs.declared.noteplaces.mentions.MentionKind.TheVariants.{Use}
use Rattle.fixpoint.specs.FirstUses.{news}
use Rattle.ruletable.specs.Rules.{same_name}
use Rattle.ruletable.specs.declared.table.NameCase.TheVariants.{Exact}

-- the names that are mentioned, in order
abbrev pub used_names : List MentionedAt → List (List ℕ)
used_names mentions = map (λ m. m.text) (filter (λ m. is_kind Use m.kind) mentions)

-- the names of rules, and after them those that are used and no rule has, each once
abbrev pub all_names : List (List ℕ) → List (List ℕ) → List (List ℕ)
all_names rules used = rules ++ news Exact rules used

-- whether a name is the one that is given for the start rule, or among the first 16 that are used and no rule has
abbrev pub is_early_name : Option (List ℕ) → List (List ℕ) → List (List ℕ) → List ℕ → Bool
is_early_name start rules used name = is_given Exact start name
    || is_before_limit (length rules) (position (same_name Exact name) (all_names rules used))
