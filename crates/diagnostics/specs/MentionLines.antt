-- On which lines the first definition of a name mentions what is of a kind.
use Rattle.std.specs.Prelude.{ℕ, ◌==◌, ◌&&◌, List, [], Option, Some, None, map}
use Rattle.std.specs.List.{filter}
use Rattle.ruletable.specs.declared.lines.LineRule.{LineRule}
use Rattle.ruletable.specs.declared.table.NameCase.{NameCase}
use Rattle.diagnostics.specs.BodyMentions.{MentionedAt, is_kind, mentioned_at, mentions_in}
use Rattle.diagnostics.specs.DefinitionHeads.{DefinedAt, SignAt, defined_at, definitions_in}
use Rattle.diagnostics.specs.FirstMentions.{rule_named}
use Rattle.diagnostics.specs.declared.noteplaces.mentions.MentionKind.{MentionKind}
use Rattle.diagnostics.specs.declared.noteplaces.positions.Positions.{Positions}

-- the mentions of a kind in the body of the definition at a position
abbrev pub mentions_within : MentionKind → ℕ → List MentionedAt → List MentionedAt
mentions_within kind position mentions = filter (λ m. is_kind kind m.kind && (m.within == position)) mentions

-- the lines of those in a rule's first definition, if there is one
abbrev pub mention_lines_of : MentionKind → Option DefinedAt → List MentionedAt → List ℕ
mention_lines_of kind None mentions = []
mention_lines_of kind (Some d) mentions = map (λ m. m.line) (mentions_within kind d.start mentions)

-- the lines of those in the first definition of a name, in the order of the tokens of a text
abbrev pub lines_mentioned : LineRule → NameCase → List ℕ → List SignAt → MentionKind → List ℕ → List ℕ
lines_mentioned rule names text signs kind name =
    mention_lines_of kind (rule_named names (definitions_in rule text signs) name) (mentions_in rule text None signs)

-- the lines that such positions report
abbrev pub mention_lines_by : Positions → MentionKind → List ℕ → List ℕ
mention_lines_by positions kind name =
    mention_lines_of kind (rule_named positions.names (map defined_at positions.heads.items) name)
    (map mentioned_at positions.mentions.items)
