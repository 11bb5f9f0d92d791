-- A mention that the code found. It serves private helpers alone.
use Rattle.diagnostics.specs.BodyMentions.{mentioned_at}
use Rattle.diagnostics.specs.DefinitionHeads.{defined_at}
use Rattle.diagnostics.specs.FirstMentions.{RuleMention}
use Rattle.diagnostics.specs.declared.noteplaces.uses.MentionInRule.{MentionInRule}

-- what the code's find stands for
abbrev pub mention_found : MentionInRule → RuleMention
mention_found f = record { rule = defined_at f.rule.now; mention = mentioned_at f.mention.now }
