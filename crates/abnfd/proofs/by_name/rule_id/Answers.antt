-- The position of the name, or the number of rules.
use Rattle.std.proofs.Common.{◌∙◌}
use Rattle.abnfcheck.proofs.RuleIdLemmas.{id_found}
use Rattle.abnfd.proofs.by_name.rule_id.Goals as goal

pub returns : goal.returns
returns c = c.unwrap_or.ensures ∙ id_found _ _ _ _ c.requires c.in_ok-found.ensures.found c.len.ensures.len
