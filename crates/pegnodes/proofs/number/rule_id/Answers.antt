use Rattle.std.proofs.Common.{◌∙◌}
use Rattle.pegnodes.proofs.OwnIdLemmas.{id_found}
use Rattle.pegnodes.proofs.number.rule_id.Goals as goal

pub returns : goal.returns
returns c = c.unwrap_or.ensures ∙ id_found _ _ _ _ c.requires c.in_ok-found.ensures.found c.len.ensures.len
