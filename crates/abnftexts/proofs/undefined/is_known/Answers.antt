use Rattle.std.proofs.Common.{◌∙◌}
use Rattle.abnftexts.proofs.UndefinedLemmas.{core-any, known-core}
use Rattle.abnftexts.proofs.undefined.is_known.Goals as goal

pub returns-else-not-is_empty : goal.returns-else-not-is_empty
returns-else-not-is_empty c = known-core c.args.names.now c.args.name.now c.in_ok-numbers.numbers.now
    c.is_empty.result c.is_some.result c.in_ok-numbers.ensures c.is_empty.ensures c.if-not-is_empty.false
    (c.is_some.ensures
    ∙ core-any c.args.name.now c.args.core.now c.in_ok-found.found c.requires c.in_ok-found.ensures.found)
