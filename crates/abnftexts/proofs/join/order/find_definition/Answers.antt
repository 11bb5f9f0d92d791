use Rattle.std.proofs.Common.{map}
use Rattle.abnftexts.specs.GivenRules.{text_rule}
use Rattle.abnftexts.specs.JoinedRules.{first_definition}
use Rattle.abnftexts.specs.ListedRules.{is_listed_for}
use Rattle.abnftexts.specs.declared.join.by_name.Listed.TheVariants.{Definitions}
use Rattle.abnftexts.proofs.ListNamesLemmas.{first-listed, found-first}
use Rattle.abnftexts.proofs.join.order.find_definition.Goals as goal

pub returns : goal.returns
returns c =
    let rule = text_rule c.args.rule.now in
    found-first c.args.names.now _ rule.name _ (first_definition rule (map text_rule c.args.rules.now))
    c.first_number.result c.deref.ensures.value
    (first-listed (is_listed_for Definitions) c.args.rules.now rule.name _ (c.requires.1 rule.name))
    c.first_number.ensures
