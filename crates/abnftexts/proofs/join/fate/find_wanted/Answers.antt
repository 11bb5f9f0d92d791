use Rattle.std.proofs.Common.{map}
use Rattle.abnftexts.specs.GivenRules.{first_wanted, text_rule}
use Rattle.abnftexts.proofs.ListNamesLemmas.{found-first, none_wanted, wanted-listed}
use Rattle.abnftexts.proofs.join.fate.find_wanted.Goals as goal

pub returns-then-not-rule : goal.returns-then-not-rule
returns-then-not-rule c = none_wanted c.args.rules.now (text_rule c.args.rule.now) c.if-not-rule.true

pub returns : goal.returns
returns c =
    let rule = text_rule c.args.rule.now in
    found-first c.args.names.now _ rule.name _ (first_wanted rule (map text_rule c.args.rules.now))
    c.first_number.result c.deref.ensures.value
    (wanted-listed c.args.rules.now rule _ c.if-not-rule.false (c.requires.1 rule.name)) c.first_number.ensures
