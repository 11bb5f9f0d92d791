use Rattle.abnftexts.specs.GivenRules.{text_rule}
use Rattle.abnftexts.proofs.FatesLemmas.{fate-again, fate-stands}
use Rattle.abnftexts.proofs.join.fate.fate_at.Goals as goal

pub returns-then-same-number : goal.returns-then-same-number
returns-then-same-number c = fate-again c.args.rules.now (text_rule c.args.rule.now) c.args.number
    c.in_ok-wanted.wanted c.in_ok-same.same c.requires.number c.in_ok-wanted.ensures
    c.if-wanted-rules.false c.in_ok-same.ensures c.if-same-number.true

pub returns : goal.returns
returns c = fate-stands c.args.rules.now (text_rule c.args.rule.now) c.args.number c.in_ok-wanted.wanted
    c.in_ok-same.same c.requires.number c.in_ok-wanted.ensures c.if-wanted-rules.false
    c.in_ok-same.ensures c.if-same-number.false
