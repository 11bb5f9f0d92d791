use Rattle.std.proofs.Common.{◌∙◌, refl, sym}
use Rattle.abnftexts.specs.GivenRules.{text_rule}
use Rattle.abnftexts.proofs.NamedRulesLemmas.{letter-begins, named-outcome, no_rule-of, rule-of}
use Rattle.abnftexts.proofs.renamed.spells_named.Goals as goal

pub returns-in-Some-2 : goal.returns-in-Some-2
returns-in-Some-2 c = named-outcome (text_rule c.args.rule.now) (text_rule c.in-Some-2.given) c.args.text.now
    c.is_same.result (letter-begins c.args.text.now c.in-Some.b.now c.in-Some.ensures.value
    (sym c.is_ascii_alphabetic.ensures.value ∙ c.if-is_ascii_alphabetic.true))
    (rule-of c.args.text.now c.in_ok-given.field-0 refl c.in_ok-given.ensures c.in-Some-2.given c.in-Some-2.is)
    c.is_same.ensures

pub returns-in-None : goal.returns-in-None
returns-in-None c = λ s.
    let spells = s.spells in
    no_rule-of c.args.text.now c.in_ok-given.field-0 refl c.in_ok-given.ensures c.in-None.is spells.definition
    spells.reads
