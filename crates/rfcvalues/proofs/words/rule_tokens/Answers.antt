use Rattle.std.proofs.Common.{◌≡◌, ◌∙◌}
use Rattle.rfcvalues.specs.RuleSketches.{to_its_end, to_its_fault, too_long, with_no_fault}
use Rattle.rfcvalues.proofs.words.rule_tokens.Goals as goal

pub returns-then-rule : goal.returns-then-rule
returns-then-rule c =
    let h = c.in_ok-tokens.ensures in
    rw h.2 (to_its_end c.if-rule.true h.1)

pub returns-then-rule-gt-MAX_GRAMMAR : goal.returns-then-rule-gt-MAX_GRAMMAR
returns-then-rule-gt-MAX_GRAMMAR c =
    rw c.new.ensures.items (too_long c.if-rule.false c.if-rule-gt-MAX_GRAMMAR.true)

pub returns-in_ok-tokens-in-Some : goal.returns-in_ok-tokens-in-Some
returns-in_ok-tokens-in-Some c =
    let h = c.in_ok-tokens-in-Some.ensures in
    let fault = rw c.in-Some.is at c.in_ok-token.ensures in
    rw (h.2, c.wrong_byte.ensures)
    (to_its_fault c.if-rule.false c.if-rule-gt-MAX_GRAMMAR.false fault h.1)

pub returns-in_ok-tokens-in-None : goal.returns-in_ok-tokens-in-None
returns-in_ok-tokens-in-None c =
    let h = c.in_ok-tokens-in-None.ensures in
    let none = rw c.in-None.is at c.in_ok-token.ensures in
    rw h.2 (with_no_fault c.if-rule.false c.if-rule-gt-MAX_GRAMMAR.false none h.1)
