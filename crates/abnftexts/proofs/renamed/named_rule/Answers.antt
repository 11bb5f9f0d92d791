use Rattle.std.proofs.Common.{◌≡◌, ◌≢◌, length, arith}
use Rattle.std.proofs.lemmas.Bool.Decides.{nat_tests}
use Rattle.abnftexts.specs.NamedRules.{read_again, same_rule}
use Rattle.abnftexts.proofs.NamedRulesLemmas.{no-items, rule-of, some-text}
use Rattle.abnftexts.proofs.renamed.named_rule.Goals as goal

pub returns-then-is_empty : goal.returns-then-is_empty
returns-then-is_empty c =
    let none : length c.args.position.now.comments.items ≡ 0 = grind (arith, nat_tests) in
    same_rule (no-items c.args.position.now.comments.items none)

pub returns-in-Some : goal.returns-in-Some
returns-in-Some c =
    let some : length c.args.position.now.comments.items ≢ 0 = grind (arith, nat_tests) in
    read_again (some-text c.args.position.now.comments.items some)
    (rule-of c.deref.result.now c.in_ok-given.field-0 c.deref.ensures.value c.in_ok-given.ensures c.in-Some.given
    c.in-Some.is)
