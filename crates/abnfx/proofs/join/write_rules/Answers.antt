use Rattle.std.proofs.Common.{◌≡◌, ◌≢◌, length, arith}
use Rattle.std.proofs.lemmas.Bool.Decides.{nat_tests}
use Rattle.abnftexts.specs.JoinRun.{grammar_form}
use Rattle.abnftexts.specs.JoinedViews.{grammar_joined}
use Rattle.abnftexts.proofs.NamedRulesLemmas.{some-text}
use Rattle.abnfx.proofs.JoinRunLemmas.{grammar-no_list, nothing-written}
use Rattle.abnfx.proofs.join.write_rules.Goals as goal

pub returns-then-is_empty : goal.returns-then-is_empty
returns-then-is_empty g c =
    let none : length c.args.joined.now.grammar.items ≡ 0 = grind (arith, nat_tests) in
    let form = grammar_form c.args.is_canonical in
    c.write_text.ensures form (nothing-written form (grammar_joined c.args.joined.now) c.deref.result.now
    (grammar-no_list c.args.is_canonical) c.deref.ensures.value none)

pub write_grammar-requires-clause-some : goal.write_grammar-requires-clause-some
write_grammar-requires-clause-some g c =
    let some : length c.args.joined.now.grammar.items ≢ 0 = grind (arith, nat_tests) in
    some-text c.args.joined.now.grammar.items some
