use Rattle.std.proofs.Common.{◌≡◌, ◌≤◌, length, rules}
use Rattle.lexer.specs.declared.limits.TheConstants.{MAX_GRAMMAR}
use Rattle.abnfprint.specs.CanonicalAbnf.{grammar_text}
use Rattle.abnfread.specs.AbnfViews.{rules_of}
use Rattle.uses.proofs.abnf_print_caller.canonical_abnf.Goals as goal

pub returns-clause-same : goal.returns-clause-same
returns-clause-same c =
    let found = c.in_ok-abnf.ensures.found in
    let text : c.into_inner-out.result.items ≡ grammar_text (rules_of c.in_ok-abnf.abnf.rules) = search rules in
    let within : length c.into_inner-out.result.items ≤ MAX_GRAMMAR = search rules in
    let back = c.in-Ok.ensures.read_back c.args.text.now
    (record { definitions = found.0; reads = found.1; kept = found.2 }) (rw (text) at within) in
    (found.0, found.1, rw (← text, found.2.kept) at back)

pub returns-in-Err-clause-fault : goal.returns-in-Err-clause-fault
returns-in-Err-clause-fault c =
    let found = c.in_ok-abnf.ensures.found in
    let reads = found.1 in
    reads.size
