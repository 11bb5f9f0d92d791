use Rattle.std.proofs.Common.{◌≡◌, ◌≤◌, ◌∙◌, sym, [], length, rules, arith}
use Rattle.std.proofs.lemmas.List.{nil_from_length}
use Rattle.lexer.specs.declared.limits.TheConstants.{MAX_GRAMMAR}
use Rattle.pegprint.specs.Canon.{grammar_text}
use Rattle.pegread.specs.PegViews.{rules_of}
use Rattle.pegread.proofs.IsTableOfLemmas.{none-again}
use Rattle.uses.proofs.AreBytesLemmas.{are-bytes}
use Rattle.uses.proofs.print_caller.canonical_text.Goals as goal

pub returns-clause-same : goal.returns-clause-same
returns-clause-same c =
    let found = c.in_ok-peg.ensures.found in
    let unique : c.in_ok-peg.peg.redefined.items ≡ [] = nil_from_length c.in_ok-peg.peg.redefined.items
    (search rules) in
    let text : c.into_inner-out.result.items ≡ grammar_text (rules_of c.in_ok-peg.peg.rules) = search rules in
    let within : length c.into_inner-out.result.items ≤ MAX_GRAMMAR = search rules in
    let bytes = are-bytes c.args.text.now (λ i. omega (arith, c.type_inv.text i)) in
    let back = c.in-Ok.ensures.read_back c.args.text.now
    (record { bytes = bytes; definitions = found.0; reads = found.1; kept = found.2; unique = unique })
    (rw (text) at within) in
    let kept = found.2.kept ∙ none-again [] found.0 (sym found.2.again ∙ unique) in
    (found.0, found.1, rw (← text, kept) at back)

pub returns-in-Err-clause-fault : goal.returns-in-Err-clause-fault
returns-in-Err-clause-fault c =
    let found = c.in_ok-peg.ensures.found in
    let reads = found.1 in
    reads.within
