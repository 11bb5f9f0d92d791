-- A name has the position at which the table finds it.
use Rattle.std.proofs.Common.{◌∙◌, None, sym, arith}
use Rattle.ruletable.specs.Rules.{names_of}
use Rattle.abnfcheck.proofs.NameChainLemmas.{chain_by_rows, chain_of_none, found_folded, judged_below, named_ends}
use Rattle.abnfcheck.proofs.reached_names.NameChains.chain_ends.Goals as goal

pub returns-in_default : goal.returns-in_default
returns-in_default c = λ rules given are.
    let names = c.args.self.now.names in
    let position = sym (found_folded names c.args.name.now are.folds)
    ∙ (sym c.in_ok-id.ensures.found ∙ c.in_default.is) in
    chain_by_rows rules given c.args.name.now (names_of names) are.rows are.judged None are.graph
    (chain_of_none rules (names_of names) are.judged _ position)

pub returns-in_default-chains : goal.returns-in_default-chains
returns-in_default-chains c = λ rules given are.
    let names = c.args.self.now.names in
    let position = sym (found_folded names c.args.name.now are.folds) ∙ (sym c.in_ok-id.ensures.found ∙ c.in-Some.is) in
    let lt = judged_below rules given (names_of names) are.rows are.judged c.in-Some.id c.args.name.now are.graph
    position in
    let le = rw c.in_default-chains.is at are.chains in
    absurd (omega (arith, lt, le))

pub returns : goal.returns
returns c = λ rules given are.
    let names = c.args.self.now.names in
    let position = sym (found_folded names c.args.name.now are.folds) ∙ (sym c.in_ok-id.ensures.found ∙ c.in-Some.is) in
    let reached = c.in_ok-ends_to.ensures are.rows (rw (← are.is_judged, c.in-Some-chains.is) at are.chains) in
    named_ends rules given c.args.name.now (names_of names) are.rows are.judged c.in-Some.id c.args.last
    c.in_ok-ends_to.field-0 are.graph position (rw are.is_judged at reached)
