-- The names so far, and the next one.
use Rattle.std.proofs.Common.{◌∙◌, ◌++◌, List, ℕ, ap, append-nil, arith, sym}
use Rattle.std.proofs.lemmas.List.{length-map, take_all}
use Rattle.std.specs.Prelude.{not}
use Rattle.abnfd.specs.RulesByName.{is_named, missing_in, names_text}
use Rattle.abnfd.proofs.RulesByNameLemmas.{text_more}
use Rattle.ruletable.specs.Rules.{names_of}
use Rattle.abnfd.proofs.by_name.push_missing.Goals as goal

pub loop-id-init : goal.loop-id-init
loop-id-init c = sym (append-nil _)

pub loop-id-preserved : goal.loop-id-preserved
loop-id-preserved c = text_more c.args.mark.now (λ name. not (is_named (names_of c.args.others.now) name))
    (names_of c.args.names.now) c.loop-id.id c.name.result.now _ _ _ c.name.ensures c.loop-id.invariant
    c.in_ok-push_if_missing.ensures

pub returns : goal.returns
returns c =
    let names = names_of c.args.names.now in
    let past = c.loop-id-test.false in
    let size = length-map c.args.names.now.rules (λ rule. rule.name) in
    let len = c.len-id-end.ensures.len in
    c.loop-id.invariant ∙ ap (λ (ns : List (List ℕ)). c.args.out.now.items ++ names_text c.args.mark.now
    (missing_in (names_of c.args.others.now) ns)) (take_all c.loop-id.id names (omega (arith, past, size, len)))
