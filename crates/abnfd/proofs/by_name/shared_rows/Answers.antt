-- The lines of the names so far, and the next one.
use Rattle.std.proofs.Common.{◌≡◌, ◌++◌, List, [], ℕ, arith, rules, subst, sym}
use Rattle.std.proofs.lemmas.List.{length-map, take_all}
use Rattle.abnfd.specs.RulesByName.{HasRows, is_named, named_in}
use Rattle.abnfd.proofs.RulesByNameLemmas.{more_rows, next_passes, no_rows}
use Rattle.ruletable.specs.Rules.{names_of}
use Rattle.abnfd.proofs.by_name.shared_rows.Goals as goal

pub loop-id-init : goal.loop-id-init
loop-id-init c = λ old new are. let none : c.new-text.result.items ≡ [] = search rules in rw none (no_rows _ _ _)

pub loop-id-preserved : goal.loop-id-preserved
loop-id-preserved c = λ old new are.
    let both = c.args.both.now in
    let names = names_of both.old.names in
    let next = c.in_ok-status.ensures in
    rw (next.2) (subst (λ (ns : List (List ℕ)). HasRows c.args.settings.now.letters old new ns
    (c.loop-id.text.items ++ next.0) c.greater_status-most.result)
    (sym (next_passes (is_named (names_of both.new.names)) names c.loop-id.id c.name.result.now c.name.ensures))
    (more_rows _ _ _ _ _ _ _ _ _ _ (c.loop-id.invariant old new are) (next.1 old new are)
    c.greater_status-most.ensures))

pub returns : goal.returns
returns c = λ old new are.
    let both = c.args.both.now in
    let names = names_of both.old.names in
    let past = c.loop-id-test.false in
    let size = length-map both.old.names.rules (λ rule. rule.name) in
    let len = c.len-id-end.ensures.len in
    subst (λ (ns : List (List ℕ)). HasRows c.args.settings.now.letters old new (named_in (names_of both.new.names) ns)
    c.loop-id.text.items c.loop-id.most)
    (take_all c.loop-id.id names (omega (arith, past, size, len))) (c.loop-id.invariant old new are)
