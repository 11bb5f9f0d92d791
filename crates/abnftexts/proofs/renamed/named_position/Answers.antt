use Rattle.std.proofs.Common.{◌≡◌, ◌≢◌, List, length, map, arith, subst, ℕ}
use Rattle.std.proofs.lemmas.Bool.Decides.{nat_tests}
use Rattle.abnfblocks.specs.TextLines.{numbered}
use Rattle.abnftexts.specs.CodeUses.{is_defined}
use Rattle.abnftexts.specs.NamedRules.{AreLinesNamed, is_named, stays}
use Rattle.abnftexts.proofs.NamedRulesLemmas.{no-items, no_outcome, yes_outcome, some-text}
use Rattle.abnftexts.proofs.renamed.named_position.Goals as goal

pub returns-then-is_empty : goal.returns-then-is_empty
returns-then-is_empty c =
    let none : length c.in_ok-lines.lines.comments.items ≡ 0 = grind (arith, nat_tests) in
    stays (subst (λ (own : List ℕ). AreLinesNamed (is_defined c.args.names.now) own c.args.position.margin
    (map numbered c.args.position.sources.items) (map numbered c.args.position.lines.items)
    c.in_ok-lines.lines.comments.items c.in_ok-lines.lines.text.items)
    c.deref.ensures.value c.in_ok-lines.ensures)
    (λ some spells. some (no-items c.in_ok-lines.lines.comments.items none))

pub returns-then-not-is_rule : goal.returns-then-not-is_rule
returns-then-not-is_rule c =
    stays (subst (λ (own : List ℕ). AreLinesNamed (is_defined c.args.names.now) own c.args.position.margin
    (map numbered c.args.position.sources.items) (map numbered c.args.position.lines.items)
    c.in_ok-lines.lines.comments.items c.in_ok-lines.lines.text.items)
    c.deref.ensures.value c.in_ok-lines.ensures)
    (λ some spells. no_outcome c.deref-2.result.now c.deref-2.ensures.value c.in_ok-is_rule.is_rule
    c.in_ok-is_rule.ensures c.if-not-is_rule.true spells)

pub returns : goal.returns
returns c =
    let some : length c.in_ok-lines.lines.comments.items ≢ 0 = grind (arith, nat_tests) in
    is_named (subst (λ (own : List ℕ). AreLinesNamed (is_defined c.args.names.now) own c.args.position.margin
    (map numbered c.args.position.sources.items) (map numbered c.args.position.lines.items)
    c.in_ok-lines.lines.comments.items c.in_ok-lines.lines.text.items)
    c.deref.ensures.value c.in_ok-lines.ensures) (some-text c.in_ok-lines.lines.comments.items some)
    (yes_outcome c.deref-2.result.now c.deref-2.ensures.value c.in_ok-is_rule.is_rule c.in_ok-is_rule.ensures
    c.if-not-is_rule.false)
