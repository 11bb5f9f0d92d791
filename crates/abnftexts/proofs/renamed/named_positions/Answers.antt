use Rattle.std.proofs.Common.{[], List, arith, map, subst, sym}
use Rattle.abnftexts.specs.CodeUses.{is_defined}
use Rattle.abnftexts.specs.GivenRules.{text_rule}
use Rattle.abnftexts.specs.NamedRules.{ArePositionsNamed, one_position, positions_end, rules_end}
use Rattle.abnftexts.specs.RulesGathered.{lines_placed}
use Rattle.abnftexts.specs.declared.gathered.RulePosition.{RulePosition}
use Rattle.abnftexts.specs.declared.join.given.GivenRule.{GivenRule}
use Rattle.abnftexts.proofs.NamedRulesLemmas.{no-items, pair-more, pairs-done}
use Rattle.abnftexts.proofs.renamed.named_positions.Goals as goal
use Rattle.abnftexts.proofs.renamed.named_positions.Goals.{in-None, in-Some+in_default}

pub loop-position-preserved : goal.loop-position-preserved
loop-position-preserved c =
    let known = is_defined c.args.names.now in
    pair-more text_rule lines_placed lines_placed (ArePositionsNamed known)
    (ArePositionsNamed known (map text_rule c.args.rules.now) (map lines_placed c.args.positions.items))
    c.loop-position.left.now c.in-Some-split_first.after.now c.in-Some-split_first.rule.now
    c.loop-position.position-iterator.rest.items c.next.new.self.rest.items c.in-Some.position
    c.loop-position.named.items
    c.push.new.self.items c.in_ok-it.it (let s = c.in-Some-split_first.ensures.cases in s.0)
    (let e = c.in-Some.ensures.steps in e.0)
    c.in_ok-push.ensures.items (λ zs h. one_position c.in_ok-it.ensures h) c.loop-position.invariant

pub returns : goal.returns
returns c =
    let known = is_defined c.args.names.now in
    let left = c.loop-position.left.now in
    let rest = c.loop-position.position-iterator.rest.items in
    pairs-done text_rule lines_placed lines_placed (ArePositionsNamed known)
    (ArePositionsNamed known (map text_rule c.args.rules.now) (map lines_placed c.args.positions.items))
    (map text_rule left) (map lines_placed rest) c.loop-position.named.items
    (elim c.match-next.branch [
      | in-None w ↦ (let e = w.in-None.ensures.steps in
          subst (λ (xs : List RulePosition). ArePositionsNamed known (map text_rule left) (map lines_placed xs) [])
          (sym (no-items rest (omega (arith, e.0, c.loop-position.position-iterator.rest.ok))))
          positions_end)
      | in-Some+in_default w ↦ (let e = w.in_default.ensures.cases in
          subst (λ (xs : List GivenRule). ArePositionsNamed known (map text_rule xs) (map lines_placed rest) [])
          (sym (no-items left e))
          rules_end)
    ]) c.loop-position.invariant
