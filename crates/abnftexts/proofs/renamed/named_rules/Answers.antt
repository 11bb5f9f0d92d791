use Rattle.std.proofs.Common.{◌≡◌, ◌<◌, ◌+◌, ◌∷◌, [], ◌∙◌, List, ap, arith, drop, length, map, subst, sym}
use Rattle.std.proofs.lemmas.Bool.{ltb-true}
use Rattle.std.proofs.lemmas.List.{at_drop_all}
use Rattle.abnftexts.specs.GivenRules.{text_rule}
use Rattle.abnftexts.specs.NamedRules.{AreRulesNamed, no_more_positions, no_more_rules, one_rule}
use Rattle.abnftexts.specs.RulesGathered.{lines_placed}
use Rattle.abnftexts.specs.declared.gathered.RulePosition.{RulePosition}
use Rattle.abnftexts.specs.declared.join.given.GivenRule.{GivenRule}
use Rattle.abnftexts.proofs.NamedRulesLemmas.{no-items, pair-more, pairs-done}
use Rattle.abnftexts.proofs.RulesTakenLemmas.{one-after}
use Rattle.abnftexts.proofs.renamed.named_rules.Goals as goal
use Rattle.abnftexts.proofs.renamed.named_rules.Goals.{in-None, in-Some+in_default}

pub loop-rule-preserved : goal.loop-rule-preserved
loop-rule-preserved c =
    let positions = c.args.positions.now in
    let n = c.loop-rule.number in
    let position = c.in-Some-get.position.now in
    let at = c.in-Some-get.ensures.lookup in
    let low : n < length positions = ltb-true n (length positions) (sym at.0) in
    let front : drop n positions ≡ position ∷ drop (n + 1) positions =
    one-after positions n position low ∙ ap (λ (p : RulePosition). p ∷ drop (n + 1) positions) (sym at.1) in
    record {
      within = omega (arith, low);
      so_far = pair-more lines_placed text_rule text_rule AreRulesNamed
          (AreRulesNamed (map lines_placed positions) (map text_rule c.args.rules.items)) (drop n positions)
          (drop (n + 1) positions) position c.loop-rule.rule-iterator.rest.items c.next.new.self.rest.items
          c.in-Some.rule
          c.loop-rule.named.items c.push.new.self.items c.in_ok-it.it front (let e = c.in-Some.ensures.steps in e.0)
          c.in_ok-push.ensures.items (λ zs h. one_rule c.in_ok-it.ensures h) c.loop-rule.invariant.so_far;
    }

pub returns : goal.returns
returns c =
    let positions = c.args.positions.now in
    let rest = c.loop-rule.rule-iterator.rest.items in
    pairs-done lines_placed text_rule text_rule AreRulesNamed
    (AreRulesNamed (map lines_placed positions) (map text_rule c.args.rules.items))
    (map lines_placed (drop c.loop-rule.number positions)) (map text_rule rest) c.loop-rule.named.items
    (elim c.match-next.branch [
      | in-None w ↦ (let e = w.in-None.ensures.steps in
          subst (λ (xs : List GivenRule). AreRulesNamed (map lines_placed (drop c.loop-rule.number positions))
          (map text_rule xs) []) (sym (no-items rest
          (omega (arith, e.0, c.loop-rule.rule-iterator.rest.ok)))) no_more_rules)
      | in-Some+in_default w ↦ (let e = w.in_default.ensures.lookup in
          subst (λ (xs : List RulePosition). AreRulesNamed (map lines_placed xs) (map text_rule rest) [])
          (sym (at_drop_all (λ xs. xs) positions c.loop-rule.number (grind (arith, e.0)))) no_more_positions)
    ]) c.loop-rule.invariant.so_far
