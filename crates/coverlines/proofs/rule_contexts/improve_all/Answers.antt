-- One rule more.
use Rattle.std.proofs.Common.{◌+◌, ◌||◌, ◌∙◌, map, sym, ap, subst}
use Rattle.abnfread.specs.AbnfViews.{rules_of}
use Rattle.coverlines.specs.RuleContexts.{AreRulesPassed}
use Rattle.coverlines.specs.Sites.{stood_of}
use Rattle.coverlines.proofs.RuleContextsLemmas.{next_rule, sites_index, sites_of_rule}
use Rattle.coverlines.proofs.rule_contexts.improve_all.Goals.{then-improved, else-improved}
use Rattle.coverlines.proofs.rule_contexts.improve_all.Goals as goal

pub improve_named-requires-clause-count : goal.improve_named-requires-clause-count
improve_named-requires-clause-count c = c.loop-id.invariant.count ∙ c.requires.count

pub improve_named-requires-clause-sites : goal.improve_named-requires-clause-sites
improve_named-requires-clause-sites c = sites_of_rule c.args.bounds (rules_of c.args.rules.now) c.args.sites.now
    c.loop-id.id _ c.requires.sites c.loop-id-test.true
    (sites_index c.args.sites.now c.loop-id.id c.index-sites-id.result c.loop-id-test.true c.index-sites-id.is
    ∙ ap (map stood_of) (sym c.deref.ensures.value))

pub loop-id-preserved : goal.loop-id-preserved
loop-id-preserved c = record {
  count = c.improve_named.ensures.count ∙ c.loop-id.invariant.count;
  contexts = λ judged h. c.in_ok-step.ensures.contexts judged (c.loop-id.invariant.contexts judged h);
  passed = λ judged h.
      let both = next_rule c.args.bounds (rules_of c.args.rules.now) c.args.sites.now c.loop-id.id
      (map stood_of c.deref.result.now) c.args.known.now.items c.loop-id.known.items c.improve_named.new.known.items
      c.loop-id.improved c.in_ok-step.step
      (sites_index c.args.sites.now c.loop-id.id c.index-sites-id.result c.loop-id-test.true c.index-sites-id.is
      ∙ ap (map stood_of) (sym c.deref.ensures.value)) (c.loop-id.invariant.passed judged h)
      (c.in_ok-step.ensures.step judged (c.loop-id.invariant.contexts judged h)) in
      elim c.if-improved.branch [
        | then-improved w ↦ subst (λ flag. AreRulesPassed c.args.bounds (rules_of c.args.rules.now) c.args.sites.now
            (c.loop-id.id + 1) c.args.known.now.items c.improve_named.new.known.items flag)
            (ap (λ flag. flag || c.in_ok-step.step) w.if-improved.true ∙ sym w.if-improved.true
            ∙ sym w.improved-is) both
        | else-improved w ↦ subst (λ flag. AreRulesPassed c.args.bounds (rules_of c.args.rules.now) c.args.sites.now
            (c.loop-id.id + 1) c.args.known.now.items c.improve_named.new.known.items flag)
            (ap (λ flag. flag || c.in_ok-step.step) w.if-improved.false ∙ sym w.improved-is) both
      ];
}
