-- One site more.
use Rattle.std.proofs.Common.{◌+◌, ◌||◌, ◌∙◌, List, map, sym, ap, subst, take}
use Rattle.abnfread.specs.AbnfViews.{rules_of}
use Rattle.coverlines.specs.RuleContexts.{AreSitesPassed}
use Rattle.coverlines.specs.Sites.{stood_of}
use Rattle.coverlines.specs.declared.sites.Site.{Site}
use Rattle.coverlines.proofs.MemberLemmas.{mapped_in, taken_past}
use Rattle.coverlines.proofs.RuleContextsLemmas.{next_site}
use Rattle.coverlines.proofs.rule_contexts.improve_named.Goals.{then-improved, else-improved}
use Rattle.coverlines.proofs.rule_contexts.improve_named.Goals as goal

pub improve_at-requires-clause-count : goal.improve_at-requires-clause-count
improve_at-requires-clause-count c = c.loop-site.invariant.count ∙ c.requires.count

pub improve_at-requires-clause-site : goal.improve_at-requires-clause-site
improve_at-requires-clause-site c = c.requires.sites _ (mapped_in stood_of c.site-item.result c.args.sites.now
    (c.loop-site.site-index, c.loop-site-test.true, sym c.site-item.is))

pub loop-site-preserved : goal.loop-site-preserved
loop-site-preserved c = record {
  count = c.improve_at.ensures.count ∙ c.loop-site.invariant.count;
  contexts = λ judged h. c.in_ok-step.ensures.contexts judged (c.loop-site.invariant.contexts judged h);
  passed = λ judged h.
      let both = next_site c.args.bounds (rules_of c.args.rules.now) c.args.id c.args.sites.now c.loop-site.site-index
      c.site-item.result c.args.known.now.items c.loop-site.known.items c.improve_at.new.known.items
      c.loop-site.improved c.in_ok-step.step c.loop-site-test.true c.site-item.is
      (c.loop-site.invariant.passed judged h)
      (c.in_ok-step.ensures.step judged (c.loop-site.invariant.contexts judged h)) in
      elim c.if-improved.branch [
        | then-improved w ↦ subst (λ flag. AreSitesPassed c.args.bounds (rules_of c.args.rules.now) c.args.id
            (map stood_of (take (c.loop-site.site-index + 1) c.args.sites.now)) c.args.known.now.items
            c.improve_at.new.known.items flag)
            (ap (λ flag. flag || c.in_ok-step.step) w.if-improved.true ∙ sym w.if-improved.true
            ∙ sym w.improved-is) both
        | else-improved w ↦ subst (λ flag. AreSitesPassed c.args.bounds (rules_of c.args.rules.now) c.args.id
            (map stood_of (take (c.loop-site.site-index + 1) c.args.sites.now)) c.args.known.now.items
            c.improve_at.new.known.items flag)
            (ap (λ flag. flag || c.in_ok-step.step) w.if-improved.false ∙ sym w.improved-is) both
      ];
}

pub returns-clause-step : goal.returns-clause-step
returns-clause-step c = λ judged h. subst (λ (ps : List Site). AreSitesPassed c.args.bounds (rules_of c.args.rules.now)
    c.args.id (map stood_of ps) c.args.known.now.items c.loop-site.known.items c.loop-site.improved)
    (taken_past c.args.sites.now c.loop-site.site-index c.loop-site-test.false)
    (c.loop-site.invariant.passed judged h)
