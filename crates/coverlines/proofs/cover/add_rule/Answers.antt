-- One site more.
use Rattle.coverlines.proofs.CoverLinesLemmas as l
use Rattle.coverlines.proofs.cover.add_rule.Goals as goal

pub loop-site-preserved : goal.loop-site-preserved
loop-site-preserved c = record {
  order = c.in_ok-add_site.ensures.order;
  added = λ rules known. l.next_site_lines c.args.words.now.bounds rules c.args.rule c.in-Some.context c.args.sites.now
      c.loop-site.site-index c.site-item.result c.args.found.now.items c.loop-site.found.items
      c.add_site.new.found.items c.loop-site-test.true c.site-item.is (c.loop-site.invariant.added rules known)
      (c.in_ok-add_site.ensures.added rules known);
}

pub returns-clause-added : goal.returns-clause-added
returns-clause-added c = λ rules known. rw c.in-Some.is (l.all_site_lines c.args.words.now.bounds rules c.args.rule
    c.in-Some.context c.args.sites.now c.loop-site.site-index c.args.found.now.items c.loop-site.found.items
    c.loop-site-test.false (c.loop-site.invariant.added rules known))
