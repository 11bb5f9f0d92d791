use Rattle.std.proofs.Common.{◌∙◌, ◌++◌, ap, subst, map, take, arith}
use Rattle.earleyitems.specs.EarleySets.{firsts_of}
use Rattle.earleyitems.specs.Waiting.{call_site_at, AreWaiting}
use Rattle.earleyitems.proofs.ExpandLemmas.{take_one, take_past, map_end}
use Rattle.flatgrammar.proofs.InLemmas.{at_index_in}
use Rattle.earleyitems.proofs.SetsLemmas.{goes_farther}
use Rattle.earleyitems.proofs.ListAllLemmas.{waiting_then}
use Rattle.earleyitems.proofs.waiters.list_call_sites.Goals as goal

pub loop-site-preserved : goal.loop-site-preserved
loop-site-preserved c = record {
  on = goes_farther _ _ _ c.loop-site.invariant.on c.list_item.ensures.on;
  long = c.list_item.ensures.long ∙ c.loop-site.invariant.long;
  same = c.list_item.ensures.same ∙ c.loop-site.invariant.same;
  more = λ flat report. waiting_then flat c.args.predictions.now
      (map (call_site_at c.args.origin) (take c.loop-site.site-index c.args.from.now)) _ _ _
      (ap (λ v. map (call_site_at c.args.origin) v) (take_one c.args.from.now c.loop-site.site-index _
      c.loop-site-test.true) ∙ map_end (call_site_at c.args.origin) (take c.loop-site.site-index c.args.from.now) _)
      (c.loop-site.invariant.more flat report) (λ seen are. c.in_ok-list_item.ensures.more flat seen _
      (report _ (at_index_in c.args.from.now c.loop-site.site-index _ c.loop-site-test.true)) are);
  owners = λ flat rows here are. c.in_ok-list_item.ensures.owners flat rows
      (here _ (at_index_in c.args.from.now c.loop-site.site-index _ c.loop-site-test.true))
      (c.loop-site.invariant.owners flat rows here are);
}

pub returns-clause-owners : goal.returns-clause-owners
returns-clause-owners c flat rows here are = c.loop-site.invariant.owners flat rows here are

pub returns-clause-more : goal.returns-clause-more
returns-clause-more c flat seen report h =
    let test = c.loop-site-test.false in
    subst (λ v. AreWaiting flat (seen ++ map (call_site_at c.args.origin) v) c.args.predictions.now
    (firsts_of c.loop-site.records) c.loop-site.waiters.items)
    (take_past c.args.from.now c.loop-site.site-index (omega (arith, test))) (c.loop-site.invariant.more flat report
    seen h)
