use Rattle.std.proofs.Common.{◌∙◌, ◌++◌, ap, sym, subst, map, take, arith, slice_index_or}
use Rattle.flatgrammar.specs.ItemClosures.{closure_of, AreAsks}
use Rattle.earleyitems.specs.SetViews.{expand}
use Rattle.earleyitems.specs.EarleySets.{firsts_of}
use Rattle.earleyitems.specs.Waiting.{call_site_at, AreWaiting}
use Rattle.earleyitems.proofs.ExpandLemmas.{take_one, take_past, expand_end}
use Rattle.earleyitems.proofs.SetsLemmas.{goes_farther}
use Rattle.earleyitems.proofs.ListAllLemmas.{waiting_then, waiting_callers}
use Rattle.flatgrammar.specs.Positions.{In}
use Rattle.earleyitems.proofs.AreBucketsLemmas.{get_index}
use Rattle.earleyitems.proofs.ItemOwnersLemmas.{dot_owner, site_stands}
use Rattle.earleyitems.proofs.waiters.list_closures.Goals as goal

pub loop-owner-preserved : goal.loop-owner-preserved
loop-owner-preserved c = record {
  on = goes_farther _ _ _ c.loop-owner.invariant.on c.list_call_sites.ensures.on;
  long = c.list_call_sites.ensures.long ∙ c.loop-owner.invariant.long;
  same = c.list_call_sites.ensures.same ∙ c.loop-owner.invariant.same;
  more = waiting_then c.args.flat.now c.args.predictions.now
      (expand (closure_of c.args.flat.now) c.args.number (take c.loop-owner.owner c.args.list.now)) _ _ _
      (ap (λ v. expand (closure_of c.args.flat.now) c.args.number v)
      (take_one c.args.list.now c.loop-owner.owner 0 c.loop-owner-test.true)
      ∙ expand_end (closure_of c.args.flat.now) c.args.number (take c.loop-owner.owner c.args.list.now) _)
      c.loop-owner.invariant.more
      (λ seen are. waiting_callers c.args.flat.now c.args.predictions.now c.requires.lists
      (slice_index_or c.args.list.now c.loop-owner.owner 0) c.args.number seen _ _
      (subst (λ v. AreWaiting c.args.flat.now (seen ++ map (call_site_at c.args.number) v) c.args.predictions.now
      (firsts_of c.list_call_sites.new.records) c.list_call_sites.new.waiters.items) c.asks.ensures
      (c.in_ok-list_call_sites.ensures.more c.args.flat.now seen (subst (λ v. AreAsks c.args.flat.now v) (sym
      c.asks.ensures)
      (c.requires.lists _).3) are)));
  owners = λ rows row are. c.in_ok-list_call_sites.ensures.owners c.args.flat.now rows
      (λ site stands. dot_owner c.args.flat.now c.requires.owners rows c.args.list.now
      (slice_index_or c.args.list.now c.loop-owner.owner 0) c.args.number c.loop-owner.owner site.dot row
      (get_index c.args.list.now c.loop-owner.owner 0 c.loop-owner-test.true)
      (site_stands c.args.flat.now c.requires.lists (slice_index_or c.args.list.now c.loop-owner.owner 0) site
      (subst (λ v. In site v) c.asks.ensures stands)))
      (c.loop-owner.invariant.owners rows row are);
}

pub returns-clause-owners : goal.returns-clause-owners
returns-clause-owners c rows row are = c.loop-owner.invariant.owners rows row are

pub returns-clause-more : goal.returns-clause-more
returns-clause-more c seen h =
    let test = c.loop-owner-test.false in
    subst (λ v. AreWaiting c.args.flat.now (seen ++ expand (closure_of c.args.flat.now) c.args.number v)
    c.args.predictions.now (firsts_of c.loop-owner.records) c.loop-owner.waiters.items)
    (take_past c.args.list.now c.loop-owner.owner (omega (arith, test))) (c.loop-owner.invariant.more seen h)
