use Rattle.std.proofs.Common.{◌∙◌, ◌++◌, ap, subst, take, arith}
use Rattle.earleyitems.specs.Chosen.{callers_of}
use Rattle.earleyitems.specs.EarleySets.{firsts_of}
use Rattle.earleyitems.specs.Waiting.{AreWaiting}
use Rattle.flatgrammar.proofs.InLemmas.{at_index_in}
use Rattle.earleyitems.proofs.ExpandLemmas.{take_one, take_past, map_end}
use Rattle.earleyitems.proofs.SetsLemmas.{goes_farther}
use Rattle.earleyitems.proofs.ListAllLemmas.{waiting_then}
use Rattle.earleyitems.proofs.waiters.list_callers.Goals as goal

pub loop-caller-preserved : goal.loop-caller-preserved
loop-caller-preserved c = record {
  on = goes_farther _ _ _ c.loop-caller.invariant.on c.list_item.ensures.on;
  long = c.list_item.ensures.long ∙ c.loop-caller.invariant.long;
  same = c.list_item.ensures.same ∙ c.loop-caller.invariant.same;
  more = λ flat report. waiting_then flat c.args.predictions.now
      (callers_of (take c.loop-caller.caller-index c.args.callers.now)) _ _ _
      (ap (λ v. callers_of v) (take_one c.args.callers.now c.loop-caller.caller-index _ c.loop-caller-test.true)
      ∙ map_end (λ h. h.at.item) (take c.loop-caller.caller-index c.args.callers.now) _)
      (c.loop-caller.invariant.more flat report) (λ seen are. c.in_ok-list_item.ensures.more flat seen _
      (report _ (at_index_in c.args.callers.now c.loop-caller.caller-index _ c.loop-caller-test.true)) are);
  owners = λ flat rows callers are. c.in_ok-list_item.ensures.owners flat rows
      (callers _ (at_index_in c.args.callers.now c.loop-caller.caller-index _ c.loop-caller-test.true))
      (c.loop-caller.invariant.owners flat rows callers are);
}

pub returns-clause-owners : goal.returns-clause-owners
returns-clause-owners c flat rows callers are = c.loop-caller.invariant.owners flat rows callers are

pub returns-clause-more : goal.returns-clause-more
returns-clause-more c flat seen report h =
    let test = c.loop-caller-test.false in
    subst (λ v. AreWaiting flat (seen ++ callers_of v) c.args.predictions.now
    (firsts_of c.loop-caller.records) c.loop-caller.waiters.items)
    (take_past c.args.callers.now c.loop-caller.caller-index (omega (arith, test)))
    (c.loop-caller.invariant.more flat report seen h)
