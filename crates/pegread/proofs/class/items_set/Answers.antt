use Rattle.std.proofs.Common.{◌∙◌}
use Rattle.pegread.specs.Classes.{more_items}
use Rattle.pegread.proofs.SpellsSetLemmas.{item-paired, item-smaller, items-step, items-ended}
use Rattle.pegread.proofs.class.items_set.Goals as goal

pub loop-item-smaller : goal.loop-item-smaller
loop-item-smaller c = item-smaller c.in-Some.ensures

pub loop-item-preserved : goal.loop-item-preserved
loop-item-preserved c = record {
  paired = item-paired c.in-Some.ensures c.loop-item.invariant.paired;
  spells = λ xs h. items-step _ _ _ _ xs c.add_range.ensures.members
      (c.loop-item.invariant.spells _ (more_items c.in-Some.ensures h));
  count = c.add_range.ensures.count ∙ c.loop-item.invariant.count;
}

pub returns-clause-items : goal.returns-clause-items
returns-clause-items c = items-ended _ c.in_default.ensures c.loop-item.invariant.spells
