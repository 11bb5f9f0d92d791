use Rattle.std.proofs.Common.{[], take, map, subst, sym, ap, ◌∙◌, arith}
use Rattle.flatgrammar.specs.Positions.{In}
use Rattle.flatgrammar.specs.declared.flat_item.Item.{Item}
use Rattle.earleyitems.specs.ItemSets.{Adds}
use Rattle.flatgrammar.specs.ItemClosures.{item_at}
use Rattle.earleyitems.proofs.ExpandLemmas.{in_more, take_one, take_past, map_end}
use Rattle.flatgrammar.proofs.InLemmas.{at_index_in}
use Rattle.earleyitems.proofs.AddsLemmas.{adds_none}
use Rattle.earleyitems.proofs.fill.add_dots.Goals as goal

pub loop-dot-preserved : goal.loop-dot-preserved
loop-dot-preserved c = record {
  added = subst (λ v. Adds {A = Item} (λ a. In a v) c.args.set.now.items c.add.new.self.items)
      (sym (ap (λ v. map (item_at c.args.origin) v) (take_one c.args.dots.now c.loop-dot.dot-index _
      c.loop-dot-test.true) ∙ map_end (item_at c.args.origin) (take c.loop-dot.dot-index c.args.dots.now) _))
      (in_more (map (item_at c.args.origin) (take c.loop-dot.dot-index c.args.dots.now)) _ _ _ _
      c.loop-dot.invariant.added c.in_ok-add.ensures.added);
  owners = λ flat rows here are. c.in_ok-add.ensures.owners flat rows
      (here _ (at_index_in c.args.dots.now c.loop-dot.dot-index _ c.loop-dot-test.true))
      (c.loop-dot.invariant.owners flat rows here are);
}

pub loop-dot-init : goal.loop-dot-init
loop-dot-init c = record {
  added = adds_none (λ a. In a []) c.args.set.now.items (λ a h. elim h [ ]);
  owners = λ flat rows here are. are;
}

pub returns-clause-added : goal.returns-clause-added
returns-clause-added c =
    let test = c.loop-dot-test.false in
    subst (λ v. Adds {A = Item} (λ a. In a (map (item_at c.args.origin) v)) c.args.set.now.items c.loop-dot.set.items)
    (take_past c.args.dots.now c.loop-dot.dot-index (omega (arith, test))) c.loop-dot.invariant.added

pub returns-clause-owners : goal.returns-clause-owners
returns-clause-owners c flat rows here are = c.loop-dot.invariant.owners flat rows here are
