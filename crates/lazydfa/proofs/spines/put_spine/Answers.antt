use Rattle.std.proofs.Common.{◌++◌, ap, sym, ◌∙◌, refl, arith}
use Rattle.std.proofs.lemmas.List.{nil_from_length}
use Rattle.lazydfa.specs.Conts.{stack_of}
use Rattle.lazydfa.specs.Spines.{positions_of}
use Rattle.lazydfa.proofs.ContsLemmas.{kept_same, kept_both}
use Rattle.lazydfa.proofs.IsMoveOnLemmas.{spine_put}
use Rattle.lazydfa.proofs.spines.put_spine.Goals as goal

pub loop-cont-init : goal.loop-cont-init
loop-cont-init c = (kept_same c.args.conts.now.items.items, c.requires.within, refl)

pub loop-cont-preserved : goal.loop-cont-preserved
loop-cont-preserved c = (
  kept_both c.args.conts.now.items.items c.loop-cont.conts.items.items c.id_of.new.conts.items.items
      c.loop-cont.invariant.0 c.in_ok-id.ensures.kept,
  c.in_ok-id.ensures.is.within,
  spine_put c.loop-cont.conts.items.items c.id_of.new.conts.items.items c.loop-cont.id c.in_ok-id.id
      c.loop-cont.spine.items c.pop.new.self.items c.in-Some.cont
      (positions_of c.args.spine.now.items ++ stack_of c.args.conts.now.items.items c.args.on) c.in-Some.ensures.items
      c.in_ok-id.ensures.is.is c.loop-cont.invariant.2,
)

pub returns-clause-is : goal.returns-clause-is
returns-clause-is c = record {
  within = c.loop-cont.invariant.1;
  is = sym (c.loop-cont.invariant.2
      ∙ ap (λ v. positions_of v ++ stack_of c.loop-cont.conts.items.items c.loop-cont.id)
      (nil_from_length c.loop-cont.spine.items
      (let o = c.loop-cont.spine.ok in let z = c.in_default.ensures.cases.0 in omega (arith, o, z))));
}
