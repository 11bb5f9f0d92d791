use Rattle.std.proofs.Common.{◌++◌, ap, sym, ◌∙◌, refl}
use Rattle.std.proofs.lemmas.Bool.{eqb-true}
use Rattle.lazydfa.specs.Conts.{stack_of}
use Rattle.lazydfa.specs.Spines.{positions_of}
use Rattle.lazydfa.proofs.IsMoveOnLemmas.{spine_taken}
use Rattle.lazydfa.proofs.spines.take_spine.Goals as goal

pub loop-init : goal.loop-init
loop-init c = (
  c.requires.within,
  sym (ap (λ v. positions_of v ++ stack_of c.args.conts.now.items.items c.args.top) c.clear.ensures.items),
)

pub returns-then-id-off : goal.returns-then-id-off
returns-then-id-off c = λ _.
    c.loop.invariant.1
    ∙ ap (λ v. positions_of c.loop.spine.items ++ stack_of c.args.conts.now.items.items v) c.if-id-off.true

pub loop-preserved : goal.loop-preserved
loop-preserved c = (
  c.cont_at-cont.ensures.next,
  spine_taken c.args.conts.now.items.items c.loop.id c.cont_at-cont.result.next c.loop.spine.items
      c.push.new.self.items c.cont_at-cont.result (stack_of c.args.conts.now.items.items c.args.top)
      c.in_ok-push.ensures.items refl c.cont_at-cont.ensures.is c.loop.invariant.1,
)

pub returns : goal.returns
returns c = λ same.
    c.loop.invariant.1
    ∙ ap (λ v. positions_of c.loop.spine.items ++ stack_of c.args.conts.now.items.items v)
    (eqb-true c.loop.id c.args.off same)
