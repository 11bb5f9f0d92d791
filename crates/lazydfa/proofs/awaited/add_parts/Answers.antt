use Rattle.std.proofs.Common.{◌+◌, ap, arith, subst, sym}
use Rattle.std.proofs.lemmas.Option.{slice_get-get_or}
use Rattle.lazydfa.specs.Conts.{stack_of}
use Rattle.lazydfa.specs.NameWalks.{AddsParts}
use Rattle.lazydfa.proofs.IsClosureLemmas.{contains_at}
use Rattle.lazydfa.proofs.TopPartLemmas.{IsFirstStack, all_parts, no_parts, parts_added, parts_passed}
use Rattle.lazydfa.proofs.awaited.add_parts.Goals.{then-id-gt0+in_ok-add_part, else-id-gt0}
use Rattle.lazydfa.proofs.awaited.add_parts.Goals as goal

pub cont_at-requires-clause-within : goal.cont_at-requires-clause-within
cont_at-requires-clause-within c =
    c.requires.within _ (contains_at c.args.ids.now c.loop-id.id-index _
    (slice_get-get_or c.args.ids.now c.loop-id.id-index 0 c.loop-id-test.true))

pub loop-id-init : goal.loop-id-init
loop-id-init c = no_parts c.args.tables.now c.args.conts.now.items.items c.args.ids.now c.args.parts.now.items

pub loop-id-preserved : goal.loop-id-preserved
loop-id-preserved c =
    elim c.if-id-gt0.branch [
      | then-id-gt0+in_ok-add_part w ↦ subst
          (λ v. AddsParts c.args.tables.now (IsFirstStack c.args.conts.now.items.items c.args.ids.now
          (c.loop-id.id-index + 1)) c.args.parts.now.items v.items)
          (sym w.parts-is)
          (parts_added c.args.tables.now c.args.conts.now.items.items c.args.ids.now c.args.parts.now.items
          c.loop-id.id-index _ _ _ (slice_get-get_or c.args.ids.now c.loop-id.id-index 0 c.loop-id-test.true)
          c.loop-id.invariant w.cont_at.result.node w.cont_at.result.step
          (stack_of c.args.conts.now.items.items w.cont_at.result.next) w.cont_at.ensures.is
          w.in_ok-add_part.ensures)
      | else-id-gt0 w ↦ parts_passed c.args.tables.now c.args.conts.now.items.items c.args.ids.now
          c.args.parts.now.items c.loop-id.id-index _ _ _
          (slice_get-get_or c.args.ids.now c.loop-id.id-index 0 c.loop-id-test.true) c.loop-id.invariant
          (let none = w.if-id-gt0.false in omega (arith, none)) (ap (λ v. v.items) w.parts-is)
    ]

pub returns : goal.returns
returns c =
    all_parts c.args.tables.now c.args.conts.now.items.items c.args.ids.now c.args.parts.now.items c.loop-id.id-index
    c.loop-id.parts.items c.loop-id-test.false c.loop-id.invariant
