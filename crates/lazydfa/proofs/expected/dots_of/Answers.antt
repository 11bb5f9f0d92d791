use Rattle.std.proofs.Common.{◌+◌, subst, sym, arith}
use Rattle.std.proofs.lemmas.Option.{slice_get-get_or}
use Rattle.lazydfa.specs.Conts.{stack_of}
use Rattle.lazydfa.proofs.IsClosureLemmas.{contains_at}
use Rattle.lazydfa.proofs.TopDotLemmas.{AreFirstTops, top_added, top_passed, tops_done}
use Rattle.lazydfa.proofs.expected.dots_of.Goals.{then-top-gt0+in_ok-push, else-top-gt0}
use Rattle.lazydfa.proofs.expected.dots_of.Goals as goal

pub cont_at-cont-requires-clause-within : goal.cont_at-cont-requires-clause-within
cont_at-cont-requires-clause-within c =
    c.requires.within _ (contains_at c.args.tops.now c.loop-top.top-index _
    (slice_get-get_or c.args.tops.now c.loop-top.top-index 0 c.loop-top-test.true))

pub loop-top-preserved : goal.loop-top-preserved
loop-top-preserved c =
    elim c.if-top-gt0.branch [
      | then-top-gt0+in_ok-push w ↦ subst
          (λ v. AreFirstTops c.args.conts.now.items.items c.args.tops.now (c.loop-top.top-index + 1) v.items)
          (sym w.dots-is)
          (top_added c.args.conts.now.items.items c.args.tops.now c.loop-top.top-index _ _ _ _
          (stack_of c.args.conts.now.items.items w.cont_at-cont.result.next)
          (slice_get-get_or c.args.tops.now c.loop-top.top-index 0 c.loop-top-test.true)
          w.cont_at-cont.ensures.is w.in_ok-push.ensures.items c.loop-top.invariant)
      | else-top-gt0 w ↦ subst
          (λ v. AreFirstTops c.args.conts.now.items.items c.args.tops.now (c.loop-top.top-index + 1) v.items)
          (sym w.dots-is)
          (top_passed c.args.conts.now.items.items c.args.tops.now c.loop-top.top-index _ _
          (slice_get-get_or c.args.tops.now c.loop-top.top-index 0 c.loop-top-test.true)
          (let none = w.if-top-gt0.false in omega (arith, none))
          c.loop-top.invariant)
    ]

pub returns : goal.returns
returns c =
    tops_done c.args.conts.now.items.items c.args.tops.now c.loop-top.top-index c.loop-top.dots.items
    c.loop-top-test.false c.loop-top.invariant
