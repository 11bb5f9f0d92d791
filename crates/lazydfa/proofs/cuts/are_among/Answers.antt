use Rattle.std.proofs.Common.{arith}
use Rattle.std.proofs.lemmas.Bool.{eqb-true}
use Rattle.std.proofs.lemmas.Option.{slice_get-get_or, slice_get_within}
use Rattle.std.specs.Prelude.{Contains}
use Rattle.lazydfa.proofs.IsClosureLemmas.{stands_at}
use Rattle.lazydfa.proofs.StackCutsLemmas.{each_more}
use Rattle.lazydfa.proofs.cuts.are_among.Goals as goal

pub loop-id-preserved : goal.loop-id-preserved
loop-id-preserved c =
    each_more (λ v. Contains c.args.others.now v) c.args.ids.now c.loop-id.id-index _
    (slice_get-get_or c.args.ids.now c.loop-id.id-index 0 c.loop-id-test.true)
    (let e = c.if-not-contains.ensures.cases in (e.0, e.1, eqb-true _ _ (e.2 _))) c.loop-id.invariant

pub returns : goal.returns
returns c = λ _ id h.
    let t = stands_at c.args.ids.now id h in
    c.loop-id.invariant t.position id
    (let w = slice_get_within c.args.ids.now t.position id t.is in let e = c.loop-id-test.false in omega (arith, w, e))
    t.is
