use Rattle.std.proofs.Common.{◌<◌, ◌≤◌, length, arith}
use Rattle.std.specs.Prelude.{slice_index_or}
use Rattle.std.proofs.lemmas.Option.{slice_get-get_or, slice_get_within}
use Rattle.lazydfa.proofs.IsClosureLemmas.{stands_at}
use Rattle.lazydfa.proofs.StackCutsLemmas.{each_more}
use Rattle.lazydfa.proofs.cuts.are_full.Goals as goal

some : (c : goal.Else-id-len) → 0 < slice_index_or c.args.ids.now c.loop-id.id-index 0
some c = let none = c.if-id-eq0.false in grind (arith, none)

within : (c : goal.Else-id-len) → slice_index_or c.args.ids.now c.loop-id.id-index 0
    ≤ length c.args.conts.now.items.items
within c = let le = c.if-id-len.false in let l = c.len.ensures in let o = c.args.conts.now.items.ok.0 in
    omega (arith, le, l, o)

pub loop-id-preserved : goal.loop-id-preserved
loop-id-preserved c =
    each_more (λ v. (0 < v) × (v ≤ length c.args.conts.now.items.items)) c.args.ids.now c.loop-id.id-index _
    (slice_get-get_or c.args.ids.now c.loop-id.id-index 0 c.loop-id-test.true) (some c, within c) c.loop-id.invariant

pub returns : goal.returns
returns c = λ _ id h.
    let t = stands_at c.args.ids.now id h in
    c.loop-id.invariant t.position id
    (let w = slice_get_within c.args.ids.now t.position id t.is in let e = c.loop-id-test.false in omega (arith, w, e))
    t.is
