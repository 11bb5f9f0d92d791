use Rattle.std.proofs.Common.{◌≡◌, false, rules, arith, ◌∙◌, length, ap, replicate}
use Rattle.std.proofs.lemmas.List.{length-replicate}
use Rattle.fixpoint.proofs.IsMarkedLemmas as m
use Rattle.fixpoint.proofs.marks.marks_of.Goals as goal

pub mark-requires : goal.mark-requires
mark-requires c = λ k h.
    let fresh : c.deref_mut.result.now ≡ replicate c.args.count false = search rules in
    let l = ap length fresh ∙ length-replicate c.args.count false in
    let lt = c.requires k h in
    omega (arith, lt, l)

pub returns : goal.returns
returns c =
    let fresh : c.deref_mut.result.now ≡ replicate c.args.count false = search rules in
    let l = ap length fresh ∙ length-replicate c.args.count false in
    let same = ap length c.deref_mut.ensures.value in
    let k = c.mark.ensures.count in
    let ok = c.in_ok-marks.marks.ok.0 in
    let new = m.take_written c.mark.new.marks c.in_ok-marks.marks.items c.in_ok-marks.marks.len
    (omega (arith, k, same)) (omega (arith, ok)) in
    rw new (record { count = k ∙ l; marks = m.those_alone _ _ _ _ fresh c.mark.ensures })
