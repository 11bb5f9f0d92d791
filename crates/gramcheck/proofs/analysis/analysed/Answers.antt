use Rattle.std.proofs.Common.{arith, sym, length, ap}
use Rattle.std.proofs.lemmas.List.{length-map}
use Rattle.pegnodes.specs.Nodes.{shape_of}
use Rattle.gramcheck.proofs.IsAnalysedLemmas as a
use Rattle.gramcheck.proofs.analysis.analysed.Goals as goal

pub body_marks-requires : goal.body_marks-requires
body_marks-requires c = λ m h.
    let lt = c.requires.bodies m h in
    let k = c.in_ok-marks.ensures.count in
    let s = ap length c.deref-3.ensures.value in
    omega (arith, lt, k, s)

pub returns : goal.returns
returns c = λ rules are.
    let marked = c.in_ok-nulls.ensures.marks rules are in
    let left = c.in_ok-left.ensures rules are (rw c.deref.ensures.value marked) in
    let g = rw c.deref-2.ensures.value at c.in_ok-marks.ensures in
    let is = rw c.deref-3.ensures.value at c.in_ok-looping.ensures in
    a.is_analysed _ _ _ _ (sym (length-map c.args.nodes.now shape_of)) g rules _ are marked _ is _ _ left
