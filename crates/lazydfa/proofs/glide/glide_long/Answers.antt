use Rattle.std.proofs.Common.{subst, map, arith, true, ◌+◌, length}
use Rattle.std.proofs.lemmas.List.{length-map}
use Rattle.std.specs.Prelude.{IfSome}
use Rattle.flatgrammar.specs.NodeSteps.{flat_of}
use Rattle.lazydfa.specs.Transitions.{IsTaken, StaysOver}
use Rattle.lazydfa.proofs.IsRunVerdictLemmas.{number_at}
use Rattle.lazydfa.proofs.IsTrackLemmas.{transition_taken, stays_taken}
use Rattle.lazydfa.proofs.glide.glide_long.Goals as goal

pub loop-track-preserved : goal.loop-track-preserved
loop-track-preserved g c = record {
  within = omega arith;
  further = omega arith;
  glides = λ tables targets classes memo track.
      let x = map g.L.Letter.number c.args.line.now in
      let taken = subst (λ v. IsTaken v (length c.args.samples.now) true
      (c.loop-track.track.row + c.class_of-class.result) c.in-Some.row) c.as_slice-transitions.ensures.value
      (subst (λ v. IfSome v (IsTaken c.as_slice-transitions.result.now (length c.args.samples.now) true
      (c.loop-track.track.row + c.class_of-class.result))) c.in-Some.is c.next_row.ensures) in
      stays_taken tables targets c.args.samples.now c.args.memo.now memo x c.args.low.now classes c.in-Some.row
      (c.loop-track.track.at + 1) taken.1 c.stay_on.result c.stay_on.ensures.further
      (let size = length-map c.args.line.now g.L.Letter.number in let w = c.stay_on.ensures.within in
      omega (arith, size, w))
      (subst (λ v. StaysOver c.args.low.now c.args.samples.now v x c.in-Some.row (c.loop-track.track.at + 1)
      c.stay_on.result) c.as_slice-transitions.ensures.value c.stay_on.ensures.stays)
      (transition_taken tables targets c.args.samples.now c.args.memo.now memo x
      c.loop-track.track.row c.loop-track.track.at c.value.result c.class_of-class.result c.in-Some.row true
      (λ bare. c.requires.bare)
      (c.loop-track.invariant.glides tables targets classes memo track)
      (number_at g.L.Letter.number c.args.line.now c.loop-track.track.at c.index-line-track.result
      c.value.result c.loop-track-test.true c.index-line-track.is c.value.ensures.number)
      (c.class_of-class.ensures (flat_of tables) classes.low_are.classes classes.parted) taken);
}
