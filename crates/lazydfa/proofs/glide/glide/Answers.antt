use Rattle.std.proofs.Common.{subst, map, arith, true, ◌+◌, length}
use Rattle.std.proofs.lemmas.List.{nil_from_length}
use Rattle.std.specs.Prelude.{IfSome}
use Rattle.flatgrammar.specs.NodeSteps.{flat_of}
use Rattle.lazydfa.specs.Transitions.{IsTaken}
use Rattle.lazydfa.proofs.IsRunVerdictLemmas.{number_at}
use Rattle.lazydfa.proofs.IsTrackLemmas.{transition_taken}
use Rattle.lazydfa.proofs.glide.glide.Goals as goal

pub returns-then-len-gt0-clause-glides : goal.returns-then-len-gt0-clause-glides
returns-then-len-gt0-clause-glides g c = λ tables targets classes memo track. track

pub glide_long-requires-clause-bare : goal.glide_long-requires-clause-bare
glide_long-requires-clause-bare g c =
    nil_from_length c.args.memo.now.suffixes.items
    (let z = c.if-len-gt0.false in let l = c.len.ensures in omega (arith, z, l))

pub loop-track-preserved : goal.loop-track-preserved
loop-track-preserved g c = record {
  within = omega arith;
  further = omega arith;
  glides = λ tables targets classes memo track.
      let x = map g.L.Letter.number c.args.line.now in
      let taken = subst (λ v. IsTaken v (length c.args.samples.now) true
      (c.loop-track.track.row + c.class_of-class.result) c.in-Some.row) c.as_slice-transitions.ensures.value
      (subst (λ v. IfSome v (IsTaken c.as_slice-transitions.result.now (length c.args.samples.now) true
      (c.loop-track.track.row + c.class_of-class.result))) c.in-Some.is c.next_row.ensures) in
      transition_taken tables targets c.args.samples.now c.args.memo.now memo x c.loop-track.track.row
      c.loop-track.track.at
      c.value.result c.class_of-class.result c.in-Some.row true
      (λ bare. nil_from_length c.args.memo.now.suffixes.items
      (let z = c.if-len-gt0.false in let l = c.len.ensures in omega (arith, z, l)))
      (c.loop-track.invariant.glides tables targets classes memo track)
      (number_at g.L.Letter.number c.args.line.now c.loop-track.track.at c.index-line-track.result
      c.value.result c.loop-track-test.true c.index-line-track.is c.value.ensures.number)
      (c.class_of-class.ensures (flat_of tables) classes.low_are.classes classes.parted) taken;
}
