use Rattle.std.proofs.Common.{subst, arith, map}
use Rattle.std.proofs.lemmas.List.{length-map}
use Rattle.flatgrammar.specs.NodeSteps.{flat_of}
use Rattle.lazydfa.specs.Memos.{IsStepTaken}
use Rattle.lazydfa.proofs.IsRunVerdictLemmas.{number_at}
use Rattle.lazydfa.proofs.run.go_on.Goals as goal

pub returns-in-Dead-clause-stops : goal.returns-in-Dead-clause-stops
returns-in-Dead-clause-stops g c =
    let x = map g.L.Letter.number c.args.line.now in
    let size = length-map c.args.line.now g.L.Letter.number in
    let taken = subst (λ v. IsStepTaken c.args.tables.now c.args.classes.samples.now c.take_step.new.memo x
    c.loop-track.track.row c.loop-track.track.at v) c.in-Dead.is
    (c.in_ok-row.ensures.taken x c.loop-track.track.at c.value.result
    (number_at g.L.Letter.number c.args.line.now c.loop-track.track.at c.index-line-track.result c.value.result
    c.loop-track-test.true c.index-line-track.is c.value.ensures.number)
    (c.class_of-class.ensures (flat_of c.args.tables.now) c.requires.classes.low_are.classes c.requires.classes.parted)
    c.loop-track.invariant.tracks) in
    record {
      within = let lt = c.loop-track-test.true in omega (arith, size, lt);
      tracks = taken.0;
      dead = λ _. taken.1;
    }

pub loop-track-preserved : goal.loop-track-preserved
loop-track-preserved g c =
    let taken = subst (λ v. IsStepTaken c.args.tables.now c.args.classes.samples.now c.take_step.new.memo
    (map g.L.Letter.number c.args.line.now) c.loop-track.track.row c.loop-track.track.at v) c.in-To.is
    (c.in_ok-row.ensures.taken (map g.L.Letter.number c.args.line.now) c.loop-track.track.at c.value.result
    (number_at g.L.Letter.number c.args.line.now c.loop-track.track.at c.index-line-track.result c.value.result
    c.loop-track-test.true c.index-line-track.is c.value.ensures.number)
    (c.class_of-class.ensures (flat_of c.args.tables.now) c.requires.classes.low_are.classes c.requires.classes.parted)
    c.loop-track.invariant.tracks) in
    record {
      memo = c.in_ok-row.ensures.memo;
      within = c.glide-track.ensures.within;
      tracks = c.glide-track.ensures.glides c.args.tables.now c.requires.targets c.requires.classes
          c.in_ok-row.ensures.memo taken;
    }

pub returns-clause-stops : goal.returns-clause-stops
returns-clause-stops g c =
    let size = length-map c.args.line.now g.L.Letter.number in
    record {
      within = let a = c.loop-track.invariant.within in omega (arith, a, size);
      tracks = c.loop-track.invariant.tracks;
      dead = λ lt. absurd (let a = c.loop-track-test.false in omega (arith, a, lt, size));
    }
