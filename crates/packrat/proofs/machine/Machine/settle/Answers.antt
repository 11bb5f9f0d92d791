use Rattle.std.proofs.Common.{◌<◌, [], refl, arith, subst, sym, ap}
use Rattle.memo.specs.declared.task.MatchTask.TheVariants.{Eval}
use Rattle.packrat.specs.LoopIterations.{Ask, Answer, iteration_of}
use Rattle.packrat.specs.IterationsLeft.{left}
use Rattle.packrat.proofs.StandsLemmas as L
use Rattle.packrat.proofs.machine.Machine.settle.Goals as goal

pub resume-requires-clause-well : goal.resume-requires-clause-well
resume-requires-clause-well c =
    let w = c.requires.stands in (
      w.0,
      L.level_well c.args.peg.now w.0 w.1 c.args.peg.now.keys w.2 c.in-Some.frame c.frames.given
          c.pop.new.self c.frames.self.log.stored c.frames.self.events c.frames.self.begun
          (L.stands_as c.args.peg.now w.0 w.1 c.args.peg.now.keys refl c.in-Some.ensures.some refl refl refl
          (c.frames.invariant.stands w.0 w.1 w.3 w.2 w.4)),
    )

pub resume-requires-clause-first : goal.resume-requires-clause-first
resume-requires-clause-first c =
    let w = c.requires.stands in
    L.level_head c.args.peg.now w.0 w.1 c.args.peg.now.keys w.2 c.in-Some.frame c.frames.given
    c.pop.new.self c.frames.self.log.stored c.frames.self.events c.frames.self.begun
    (L.stands_as c.args.peg.now w.0 w.1 c.args.peg.now.keys refl c.in-Some.ensures.some refl refl refl
    (c.frames.invariant.stands w.0 w.1 w.3 w.2 w.4))

pub resume-requires-clause-second : goal.resume-requires-clause-second
resume-requires-clause-second c =
    let w = c.requires.stands in
    L.given_head c.args.peg.now w.0 w.1 c.args.peg.now.keys w.2 c.frames.given c.frames.self.frames
    c.frames.self.log.stored c.frames.self.events c.frames.self.begun
    (c.frames.invariant.stands w.0 w.1 w.3 w.2 w.4)

pub frames-smaller : goal.frames-smaller
frames-smaller c =
    let w = c.requires.stands in
    let less = c.in_ok-own-in-Some.ensures.less w.0 w.1 w.3 w.2 (L.stands_as c.args.peg.now w.0 w.1
    c.args.peg.now.keys refl c.in-Some.ensures.some refl refl refl (c.frames.invariant.stands w.0 w.1 w.3 w.2 w.4)) []
    in
    subst (λ v. left c.args.peg.now [] v c.resume.new.self.frames c.resume.new.self.begun
    < left c.args.peg.now [] (Answer c.frames.given) c.frames.self.frames c.frames.self.begun)
    (ap iteration_of c.in-Answer.is)
    (subst (λ v. left c.args.peg.now [] (iteration_of c.in_ok-own-in-Some.field-0) c.resume.new.self.frames
    c.resume.new.self.begun < left c.args.peg.now [] (Answer c.frames.given) v c.frames.self.begun)
    (sym c.in-Some.ensures.some) less)

pub frames-preserved : goal.frames-preserved
frames-preserved c =
    let w = c.requires.stands in
    record {
      rows = c.in_ok-own-in-Some.ensures.rows;
      stands = λ window more some root s. L.stands_as c.args.peg.now window more c.args.peg.now.keys
          (ap iteration_of c.in-Answer.is) refl refl refl refl (c.in_ok-own-in-Some.ensures.stands window more some root
          (L.stands_as c.args.peg.now window more c.args.peg.now.keys refl c.in-Some.ensures.some refl refl
          refl (c.frames.invariant.stands window more some root s)));
      less = λ bytes.
          let less = c.in_ok-own-in-Some.ensures.less w.0 w.1 w.3 w.2 (L.stands_as c.args.peg.now w.0 w.1
          c.args.peg.now.keys refl c.in-Some.ensures.some refl refl refl
          (c.frames.invariant.stands w.0 w.1 w.3 w.2 w.4)) bytes in
          let now : left c.args.peg.now bytes (Answer c.in-Answer.own) c.resume.new.self.frames
          c.resume.new.self.begun < left c.args.peg.now bytes (Answer c.frames.given) c.frames.self.frames
          c.frames.self.begun =
          subst (λ v. left c.args.peg.now bytes v c.resume.new.self.frames c.resume.new.self.begun
          < left c.args.peg.now bytes (Answer c.frames.given) c.frames.self.frames c.frames.self.begun)
          (ap iteration_of c.in-Answer.is)
          (subst (λ v. left c.args.peg.now bytes (iteration_of c.in_ok-own-in-Some.field-0) c.resume.new.self.frames
          c.resume.new.self.begun < left c.args.peg.now bytes (Answer c.frames.given) v c.frames.self.begun)
          (sym c.in-Some.ensures.some) less) in
          let before = c.frames.invariant.less bytes in
          omega arith;
    }

pub returns-in-Ask-clause-less : goal.returns-in-Ask-clause-less
returns-in-Ask-clause-less c = λ bytes.
    let w = c.requires.stands in
    let less = c.in_ok-own-in-Some.ensures.less w.0 w.1 w.3 w.2 (L.stands_as c.args.peg.now w.0 w.1
    c.args.peg.now.keys refl c.in-Some.ensures.some refl refl refl (c.frames.invariant.stands w.0 w.1 w.3 w.2 w.4))
    bytes in
    let now : left c.args.peg.now bytes (Ask (Eval c.in-Ask.node c.in-Ask.position))
    c.resume.new.self.frames c.resume.new.self.begun
    < left c.args.peg.now bytes (Answer c.frames.given) c.frames.self.frames c.frames.self.begun =
    subst (λ v. left c.args.peg.now bytes v c.resume.new.self.frames c.resume.new.self.begun
    < left c.args.peg.now bytes (Answer c.frames.given) c.frames.self.frames c.frames.self.begun)
    (ap iteration_of c.in-Ask.is)
    (subst (λ v. left c.args.peg.now bytes (iteration_of c.in_ok-own-in-Some.field-0) c.resume.new.self.frames
    c.resume.new.self.begun < left c.args.peg.now bytes (Answer c.frames.given) v c.frames.self.begun)
    (sym c.in-Some.ensures.some) less) in
    let before = c.frames.invariant.less bytes in
    omega arith
