use Rattle.std.proofs.Common.{◌≡◌, ◌<◌, ◌≤◌, [], Some, refl, sym, subst, ap, arith}
use Rattle.memo.specs.declared.task.MatchTask.TheVariants.{Eval}
use Rattle.packrat.specs.LoopIterations.{Ask, Answer, iteration_of}
use Rattle.packrat.specs.Stands.{Stands, AreOn, LowersLeft, IsUnawaited}
use Rattle.packrat.specs.IterationsLeft.{left}
use Rattle.packrat.proofs.StandsLemmas as L
use Rattle.packrat.proofs.machine.Machine.evaluate.Goals as goal

pub asks-init : goal.asks-init
asks-init c =
    let body = c.requires.sound.spelled.spelled c.args.peg.now.start c.args.root c.requires.root in
    record {
      rows = c.requires.rows;
      stands = subst (λ v. Stands c.args.peg.now c.args.window.now c.args.more c.args.peg.now.keys (Eval c.args.root 0)
          (Ask (Eval c.args.root 0)) v c.args.self.now.log.stored c.clear-2.new.self 0) (sym c.clear.ensures)
          (L.stands_first c.args.peg.now c.args.window.now c.args.more c.args.peg.now.keys (Eval c.args.root 0)
          c.args.self.now.log.stored c.clear-2.new.self (((body.0, body.2), omega arith), c.requires.some)
          c.requires.empty);
    }

pub ask-requires-clause-few : goal.ask-requires-clause-few
ask-requires-clause-few c =
    L.stands_few c.args.peg.now c.args.window.now c.args.more c.args.peg.now.keys c.args.root (Ask (Eval c.asks.node
    c.asks.position))
    c.asks.self.frames c.asks.self.log.stored c.asks.self.events c.asks.self.begun c.requires.sound c.requires.root
    c.requires.keys c.asks.invariant.stands

pub returns-in-None : goal.returns-in-None
returns-in-None c = (
  subst (λ v. AreOn c.args.peg.now c.args.window.now c.args.more c.args.peg.now.keys (Eval c.args.root 0) v
      c.ask.new.self.frames c.ask.new.self.log.stored c.ask.new.self.events c.ask.new.self.begun) c.in-None.is
      (c.in_ok-ask.ensures.stands (Eval c.args.root 0) c.asks.invariant.stands),
  c.clear-in-None.ensures,
)

pub asks-smaller-in-Ask : goal.asks-smaller-in-Ask
asks-smaller-in-Ask c =
    let on : AreOn c.args.peg.now c.args.window.now c.args.more c.args.peg.now.keys (Eval c.args.root 0) (Some
    c.in-Some.next) c.ask.new.self.frames c.ask.new.self.log.stored c.ask.new.self.events c.ask.new.self.begun =
    subst (λ v. AreOn c.args.peg.now c.args.window.now c.args.more c.args.peg.now.keys (Eval c.args.root 0) v
    c.ask.new.self.frames c.ask.new.self.log.stored c.ask.new.self.events c.ask.new.self.begun) c.in-Some.is
    (c.in_ok-ask.ensures.stands (Eval c.args.root 0) c.asks.invariant.stands) in
    let few = L.stands_few c.args.peg.now c.args.window.now c.args.more c.args.peg.now.keys c.args.root (iteration_of
    c.in-Some.next) c.ask.new.self.frames c.ask.new.self.log.stored c.ask.new.self.events c.ask.new.self.begun
    c.requires.sound c.requires.root c.requires.keys on in
    let lowers : LowersLeft c.args.peg.now c.args.window.now (Some c.in-Some.next) c.ask.new.self.frames
    c.ask.new.self.begun
    (left c.args.peg.now c.args.window.now
    (Ask (Eval c.asks.node c.asks.position)) c.asks.self.frames c.asks.self.begun) =
    subst (λ v. LowersLeft c.args.peg.now c.args.window.now v c.ask.new.self.frames c.ask.new.self.begun
    (left c.args.peg.now c.args.window.now (Ask (Eval c.asks.node c.asks.position)) c.asks.self.frames
    c.asks.self.begun)) c.in-Some.is
    (c.in_ok-ask.ensures.less few) in
    subst (λ v. left c.args.peg.now c.args.window.now v c.ask.new.self.frames c.ask.new.self.begun
    < left c.args.peg.now c.args.window.now (Ask (Eval c.asks.node c.asks.position)) c.asks.self.frames
    c.asks.self.begun) (ap iteration_of c.in-Ask.is)
    lowers

pub settle-requires-clause-stands : goal.settle-requires-clause-stands
settle-requires-clause-stands c =
    let on : AreOn c.args.peg.now c.args.window.now c.args.more c.args.peg.now.keys (Eval c.args.root 0) (Some
    c.in-Some.next) c.ask.new.self.frames c.ask.new.self.log.stored c.ask.new.self.events c.ask.new.self.begun =
    subst (λ v. AreOn c.args.peg.now c.args.window.now c.args.more c.args.peg.now.keys (Eval c.args.root 0) v
    c.ask.new.self.frames c.ask.new.self.log.stored c.ask.new.self.events c.ask.new.self.begun) c.in-Some.is
    (c.in_ok-ask.ensures.stands (Eval c.args.root 0) c.asks.invariant.stands) in (
      c.args.window.now,
      c.args.more,
      Eval c.args.root 0,
      c.requires.some,
      L.stands_as c.args.peg.now c.args.window.now c.args.more c.args.peg.now.keys (ap iteration_of c.in-Answer.is) refl
          refl refl refl on,
    )

pub asks-smaller : goal.asks-smaller
asks-smaller c =
    let on : AreOn c.args.peg.now c.args.window.now c.args.more c.args.peg.now.keys (Eval c.args.root 0) (Some
    c.in-Some.next) c.ask.new.self.frames c.ask.new.self.log.stored c.ask.new.self.events c.ask.new.self.begun =
    subst (λ v. AreOn c.args.peg.now c.args.window.now c.args.more c.args.peg.now.keys (Eval c.args.root 0) v
    c.ask.new.self.frames c.ask.new.self.log.stored c.ask.new.self.events c.ask.new.self.begun) c.in-Some.is
    (c.in_ok-ask.ensures.stands (Eval c.args.root 0) c.asks.invariant.stands) in
    let few = L.stands_few c.args.peg.now c.args.window.now c.args.more c.args.peg.now.keys c.args.root (iteration_of
    c.in-Some.next) c.ask.new.self.frames c.ask.new.self.log.stored c.ask.new.self.events c.ask.new.self.begun
    c.requires.sound c.requires.root c.requires.keys on in
    let lowers : LowersLeft c.args.peg.now c.args.window.now (Some c.in-Some.next) c.ask.new.self.frames
    c.ask.new.self.begun
    (left c.args.peg.now c.args.window.now
    (Ask (Eval c.asks.node c.asks.position)) c.asks.self.frames c.asks.self.begun) =
    subst (λ v. LowersLeft c.args.peg.now c.args.window.now v c.ask.new.self.frames c.ask.new.self.begun
    (left c.args.peg.now c.args.window.now (Ask (Eval c.asks.node c.asks.position)) c.asks.self.frames
    c.asks.self.begun)) c.in-Some.is
    (c.in_ok-ask.ensures.less few) in
    let own : left c.args.peg.now c.args.window.now (Answer c.in-Answer.given) c.ask.new.self.frames
    c.ask.new.self.begun
    < left c.args.peg.now c.args.window.now
    (Ask (Eval c.asks.node c.asks.position)) c.asks.self.frames c.asks.self.begun =
    subst (λ v. left c.args.peg.now c.args.window.now v c.ask.new.self.frames c.ask.new.self.begun
    < left c.args.peg.now c.args.window.now
    (Ask (Eval c.asks.node c.asks.position)) c.asks.self.frames c.asks.self.begun)
    (ap iteration_of c.in-Answer.is) lowers in
    let after : left c.args.peg.now c.args.window.now (Ask (Eval c.in-Ask-2.child c.in-Ask-2.there))
    c.settle.new.self.frames
    c.settle.new.self.begun
    ≤ left c.args.peg.now c.args.window.now (Answer c.in-Answer.given) c.ask.new.self.frames c.ask.new.self.begun =
    subst (λ v. left c.args.peg.now c.args.window.now v c.settle.new.self.frames c.settle.new.self.begun
    ≤ left c.args.peg.now c.args.window.now (Answer c.in-Answer.given) c.ask.new.self.frames c.ask.new.self.begun)
    (ap iteration_of c.in-Ask-2.is) (c.in_ok-child-in-Answer.ensures.less c.args.window.now) in
    omega arith

pub returns-in-Answer-2 : goal.returns-in-Answer-2
returns-in-Answer-2 c =
    let on : AreOn c.args.peg.now c.args.window.now c.args.more c.args.peg.now.keys (Eval c.args.root 0) (Some
    c.in-Some.next) c.ask.new.self.frames c.ask.new.self.log.stored c.ask.new.self.events c.ask.new.self.begun =
    subst (λ v. AreOn c.args.peg.now c.args.window.now c.args.more c.args.peg.now.keys (Eval c.args.root 0) v
    c.ask.new.self.frames c.ask.new.self.log.stored c.ask.new.self.events c.ask.new.self.begun) c.in-Some.is
    (c.in_ok-ask.ensures.stands (Eval c.args.root 0) c.asks.invariant.stands) in
    let empty : c.settle.new.self.frames ≡ [] =
    subst (λ v. IsUnawaited v c.settle.new.self.frames) c.in-Answer-2.is c.in_ok-child-in-Answer.ensures.last in
    let stands = L.stands_as c.args.peg.now c.args.window.now c.args.more c.args.peg.now.keys (ap iteration_of
    c.in-Answer-2.is) empty refl refl refl
    (c.in_ok-child-in-Answer.ensures.stands c.args.window.now c.args.more c.requires.some (Eval c.args.root 0)
    (L.stands_as c.args.peg.now c.args.window.now c.args.more c.args.peg.now.keys (ap iteration_of c.in-Answer.is) refl
    refl refl refl on)) in
    record {
      keys = stands.given;
      gives = L.end_gives c.args.peg.now c.args.window.now c.args.more c.args.peg.now.keys (Eval c.args.root 0)
          c.in-Answer-2.last c.settle.new.self.log.stored c.settle.new.self.events c.settle.new.self.begun stands;
      runs = L.end_runs c.args.peg.now c.args.window.now c.args.more c.args.peg.now.keys (Eval c.args.root 0)
          c.in-Answer-2.last c.settle.new.self.log.stored c.settle.new.self.events c.settle.new.self.begun stands;
      empty = empty;
    }
