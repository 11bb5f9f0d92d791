use Rattle.std.proofs.Common.{◌<◌, ◌+◌, ap, refl, sym, subst, ◌∙◌, arith}
use Rattle.memo.specs.declared.task.MatchTask.TheVariants.{Eval}
use Rattle.memo.specs.KeyLog.{tasks_of}
use Rattle.memo.specs.Parts.{IsIn}
use Rattle.packrat.specs.Known.{taken_of}
use Rattle.packrat.specs.LoopIterations.{Ask}
use Rattle.packrat.specs.IterationsLeft.{left}
use Rattle.packrat.proofs.StandsLemmas as L
use Rattle.packrat.proofs.LeftLemmas as M
use Rattle.packrat.proofs.SkippedLemmas as K
use Rattle.packrat.proofs.machine.Machine.begin_plus.Goals as goal

pub returns-then-not-is_fresh-clause-stands : goal.returns-then-not-is_fresh-clause-stands
returns-then-not-is_fresh-clause-stands c = λ window more some h root key fresh s.
    let t = c.args.taken in
    L.stands_as c.args.peg.now window more c.args.peg.now.keys refl (sym c.in_ok-push.ensures) refl refl
    (sym c.counted-begun.ensures)
    (L.stands_down c.args.peg.now window more c.args.peg.now.keys root (taken_of t)
    c.args.self.now.frames c.args.self.now.log.stored c.args.self.now.events c.args.self.now.begun s
    (λ k. fresh (key ∙ k)) (Eval t.operand t.position) c.args.key key h.led)

pub returns-then-not-is_fresh-clause-less : goal.returns-then-not-is_fresh-clause-less
returns-then-not-is_fresh-clause-less c = λ window more well h le.
    let t = c.args.taken in
    subst (λ v. left c.args.peg.now window (Ask (Eval t.operand t.position)) v c.counted-begun.result
    < left c.args.peg.now window (Ask (taken_of t)) c.args.self.now.frames c.args.self.now.begun)
    (sym c.in_ok-push.ensures)
    (M.less_down c.args.peg.now window (taken_of t) (Eval t.operand t.position) c.args.key
    c.args.self.now.frames c.args.self.now.begun c.counted-begun.result c.counted-begun.ensures le well
    h.led.0)

pub returns-clause-stands : goal.returns-clause-stands
returns-clause-stands c = λ window more some h root key fresh s.
    let t = c.args.taken in
    L.stands_as c.args.peg.now window more c.args.peg.now.keys refl refl refl refl
    (sym (c.counted_skips-self.ensures ∙ ap (λ v. c.args.self.now.begun + (1 + v)) c.from-evals.ensures))
    (K.stands_taken c.args.peg.now window more c.args.peg.now.keys some c.requires.sound
    c.requires.keyed.1.0 c.requires.keyed.1.1 c.requires.keyed.0 root t h c.args.self.now.frames c.wait_last.new.frames
    c.args.self.now.log.stored c.close.new.log.stored c.args.self.now.events c.args.self.now.begun s c.args.key key
    fresh (λ k i. c.if-not-is_fresh.ensures refl 1 0 (omega arith) k
    (subst (λ v. IsIn (Eval t.operand v) (tasks_of c.args.self.now.log.stored)) (omega arith) i))
    (c.in_ok-close.ensures.closed c.args.peg.now window more c.args.peg.now.keys c.args.self.now.events
    c.is_key_node-stores.ensures)
    c.in_ok-wait_last.ensures)

pub returns-clause-less : goal.returns-clause-less
returns-clause-less c = λ window more well h le.
    K.less_taken c.args.peg.now window more c.args.peg.now.keys c.args.taken c.args.key
    c.args.self.now.frames c.wait_last.new.frames c.args.self.now.begun c.counted_skips-self.result
    (c.counted_skips-self.ensures ∙ ap (λ v. c.args.self.now.begun + (1 + v)) c.from-evals.ensures) le
    c.in_ok-wait_last.ensures
