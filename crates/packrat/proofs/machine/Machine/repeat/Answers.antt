use Rattle.std.proofs.Common.{◌<◌, IfOk, refl, sym, subst, arith, ◌∙◌}
use Rattle.pegnodes.specs.Nodes.{Star}
use Rattle.pegmatch.proofs.NodeShapeLemmas.{node_within}
use Rattle.packrat.specs.Begins.{repeated_of}
use Rattle.packrat.specs.IterationsLeft.{left}
use Rattle.packrat.specs.LoopIterations.{Ask, iteration_of}
use Rattle.packrat.specs.Turned.{AreEnded}
use Rattle.memo.specs.declared.task.MatchTask.TheVariants.{Eval}
use Rattle.packrat.proofs.StandsLemmas as L
use Rattle.packrat.proofs.LeftLemmas as M
use Rattle.packrat.proofs.machine.Machine.repeat.Goals as goal

pub run_iterations-requires-clause-star : goal.run_iterations-requires-clause-star
run_iterations-requires-clause-star c =
    let f = c.in-Some.ensures.free in
    let t = c.in-Some.iterations in
    node_within c.args.peg.now.nodes t.star (Star t.operand) f.decided.1.at

pub run_iterations-requires-clause-operand : goal.run_iterations-requires-clause-operand
run_iterations-requires-clause-operand c =
    let f = c.in-Some.ensures.free in
    let t = c.in-Some.iterations in
    let below = c.requires.sound.built.after t.star t.operand (Star t.operand) f.decided.1.at refl in
    let within = node_within c.args.peg.now.nodes t.star (Star t.operand) f.decided.1.at in
    omega (arith, below, within)

pub run_iterations-requires-clause-some : goal.run_iterations-requires-clause-some
run_iterations-requires-clause-some c = λ no.
    let f = c.in-Some.ensures.free in
    let t = c.in-Some.iterations in
    let e = subst (λ v. AreEnded c.args.peg.now c.args.window.now c.args.more c.args.peg.now.keys v t f.decided.0) no
    f.decided.2 in
    e.0

pub returns-in-Some-clause-stands : goal.returns-in-Some-clause-stands
returns-in-Some-clause-stands c = λ root key fresh s.
    let f = c.in-Some.ensures.free in
    c.run_iterations.ensures.stands c.args.window.now c.args.more
    (record { decided = f.decided; task = refl; star = f.star; operand = f.operand }) root
    (L.stands_as c.args.peg.now c.args.window.now c.args.more c.args.peg.now.keys (cc f.task) refl refl refl refl s)

pub returns-in-Some-clause-less : goal.returns-in-Some-clause-less
returns-in-Some-clause-less c = λ le.
    subst (λ v. IfOk c.run_iterations.result
    (λ iteration. left c.args.peg.now c.args.window.now (iteration_of iteration)
    c.run_iterations.new.self.frames c.run_iterations.new.self.begun
    < left c.args.peg.now c.args.window.now (Ask v) c.args.self.now.frames c.args.self.now.begun))
    (sym c.in-Some.ensures.free.task)
    (c.run_iterations.ensures.less c.args.window.now c.args.more c.in-Some.ensures.free.decided le)

pub returns-in_ok-push-in-None-clause-stands : goal.returns-in_ok-push-in-None-clause-stands
returns-in_ok-push-in-None-clause-stands c = λ root key fresh s.
    let r = c.args.repeated in
    L.stands_as c.args.peg.now c.args.window.now c.args.more c.args.peg.now.keys refl (sym
    c.in_ok-push-in-None.ensures) refl refl (sym c.counted-begun.ensures)
    (L.stands_down c.args.peg.now c.args.window.now c.args.more c.args.peg.now.keys root (repeated_of r)
    c.args.self.now.frames c.args.self.now.log.stored c.args.self.now.events c.args.self.now.begun s
    (λ t. fresh (key ∙ t)) (Eval r.operand r.position) c.args.key key c.requires.is.1)

pub returns-in_ok-push-in-None-clause-less : goal.returns-in_ok-push-in-None-clause-less
returns-in_ok-push-in-None-clause-less c = λ le.
    let r = c.args.repeated in
    subst (λ v. left c.args.peg.now c.args.window.now (Ask (Eval r.operand r.position)) v c.counted-begun.result
    < left c.args.peg.now c.args.window.now (Ask (repeated_of r)) c.args.self.now.frames c.args.self.now.begun)
    (sym c.in_ok-push-in-None.ensures)
    (M.less_down c.args.peg.now c.args.window.now (repeated_of r) (Eval r.operand r.position) c.args.key
    c.args.self.now.frames c.args.self.now.begun c.counted-begun.result c.counted-begun.ensures le c.requires.well
    c.requires.is.1.0)
