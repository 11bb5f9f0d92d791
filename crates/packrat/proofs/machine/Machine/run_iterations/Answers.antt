use Rattle.std.proofs.Common.{◌≡◌, ◌+◌, ◌-◌, ◌<◌, refl, sym, subst, arith}
use Rattle.pegnodes.specs.KeyLists.{node_marks}
use Rattle.memo.specs.KeyLog.{tasks_of}
use Rattle.memo.specs.declared.found.Found.TheVariants.{Took}
use Rattle.packrat.specs.ByteGives.{iterations_closed}
use Rattle.packrat.specs.MachineSteps.{store}
use Rattle.packrat.specs.Stands.{Stands}
use Rattle.packrat.specs.Turned.{AreEnded}
use Rattle.packrat.specs.LoopIterations.{Ask, Answer}
use Rattle.memo.specs.declared.task.MatchTask.{MatchTask}
use Rattle.memo.specs.declared.task.MatchTask.TheVariants.{Eval}
use Rattle.packrat.proofs.TurnedLemmas as L
use Rattle.packrat.proofs.LeftLemmas as M
use Rattle.packrat.proofs.machine.Machine.run_iterations.Goals as goal

pub close-requires : goal.close-requires
close-requires c =
    subst (λ v. c.args.iterations.operand < v) (sym c.in_ok-put_operands.ensures.rows) c.requires.operand

pub returns-in_ok-put_iterations-clause-stands : goal.returns-in_ok-put_iterations-clause-stands
returns-in_ok-put_iterations-clause-stands c = λ window more free root s.
    let t = c.args.iterations in
    let d = free.decided in
    let e = subst (λ v. AreEnded c.args.peg.now window more c.args.peg.now.keys v t d.0)
    c.if-iterations.true d.2 in
    let sum = e.2 in
    let low = d.1.low in
    let closed = c.in_ok-close.ensures.closed c.args.peg.now window more c.args.peg.now.keys c.args.self.now.events
    c.is_key_node-key.ensures in
    subst (λ v. Stands c.args.peg.now window more c.args.peg.now.keys root
    (Answer (record { found = Took t.end; events = 0 })) c.args.self.now.frames c.put_iterations.new.log.stored
    c.args.self.now.events (c.args.self.now.begun + v)) (sym sum)
    (L.stands_ended c.args.peg.now window more c.args.peg.now.keys c.requires.sound
    c.requires.keyed.1.0 c.requires.keyed.1.1 c.requires.keyed.0 t d.0 d.1 root c.args.self.now.frames
    c.args.self.now.log.stored c.put_iterations.new.log.stored c.args.self.now.events c.args.self.now.begun s
    free.star free.operand
    (λ h. c.in_ok-put_iterations.ensures.keeps window more c.args.self.now.events
    (λ p from to. L.ended_given c.args.peg.now window more c.args.peg.now.keys c.requires.sound
    t.star t.operand t.from t.end d.0 d.1 c.args.self.now.events e.0 e.1 p from (omega (arith, low, to)))
    (closed.keeps (L.stop_given c.args.peg.now window more c.args.peg.now.keys c.requires.sound
    t.star t.operand t.from t.end d.0 d.1 c.args.self.now.events e.0 e.1)
    (c.in_ok-put_operands.ensures.keeps window more c.args.self.now.events d h))) e.0 e.1
    (subst (λ v. tasks_of c.put_iterations.new.log.stored
    ≡ iterations_closed (node_marks c.args.peg.now.keys t.star) t.star
    t.from (t.end + 1 - t.from) (store MatchTask (node_marks c.args.peg.now.keys t.operand) (Eval t.operand t.end) v))
    c.in_ok-put_operands.ensures.tasks
    (subst (λ v. tasks_of c.put_iterations.new.log.stored
    ≡ iterations_closed (node_marks c.args.peg.now.keys t.star) t.star
    t.from (t.end + 1 - t.from) v) closed.tasks c.in_ok-put_iterations.ensures.tasks)))

pub returns-in_ok-put_iterations-clause-less : goal.returns-in_ok-put_iterations-clause-less
returns-in_ok-put_iterations-clause-less c = λ window more d le.
    let t = c.args.iterations in
    let e = subst (λ v. AreEnded c.args.peg.now window more c.args.peg.now.keys v t d.0)
    c.if-iterations.true d.2 in
    let sum = e.2 in
    let some = e.1.is in
    M.less_ended c.args.peg.now window t.star t.from (record { found = Took t.end; events = 0 })
    c.args.self.now.frames c.args.self.now.begun (c.args.self.now.begun + t.evals) t.evals refl
    (omega (arith, sum, some)) le

pub returns-in_ok-wait_turned-clause-stands : goal.returns-in_ok-wait_turned-clause-stands
returns-in_ok-wait_turned-clause-stands c = λ window more free root s.
    let t = c.args.iterations in
    let d = free.decided in
    let e = subst (λ v. AreEnded c.args.peg.now window more c.args.peg.now.keys v t d.0)
    c.if-iterations.false d.2 in
    let sum = e.1 in
    subst (λ v. Stands c.args.peg.now window more c.args.peg.now.keys root
    (Ask (Eval t.star t.end)) c.wait_turned.new.frames c.put_operands.new.log.stored
    c.args.self.now.events (c.args.self.now.begun + v)) (sym sum)
    (L.stands_along c.args.peg.now window more c.args.peg.now.keys c.requires.sound
    c.requires.keyed.1.0 c.requires.keyed.1.1 c.requires.keyed.0 t d.0 d.1 root c.args.self.now.frames
    c.args.self.now.log.stored c.put_operands.new.log.stored c.args.self.now.events c.args.self.now.begun s
    free.star free.operand
    (c.in_ok-put_operands.ensures.keeps window more c.args.self.now.events d) c.wait_turned.new.frames
    c.in_ok-wait_turned.ensures e.0 c.in_ok-put_operands.ensures.tasks)

pub returns-in_ok-wait_turned-clause-less : goal.returns-in_ok-wait_turned-clause-less
returns-in_ok-wait_turned-clause-less c = λ window more d le.
    let t = c.args.iterations in
    let e = subst (λ v. AreEnded c.args.peg.now window more c.args.peg.now.keys v t d.0)
    c.if-iterations.false d.2 in
    let sum = e.1 in
    let lt = e.0 in
    let some = L.iterations_some d.1.iterations in
    M.less_iterations c.args.peg.now window t.star t.from t.star t.end c.args.self.now.frames
    c.wait_turned.new.frames c.args.self.now.begun (c.args.self.now.begun + t.evals) t.evals refl
    (omega (arith, sum, some, lt)) le
    (M.turned_costs c.args.peg.now window (node_marks c.args.peg.now.keys t.star) t c.args.self.now.frames
    c.wait_turned.new.frames c.in_ok-wait_turned.ensures)
