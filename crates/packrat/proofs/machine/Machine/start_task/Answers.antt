use Rattle.std.proofs.Common.{◌<◌, ◌+◌, refl, sym, subst, ◌∙◌}
use Rattle.memo.specs.declared.found.Found.TheVariants.{Took}
use Rattle.packrat.proofs.KeptAtLemmas.{grown_same}
use Rattle.packrat.specs.LoopIterations.{Ask, iteration_of}
use Rattle.memo.specs.declared.task.MatchTask.TheVariants.{Eval}
use Rattle.packrat.specs.Onward.{AfterStart, tail_of}
use Rattle.packrat.specs.IterationsLeft.{left}
use Rattle.packrat.specs.View.{weight}
use Rattle.packrat.proofs.StandsLemmas as L
use Rattle.packrat.proofs.LeftLemmas as M
use Rattle.packrat.proofs.machine.Machine.start_task.Goals as goal

pub returns-in_ok-close-in-Gives-clause-stands : goal.returns-in_ok-close-in-Gives-clause-stands
returns-in_ok-close-in-Gives-clause-stands c = λ peg window more h root key fresh s.
    let e = subst (AfterStart peg window more c.args.task) c.in-Gives.is h in
    L.stands_as peg window more peg.keys refl refl refl refl (sym
    c.counted-self.ensures)
    (L.stands_leaf peg window more peg.keys root c.args.task
    c.args.self.now.frames c.args.self.now.log.stored
    c.args.self.now.events c.args.self.now.begun s (λ t. fresh (key ∙ t)) c.args.self.now.events
    (record { found = c.in-Gives.found; events = 0 }) c.close.new.log.stored (grown_same c.args.self.now.events)
    e.0
    (L.given_none peg window more peg.keys c.args.self.now.events c.args.task
    c.in-Gives.found e.1)
    (c.in_ok-close-in-Gives.ensures.closed peg window more peg.keys c.args.self.now.events key))

pub returns-in_ok-close-in-Gives-clause-less : goal.returns-in_ok-close-in-Gives-clause-less
returns-in_ok-close-in-Gives-clause-less c = λ peg window more well h le.
    M.less_leaf peg window c.args.task (record { found = c.in-Gives.found; events = 0 })
    c.args.self.now.frames c.args.self.now.begun c.counted-self.result c.counted-self.ensures le well

pub returns-in_ok-close-in-Marks-clause-stands : goal.returns-in_ok-close-in-Marks-clause-stands
returns-in_ok-close-in-Marks-clause-stands c = λ peg window more h root key fresh s.
    let e = subst (AfterStart peg window more c.args.task) c.in-Marks.is h in
    L.stands_as peg window more peg.keys refl refl refl refl (sym
    c.counted-self.ensures)
    (L.stands_leaf peg window more peg.keys root c.args.task
    c.args.self.now.frames c.args.self.now.log.stored
    c.args.self.now.events c.args.self.now.begun s (λ t. fresh (key ∙ t)) c.mark.new.self
    (record { found = Took c.position.result; events = c.in_ok-mark-in-Marks.field-0 }) c.close-in-Marks.new.log.stored
    c.in_ok-mark-in-Marks.ensures.grown e.0
    (L.given_marked peg window more peg.keys c.mark.new.self c.args.task
    c.position.result c.in-Marks.event
    c.in_ok-mark-in-Marks.field-0 c.position.ensures e c.in_ok-mark-in-Marks.ensures.head
    c.in_ok-mark-in-Marks.ensures.kept)
    (c.in_ok-close-in-Marks.ensures.closed peg window more peg.keys c.mark.new.self key))

pub returns-in_ok-close-in-Marks-clause-less : goal.returns-in_ok-close-in-Marks-clause-less
returns-in_ok-close-in-Marks-clause-less c = λ peg window more well h le.
    M.less_leaf peg window c.args.task
    (record { found = Took c.position.result; events = c.in_ok-mark-in-Marks.field-0 })
    c.args.self.now.frames c.args.self.now.begun c.counted-self.result c.counted-self.ensures le well

pub returns-in_ok-push-in-Leads-clause-stands : goal.returns-in_ok-push-in-Leads-clause-stands
returns-in_ok-push-in-Leads-clause-stands c = λ peg window more h root key fresh s.
    let e = subst (AfterStart peg window more c.args.task) c.in-Leads.is h in
    L.stands_as peg window more peg.keys refl (sym
    c.in_ok-push-in-Leads.ensures)
    refl refl
    (sym c.counted-self.ensures)
    (L.stands_down peg window more peg.keys root c.args.task
    c.args.self.now.frames c.args.self.now.log.stored
    c.args.self.now.events c.args.self.now.begun s (λ t. fresh (key ∙ t)) (Eval c.in-Leads.node c.in-Leads.position)
    c.args.key key
    e)

pub returns-in_ok-push-in-Leads-clause-less : goal.returns-in_ok-push-in-Leads-clause-less
returns-in_ok-push-in-Leads-clause-less c = λ peg window more well h le.
    let e = subst (AfterStart peg window more c.args.task) c.in-Leads.is h in
    subst (λ v. left peg window (Ask (Eval c.in-Leads.node c.in-Leads.position)) v
    c.counted-self.result
    < left peg window (Ask c.args.task) c.args.self.now.frames c.args.self.now.begun)
    (sym c.in_ok-push-in-Leads.ensures)
    (M.less_down peg window c.args.task (Eval c.in-Leads.node c.in-Leads.position) c.args.key
    c.args.self.now.frames
    c.args.self.now.begun c.counted-self.result c.counted-self.ensures le well e.0)

pub returns-in_ok-wait_last-in-Passes-clause-stands : goal.returns-in_ok-wait_last-in-Passes-clause-stands
returns-in_ok-wait_last-in-Passes-clause-stands c = λ peg window more h root key fresh s.
    let e = subst (AfterStart peg window more c.args.task) c.in-Passes.is h in
    L.stands_as peg window more peg.keys refl refl refl refl (sym
    c.counted-self.ensures)
    (L.stands_pass peg window more peg.keys root c.args.task
    c.args.self.now.frames c.args.self.now.log.stored
    c.args.self.now.events c.args.self.now.begun s (λ t. fresh (key ∙ t)) (Eval c.in-Passes.node c.in-Passes.position)
    c.args.key
    c.wait_last.new.frames
    key e c.in_ok-wait_last-in-Passes.ensures)

pub returns-in_ok-wait_last-in-Passes-clause-less : goal.returns-in_ok-wait_last-in-Passes-clause-less
returns-in_ok-wait_last-in-Passes-clause-less c = λ peg window more well h le.
    let e = subst (AfterStart peg window more c.args.task) c.in-Passes.is h in
    M.less_pass peg window c.args.task (Eval c.in-Passes.node c.in-Passes.position) c.args.key 0
    c.args.self.now.frames c.wait_last.new.frames c.args.self.now.begun c.counted-self.result c.counted-self.ensures le
    well e.0 c.in_ok-wait_last-in-Passes.ensures

pub returns-in_ok-enter-in-Enters-clause-stands : goal.returns-in_ok-enter-in-Enters-clause-stands
returns-in_ok-enter-in-Enters-clause-stands c = λ peg window more h root key fresh s.
    let e = subst (AfterStart peg window more c.args.task) c.in-Enters.is h in
    let same = c.in_ok-enter-in-Enters.ensures.same in
    L.stands_as peg window more peg.keys refl refl (cc (sym same)) refl
    (sym c.counted-self.ensures)
    (L.stands_entered peg window more peg.keys root c.in-Enters.entering
    c.wait_last-in-Enters.new.frames c.args.self.now.log.stored c.args.self.now.events
    (c.args.self.now.begun + weight c.args.task)
    (L.stands_pass peg window more peg.keys root c.args.task
    c.args.self.now.frames c.args.self.now.log.stored
    c.args.self.now.events c.args.self.now.begun s (λ t. fresh (key ∙ t))
    (tail_of c.in-Enters.entering) c.args.key c.wait_last-in-Enters.new.frames key e.0
    c.in_ok-wait_last-in-Enters.ensures)
    c.enter.new.frames (iteration_of c.in_ok-enter-in-Enters.field-0) e.2 e.1 c.in_ok-enter-in-Enters.ensures.entered)

pub returns-in_ok-enter-in-Enters-clause-less : goal.returns-in_ok-enter-in-Enters-clause-less
returns-in_ok-enter-in-Enters-clause-less c = λ peg window more well h le.
    let e = subst (AfterStart peg window more c.args.task) c.in-Enters.is h in
    M.less_pass_in peg window c.args.self.now.log.stored c.args.task
    (iteration_of c.in_ok-enter-in-Enters.field-0)
    c.in-Enters.entering c.args.key 0 c.args.self.now.frames c.wait_last-in-Enters.new.frames c.enter.new.frames
    c.args.self.now.begun c.counted-self.result c.counted-self.ensures le well e.0.0
    e.0.1 c.in_ok-wait_last-in-Enters.ensures c.in_ok-enter-in-Enters.ensures.entered
