-- What the window says, by how it was filled.
use Rattle.std.proofs.Common.{◌∙◌, ℕ, List, Option, refl, subst, sym, arith, true, false}
use Rattle.std.specs.Prelude.{Ok}
use Rattle.feed.specs.Feed.{bytes_of, flow_of}
use Rattle.pegrun.specs.Attempts.{IsStepOn}
use Rattle.pegrun.proofs.LineUnitLemmas.{step_has_taken}
use Rattle.pegrun.proofs.NextUnitLemmas.{full_window, last_window, over_fits, over_step, step_on_fits}
use Rattle.pegrun.proofs.unit.next_unit.Goals as goal

pub returns-then-is_over-clause-follows : goal.returns-then-is_over-clause-follows
returns-then-is_over-clause-follows g c = λ before input here a.
    let step = c.step_over.ensures.step in
    let feed = c.step_over.new.feed in
    step_has_taken c.args.settings.now input c.args.start _ (Ok c.step_over.result)
    (rw step.2 (over_step c.args.settings.now c.args.start before feed.ring.items feed.flow input here a
    (sym c.is_over.ensures ∙ c.if-is_over.true)
    c.args.peg.now (g.O.Sink.contents c.args.out.now) feed step.0 step.1 refl refl
    (c.step_over.ensures.grows.capacity ∙ c.requires.capacity)))

pub returns-then-is_over-clause-fits : goal.returns-then-is_over-clause-fits
returns-then-is_over-clause-fits g c =
    let step = c.step_over.ensures.step in
    rw step.2 (over_fits step.0 c.args.start _ _)

pub returns-in-Waits-Full-clause-follows : goal.returns-in-Waits-Full-clause-follows
returns-in-Waits-Full-clause-follows g c = λ before input here a.
    let waits = (rw c.in-Waits-Full.field-0-is at c.in-Waits-Full.ensures.follows) in
    let on = c.unit_at in
    let room = c.early_unit.ensures.grows.capacity ∙ c.requires.capacity in
    let new = g.O.Sink.contents on.new.out in
    step_has_taken c.args.settings.now input c.args.start _ on.result
    (full_window c.args.peg.now c.requires.sound c.args.settings.now c.args.start
    (sym c.is_over.ensures ∙ c.if-is_over.false) before (bytes_of c.early_unit.new.feed) (bytes_of on.new.feed)
    (flow_of on.new.feed) input here a on.ensures.same.bytes (g.O.Sink.contents c.args.out.now) new on.result
    (let full = waits.0 in omega (arith, full, room))
    (subst (λ (o : Option (List ℕ)). IsStepOn c.args.peg.now (bytes_of c.early_unit.new.feed) true c.args.settings.now
    c.args.start o new on.result) waits.1 on.ensures.follows))

pub returns-in-Waits-Full-clause-fits : goal.returns-in-Waits-Full-clause-fits
returns-in-Waits-Full-clause-fits g c =
    step_on_fits c.args.peg.now (bytes_of c.early_unit.new.feed) (bytes_of c.unit_at.new.feed) true c.args.settings.now
    c.args.start _ _ c.unit_at.result c.unit_at.ensures.same.bytes c.unit_at.ensures.follows

pub returns-in-Waits-End-clause-follows : goal.returns-in-Waits-End-clause-follows
returns-in-Waits-End-clause-follows g c = λ before input here a.
    let waits = (rw c.in-Waits-End.field-0-is at c.in-Waits-End.ensures.follows) in
    let on = c.unit_at-in-Waits-End in
    let room = c.early_unit.ensures.grows.capacity ∙ c.requires.capacity in
    let new = g.O.Sink.contents on.new.out in
    step_has_taken c.args.settings.now input c.args.start _ on.result
    (last_window c.args.peg.now c.requires.sound c.args.settings.now c.args.start
    (sym c.is_over.ensures ∙ c.if-is_over.false) before (bytes_of c.early_unit.new.feed) (bytes_of on.new.feed)
    (flow_of on.new.feed) input here a on.ensures.same.bytes (g.O.Sink.contents c.args.out.now) new on.result
    (on.ensures.same.flow ∙ waits.0.0) (let short = waits.0.1 in omega (arith, short, room))
    (subst (λ (o : Option (List ℕ)). IsStepOn c.args.peg.now (bytes_of c.early_unit.new.feed) false c.args.settings.now
    c.args.start o new on.result) waits.1 on.ensures.follows))

pub returns-in-Waits-End-clause-fits : goal.returns-in-Waits-End-clause-fits
returns-in-Waits-End-clause-fits g c =
    let on = c.unit_at-in-Waits-End in
    step_on_fits c.args.peg.now (bytes_of c.early_unit.new.feed) (bytes_of on.new.feed) false c.args.settings.now
    c.args.start _ _ on.result on.ensures.same.bytes on.ensures.follows

pub returns-in-Waits-End-clause-units : goal.returns-in-Waits-End-clause-units
returns-in-Waits-End-clause-units g c = λ are. c.unit_at-in-Waits-End.ensures.units (c.early_unit.ensures.units are)

pub returns-in-Waits-Fault-clause-follows : goal.returns-in-Waits-Fault-clause-follows
returns-in-Waits-Fault-clause-follows g c = λ before input here a.
    rw (← c.in-Waits-Fault.ensures.follows.1) (c.unit_at_fault.ensures.follows before input here a)

pub returns-in-Waits-Fault-clause-units : goal.returns-in-Waits-Fault-clause-units
returns-in-Waits-Fault-clause-units g c = λ are. c.unit_at_fault.ensures.units (c.early_unit.ensures.units are)
