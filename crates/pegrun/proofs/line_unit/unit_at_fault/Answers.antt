-- No more is read, so the input is what was read.
use Rattle.std.proofs.Common.{arith, false, refl, true}
use Rattle.std.specs.Prelude.{Ok}
use Rattle.std.proofs.lemmas.Grind.{common_steps}
use Rattle.feed.specs.Feed.{bytes_of, flow_of}
use Rattle.toolrun.specs.declared.stop.Stop.TheVariants.{Broken}
use Rattle.pegrun.specs.declared.unit.UnitStep.TheVariants.{Stops}
use Rattle.pegrun.proofs.LineUnitLemmas.{fault_step, looks_past, none_there, settled_fits}
use Rattle.pegrun.proofs.NextUnitLemmas.{broken_step}
use Rattle.pegrun.proofs.line_unit.unit_at_fault.Goals.{then-not-runs_at_lines-via-then-not-runs_at_lines}
use Rattle.pegrun.proofs.line_unit.unit_at_fault.Goals.{
  then-not-runs_at_lines-via-else-not-runs_at_lines+then-len-eq0,
}
use Rattle.pegrun.proofs.line_unit.unit_at_fault.Goals as goal

pub returns-then-not-runs_at_lines-clause-follows : goal.returns-then-not-runs_at_lines-clause-follows
returns-then-not-runs_at_lines-clause-follows g c = elim c.then-not-runs_at_lines.branch [
  | then-not-runs_at_lines-via-then-not-runs_at_lines w ↦ λ before input here a.
      broken_step c.args.settings.now c.args.start before (bytes_of c.args.feed.now) (flow_of c.args.feed.now) input
      here a c.requires.broken c.requires.short c.args.peg.now (λ lines is.
      let not_so = w.if-not-runs_at_lines.true in
      let same = c.runs_at_lines.ensures in
      grind (arith, common_steps, not_so, same, lines)) (g.O.Sink.contents c.args.out.now) (Ok (Stops Broken)) refl
  | then-not-runs_at_lines-via-else-not-runs_at_lines+then-len-eq0 w ↦ λ before input here a.
      broken_step c.args.settings.now c.args.start before (bytes_of c.args.feed.now) (flow_of c.args.feed.now) input
      here a c.requires.broken c.requires.short c.args.peg.now (λ lines is.
      let none = w.if-len-eq0.true in
      let len = w.len.ensures.len in
      none_there c.args.peg.now c.args.settings.now c.args.start before (bytes_of c.args.feed.now)
      (flow_of c.args.feed.now) input here a (a.broken c.requires.broken).0 (omega (arith, none, len)) is)
      (g.O.Sink.contents c.args.out.now) (Ok (Stops Broken)) refl
]

pub returns-in-Some-clause-follows : goal.returns-in-Some-clause-follows
returns-in-Some-clause-follows g c = λ before input here a.
    let some = c.if-len-eq0.false in
    let len = c.len.ensures.len in
    let runs = c.if-not-runs_at_lines.false in
    let same = c.runs_at_lines.ensures in
    fault_step c.args.peg.now c.args.settings.now c.args.start before (bytes_of c.args.feed.now)
    (flow_of c.args.feed.now) input here a c.requires.sound (grind (arith, common_steps, runs, same))
    (omega (arith, some, len)) c.requires.short c.requires.broken (g.O.Sink.contents c.args.out.now)
    (g.O.Sink.contents c.try_unit.new.out) c.in-Some.step c.in-Some.ensures.answer

pub returns-in-Some-clause-fits : goal.returns-in-Some-clause-fits
returns-in-Some-clause-fits g c =
    settled_fits c.args.peg.now (bytes_of c.args.feed.now) c.args.settings.now c.args.start
    (g.O.Sink.contents c.args.out.now) (g.O.Sink.contents c.try_unit.new.out) c.in-Some.step c.in-Some.ensures.answer

pub returns-in-None-clause-follows : goal.returns-in-None-clause-follows
returns-in-None-clause-follows g c = λ before input here a.
    let waits = c.in-None.ensures.answer in
    rw waits.1 (broken_step c.args.settings.now c.args.start before (bytes_of c.args.feed.now)
    (flow_of c.args.feed.now) input here a c.requires.broken c.requires.short c.args.peg.now
    (λ lines is. looks_past c.args.peg.now c.args.settings.now c.args.start before (bytes_of c.args.feed.now)
    (flow_of c.args.feed.now) input here a (a.broken c.requires.broken).0 waits.0 is)
    (g.O.Sink.contents c.args.out.now) (Ok (Stops Broken)) refl)
