use Rattle.std.proofs.Common.{◌≡◌, false, List, [], length, Result, Ok, Err, is_err, OnOk, refl, sym, subst, ◌∙◌}
use Rattle.std.specs.Io.KnownBytes.{Appends}
use Rattle.ruletable.proofs.AppendsLemmas.{Appends-same}
use Rattle.pegnodes.specs.Nodes.{shapes_of}
use Rattle.gramcheck.specs.Outcome.{Event}
use Rattle.gramcheck.specs.Rising.{Rise}
use Rattle.pegmatch.specs.KeptEvents.{StandFor, no_event}
use Rattle.pegmatch.specs.Text.{text_of}
use Rattle.pegmatch.proofs.IsPrintedLemmas.{same_events}
use Rattle.packrat.proofs.KeptAtLemmas.{none_kept}
use Rattle.packrat.proofs.KeptAtLemmas.{one_waits}
use Rattle.packrat.proofs.events.event_log.EventLog.replay.Goals as goal
use Rattle.packrat.proofs.events.event_log.EventLog.replay.Goals.{in-Ok, in-Err}

at_ok : {A E P : Type 0} (r : Result A E) → is_err r ≡ false → OnOk r P → P
at_ok (Ok a) h p = p
at_ok (Err e) h p = absurd (cc h)

pub returns-then-head-eq0-clause-text : goal.returns-then-head-eq0-clause-text
returns-then-head-eq0-clause-text g c = λ events s.
    let none : StandFor (shapes_of c.args.peg.now.nodes) [] events =
    rw (c.if-head-eq0.true, none_kept c.args.self.now) at s in
    let text : List Event → Type 0 =
    λ v. Appends (g.W.Sink.contents c.args.out.now) (g.W.Sink.contents c.args.out.now)
    (text_of c.args.style c.args.window.now v) in
    (subst text (same_events _ no_event none) (Appends-same (g.W.Sink.contents c.args.out.now)), refl)

pub returns-clause-text : goal.returns-clause-text
returns-clause-text g c = λ events s.
    let success = c.requires.success in
    let rise = subst (Rise 0 (length c.args.window.now)) (same_events _ success.1 s) success.2 in
    let same = one_waits c.self.inside.links.items c.deref.result.now c.args.self.now c.args.head
    c.begin.new.self.heads c.self.view_is c.deref.ensures.value
    (at_ok c.begin.result (sym c.is_err.ensures.value ∙ c.if-is_err.false) c.begin.ensures.heads) in
    let stand = subst (λ v. StandFor (shapes_of c.args.peg.now.nodes) v events) (sym same) s in
    elim c.match-write_waiting.branch [
      | in-Ok w ↦ rw w.result-is (w.in-Ok.ensures.bytes events stand rise, w.in-Ok.ensures.flag)
      | in-Err w ↦ rw w.result-is (w.in-Err.ensures.bytes events stand rise, w.in-Err.ensures.flag)
    ]
