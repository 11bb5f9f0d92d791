-- The lines of the notes alone, or with what explains them and hints.
use Rattle.std.proofs.Common.{◌≡◌, false, map, rules}
use Rattle.ruletable.specs.Notes.{said_of}
use Rattle.toolrun.proofs.ReportedNotesLemmas.{hinted-asked, hinted-plain}
use Rattle.toolrun.proofs.opening.diagnostics_of.Goals as goal

pub returns-in_default-clause-diagnostics : goal.returns-in_default-clause-diagnostics
returns-in_default-clause-diagnostics g c = λ text found are.
    let plain : c.args.settings.now.explain ≡ false = search (rules, found) in
    rw c.in_ok-text.ensures (hinted-plain c.args.settings.now (g.L.Language.explains_note text)
    (g.L.Language.are_hints text c.args.settings.now) plain (map said_of c.args.notes.now))

pub returns-in-Whole-clause-diagnostics : goal.returns-in-Whole-clause-diagnostics
returns-in-Whole-clause-diagnostics g c = λ text found are.
    let there = (let t = found in rw c.in-Some.is at t) in
    let reported = (let t = c.reported_hints.ensures text there.1 are in rw c.in-Whole.is at t) in
    hinted-asked c.args.settings.now (g.L.Language.explains_note text)
    (g.L.Language.are_hints text c.args.settings.now) there.0 reported.0.0 reported.0.1 _ reported.0.2
    reported.0.3 reported.0.4
