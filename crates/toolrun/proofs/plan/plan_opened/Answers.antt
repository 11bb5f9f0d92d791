-- The notes stand before the task, alone or with what explains them and hints; or the first of them.
use Rattle.std.proofs.Common.{◌≡◌, false, map, rules}
use Rattle.ruletable.specs.Notes.{said_of}
use Rattle.toolrun.proofs.IsPlanLemmas.{plan_cut}
use Rattle.toolrun.proofs.ReportedNotesLemmas.{begun-words, hinted-asked, hinted-plain, why-asked}
use Rattle.toolrun.proofs.plan.plan_opened.Goals as goal

pub returns-in_default : goal.returns-in_default
returns-in_default g c = λ text found are checked.
    let plain : c.args.settings.now.explain ≡ false = search (rules, found) in
    c.plan_task.ensures text (map said_of c.args.opened.checked.notes.items) checked
    (hinted-plain c.args.settings.now (g.L.Language.explains_note text)
    (g.L.Language.are_hints text c.args.settings.now) plain (map said_of c.args.opened.checked.notes.items))

pub returns-in-Whole : goal.returns-in-Whole
returns-in-Whole g c = λ text found are checked.
    let there = (let t = found in rw c.in-Some.is at t) in
    let reported = (let t = c.reported_hints.ensures text there.1 are in
    rw (c.in-Whole.is, c.as_slice.ensures.value) at t) in
    c.plan_task-in-Whole.ensures text (map said_of c.args.opened.checked.notes.items) (rw reported.1 checked)
    (hinted-asked c.args.settings.now (g.L.Language.explains_note text)
    (g.L.Language.are_hints text c.args.settings.now) there.0 reported.0.0 reported.0.1 _ reported.0.2
    reported.0.3 reported.0.4)

pub returns : goal.returns
returns g c = λ text found are checked.
    let there = (let t = found in rw c.in-Some.is at t) in
    let reported = (let t = c.reported_hints.ensures text there.1 are in
    rw (c.in-Part.is, c.as_slice.ensures.value) at t) in
    plan_cut c.follows.ensures text c.args.settings.now (map said_of c.args.opened.checked.notes.items) _
    c.args.opened.checked.rules c.args.opened.checked.judged c.requires.mode checked (record {
      asked = there.0;
      begun = begun-words (why-asked c.args.settings.now (g.L.Language.explains_note text) there.0) reported;
    })
