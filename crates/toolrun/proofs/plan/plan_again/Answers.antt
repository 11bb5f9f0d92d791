-- The notes alone, or with what explains them.
use Rattle.std.proofs.Common.{◌≡◌, false, map, rules}
use Rattle.ruletable.specs.Notes.{said_of}
use Rattle.toolrun.specs.ReportedNotes.{reported_whole, reported_part}
use Rattle.toolrun.proofs.ReportedNotesLemmas.{reported-words, begun-words, reported-plain, why-asked}
use Rattle.toolrun.proofs.plan.plan_again.Goals as goal

pub returns-in_default : goal.returns-in_default
returns-in_default g c = λ text found read.
    let plain : c.args.settings.now.explain ≡ false = search (rules, found) in
    reported_whole (reported-plain c.args.settings.now (g.L.Language.explains_note text) plain
    (map said_of c.args.notes.items))

pub returns-in-Whole : goal.returns-in-Whole
returns-in-Whole g c = λ text found read.
    let there = (let t = found in rw c.in-Some.is at t) in
    let reported = (let t = c.reported_notes.ensures text there.1 read in
    rw (c.in-Whole.is, c.as_slice.ensures.value) at t) in
    reported_whole (reported-words (why-asked c.args.settings.now (g.L.Language.explains_note text) there.0) reported)

pub returns : goal.returns
returns g c = λ text found read.
    let there = (let t = found in rw c.in-Some.is at t) in
    let reported = (let t = c.reported_notes.ensures text there.1 read in
    rw (c.in-Part.is, c.as_slice.ensures.value) at t) in
    reported_part (record {
      asked = there.0;
      begun = begun-words (why-asked c.args.settings.now (g.L.Language.explains_note text) there.0) reported;
    })
