use Rattle.std.specs.Prelude.{option_copied}
use Rattle.std.proofs.lemmas.Result.{on_ok_weaker}
use Rattle.abnfrun.proofs.AbnfExplainedNotesLemmas.{prose_stands, undefined_stands}
use Rattle.abnfrun.proofs.note_positions.push_after.Goals as goal

pub returns-in-Undefined : goal.returns-in-Undefined
returns-in-Undefined c = on_ok_weaker c.push_undefined.result
    (λ pushed text are.
    let w = pushed text are in (
      w.0,
      undefined_stands text (option_copied c.args.start) c.args.note.now.kind c.args.note.now.name.items w.0
          c.in-Undefined.is (rw c.as_slice-name.ensures.value at w.1),
      w.2,
    )) c.push_undefined.ensures

pub returns-in-Prose : goal.returns-in-Prose
returns-in-Prose c = on_ok_weaker c.push_after_prose.result
    (λ pushed text are.
    let start = option_copied c.args.start in
    let w = pushed text start are in (
      w.0,
      prose_stands text start c.args.note.now.kind c.args.note.now.name.items w.0 c.in-Prose.is
          (rw c.as_slice-name.ensures.value at w.1),
      w.2,
    )) c.push_after_prose.ensures
