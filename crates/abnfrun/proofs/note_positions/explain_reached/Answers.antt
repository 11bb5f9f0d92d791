use Rattle.std.specs.Prelude.{option_copied}
use Rattle.abnfexplain.specs.AbnfNoteLines.{sign_of}
use Rattle.abnfread.specs.AbnfKinds.{ends_list}
use Rattle.abnfread.specs.AbnfSlices.{White, First}
use Rattle.diagnostics.proofs.ExplainedNoteLemmas.{positions-explain}
use Rattle.ruletable.specs.Notes.{said_of}
use Rattle.ruletable.specs.declared.lines.LineRule.TheVariants.{Lf}
use Rattle.ruletable.specs.declared.table.NameCase.TheVariants.{Fold}
use Rattle.abnfrun.proofs.note_positions.explain_reached.Goals as goal

pub returns : goal.returns
returns c = λ text are.
    let w = c.in_ok-push_after.ensures text are in
    record {
      lines = c.in_ok-why.why.items;
      line = w.0;
      explains = positions-explain White First ends_list sign_of Lf Fold text c.args.positions.now.positions
          (option_copied c.args.start) (said_of c.args.note.now) c.in_ok-why.why.items are.positions
          c.in_ok-why.ensures;
      after = w.1;
      is = w.2;
    }
