use Rattle.std.proofs.Common.{option_copied}
use Rattle.diagnostics.proofs.ExplainedNoteLemmas.{positions-explain}
use Rattle.pegread.specs.Kinds.{is_end}
use Rattle.pegread.specs.Slices.{White, First}
use Rattle.ruletable.specs.Notes.{said_of}
use Rattle.ruletable.specs.declared.lines.LineRule.TheVariants.{Any}
use Rattle.ruletable.specs.declared.table.NameCase.TheVariants.{Exact}
use Rattle.pegexplain.specs.PegNotes.{sign_of}
use Rattle.pegexplain.proofs.notes.explain_peg_note.Goals as goal

pub returns : goal.returns
returns c = λ text are.
    let w = c.in_ok-push_after.ensures text are in
    record {
      lines = c.in_ok-why.why.items;
      line = w.0;
      explains = positions-explain White First is_end sign_of Any Exact text c.args.positions.now.positions
          (option_copied c.args.start)
          (said_of c.args.note.now) c.in_ok-why.why.items are.positions c.in_ok-why.ensures;
      after = w.1;
      is = w.2;
    }
