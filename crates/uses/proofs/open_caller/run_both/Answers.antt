-- The law of open grammars, for each input.
use Rattle.std.proofs.Common.{ℕ, List, Some, inl, refl}
use Rattle.gramcheck.specs.Grammar.{Grammar}
use Rattle.uses.specs.RunsAlone.{RunsAlone}
use Rattle.memoryrun.specs.PlannedRun.{IsPlannedRun}
use Rattle.memoryrun.specs.declared.outputs.Outputs.{Outputs}
use Rattle.pegexplain.specs.PegNotes.{ExplainsNote}
use Rattle.pegexplain.specs.PegHints.{ArePegHints}
use Rattle.pegread.specs.PegViews.{rules_of}
use Rattle.pegrun.proofs.OpenPegLemmas.{open_peg_states}
use Rattle.pegrun.specs.OpenPeg.{IsPegOpened}
use Rattle.pegrun.specs.PegReply.{RunStates}
use Rattle.ruletable.specs.Notes.{Said}
use Rattle.toolrun.proofs.DeliversLemmas.{delivers_after}
use Rattle.toolrun.proofs.ReportedNotesLemmas.{hinted-plain}
use Rattle.toolrun.specs.NotesText.{notes_text}
use Rattle.toolrun.specs.Status.{code_of}
use Rattle.pegrun.specs.PegSettings.{PegSettings}
use Rattle.uses.proofs.open_caller.run_both.Goals as goal

module _ (text : List ℕ) (settings : PegSettings) (notes : List Said) (grammar : Grammar)
    (is : IsPegOpened text settings notes (Some grammar)) (input : List ℕ) (wrote : Outputs)
    (ran : IsPlannedRun (RunStates (rules_of grammar.rules) grammar.start settings) input wrote.out.items
    wrote.err.items (code_of wrote.status)) where
  runs_alone : RunsAlone text settings input wrote
  runs_alone = λ run plain. (
    notes_text notes,
    record {
      notes = notes_text notes;
      stated = ran.stated;
      states = open_peg_states text settings _ notes (notes_text notes) grammar ran.stated run is
          (hinted-plain settings (ExplainsNote text) (ArePegHints text) plain notes) ran.states.1;
      out_failed = ran.out_failed;
      err_failed = ran.err_failed;
      delivers = delivers_after (notes_text notes) (notes_text notes) ran.stated ran.stated _ refl refl refl (inl refl)
          (rw ran.states.0 at ran.delivers);
    },
  )

pub returns-clause-first : goal.returns-clause-first
returns-clause-first c =
    runs_alone _ _ _ c.in-Some.runner (rw c.in-Some.is at c.in-Ok.ensures.opened) c.args.first.now
    c.run_opened-one.result c.run_opened-one.ensures.runs

pub returns-clause-second : goal.returns-clause-second
returns-clause-second c =
    runs_alone _ _ _ c.in-Some.runner (rw c.in-Some.is at c.in-Ok.ensures.opened) c.args.second.now
    c.run_opened-other.result (rw c.run_opened-one.ensures.same at c.run_opened-other.ensures.runs)
