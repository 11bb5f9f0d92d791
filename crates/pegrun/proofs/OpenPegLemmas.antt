-- A run of an open grammar is a run of its text.
-- Serves: runs_as_a_run, PegLanguage::ready, open_peg
use Rattle.std.proofs.Common.{◌≡◌, ℕ, List}
use Rattle.std.specs.Prelude.{IfOk, Option, Result, Some, Ok, Err}
use Rattle.gramcheck.specs.Grammar.{Grammar, IsSoundGrammar, Ranked}
use Rattle.pegexplain.specs.PegNotes.{ExplainsNote}
use Rattle.pegexplain.specs.PegHints.{ArePegHints}
use Rattle.pegread.specs.PegViews.{rules_of}
use Rattle.pegread.specs.declared.expr.Expr.{Expr}
use Rattle.pegrun.specs.Answers.{States, runs}
use Rattle.pegrun.specs.Noted.{start_given}
use Rattle.pegrun.specs.OpenPeg.{IsPegOpened}
use Rattle.pegrun.specs.PegLanguage.{IsChecked, IsReady}
use Rattle.pegrun.specs.PegReply.{RunStates}
use Rattle.ruletable.specs.Notes.{Said}
use Rattle.ruletable.specs.Rules as table
use Rattle.ruletable.specs.declared.memory.Memory.{Memory}
use Rattle.toolrun.specs.Input.{Input}
use Rattle.toolrun.specs.Reply.{Reply}
use Rattle.toolrun.specs.ReportedNotes.{HintedNotes}
use Rattle.toolrun.specs.declared.settings.Mode.TheVariants.{Run}
use Rattle.pegrun.specs.PegSettings.{PegSettings}

-- what a run of an open grammar states is what a run of its text states after the notes
pub open_peg_states : (text : List ℕ) (settings : PegSettings) (input : Input) (notes : List Said) (reported : List ℕ)
    (grammar : Grammar) (stated : Reply) → settings.mode ≡ Run → IsPegOpened text settings notes (Some grammar)
    → HintedNotes settings (ExplainsNote text) (ArePegHints text) notes reported
    → RunStates (rules_of grammar.rules) grammar.start settings input stated
    → States text settings input reported stated
open_peg_states text settings input notes reported grammar stated run is reports does =
    let g = is.ready.1 in
    runs is.definitions notes reported grammar.start stated is.reads is.are_notes reports is.ready.0 run g.start
    (rw g.rules at does)

-- a grammar that is ready has the rules and the start rule of the one that was checked
pub is_ready : (rules : table.Rules Expr) (r : Ranked) (made : Result Grammar Memory) → IfOk made (λ s. s.rules ≡ rules)
    → IfOk made (λ s. s.start ≡ r.start) → IfOk made IsSoundGrammar
    → IfOk made (λ s. (text : List ℕ) (start : Option (List ℕ)) (notes : List Said)
    → IsChecked text start notes rules (Some r) → IsReady text start notes s)
is_ready rules r (Ok s) same start sound = λ text given notes is. record {
  definitions = is.definitions;
  reads = is.reads;
  are_notes = is.are_notes;
  accepted = is.accepted.0;
  rules = rw same is.kept;
  start_rule = rw start is.accepted.1;
  sound_grammar = sound;
}
is_ready rules r (Err e) same start sound = tt

-- a grammar that is ready is the one that is opened
pub is_opened : (text : List ℕ) (settings : PegSettings) (notes : List Said) (g : Grammar)
    → IsReady text (start_given settings) notes g → IsPegOpened text settings notes (Some g)
is_opened text settings notes g is = record {
  definitions = is.definitions;
  reads = is.reads;
  are_notes = is.are_notes;
  ready = (is.accepted, record { rules = is.rules; start = is.start_rule });
}
