-- The plan for a grammar's text is what is stated.
-- Serves: run_tool, run_peg, run_abnf (right)
use Rattle.std.proofs.Common.{◌≡◌, ◌≢◌, List, [], ◌++◌, ℕ, refl, sym, ap, subst, true, false, append-nil, Option, Some}
use Rattle.std.proofs.Common.{None, option_copied, codes}
use Rattle.std.specs.Prelude.{Result, Ok, Err}
use Rattle.ruletable.specs.Faults.{fault_text}
use Rattle.ruletable.specs.Notes.{Said}
use Rattle.ruletable.specs.declared.fault.ReadFault.{ReadFault}
use Rattle.ruletable.specs.declared.fault.ReadFault.TheVariants as fault
use Rattle.toolrun.specs.Explained.{Explained}
use Rattle.toolrun.specs.Input.{Input}
use Rattle.toolrun.specs.Language.{AreStated}
use Rattle.toolrun.specs.NotesText.{notes_text}
use Rattle.toolrun.specs.Plan.{after_notes, in_reply, IsPlanned, stopped, reported_after}
use Rattle.toolrun.specs.Reply.{Reply, refusal, text_alone, unexplained_fault, without_memory}
use Rattle.toolrun.specs.Stop.{unread}
use Rattle.toolrun.specs.Tasks.{IsTask, task_does}
use Rattle.toolrun.specs.ReportedNotes.{AreReportedBefore, CutNotes, HintedNotes, reported_whole, reported_part}
use Rattle.toolrun.specs.declared.plan.Task.{Task}
use Rattle.toolrun.specs.declared.plan.Task.TheVariants.{Prints}
use Rattle.toolrun.specs.declared.settings.Mode.{Mode}
use Rattle.toolrun.specs.declared.settings.Mode.TheVariants.{Run, Check, Print}
use Rattle.toolrun.specs.declared.settings.Settings.{Settings}
use Rattle.toolrun.specs.declared.status.Status.TheVariants as status
use Rattle.toolrun.specs.declared.stop.Stop.{Stop}
use Rattle.toolrun.specs.declared.stop.Stop.TheVariants.{NoMemory, Quiet, Refused}

-- a fault that is not explained is reported by its line alone
plain-refusal : (why : ReadFault) → refusal why [] ≡ stopped (Refused why)
plain-refusal why = ap (λ (t : List ℕ). record { out = []; err = t; status = 2; taken = 0 })
    (append-nil (fault_text why))

-- what is reported first is all that is reported
whole-refusal : (why : ReadFault) (lines : List ℕ)
    → refusal why lines ≡ reported_after (fault_text why ++ lines) (stopped (Quiet status.Refused))
whole-refusal why lines = ap (λ (t : List ℕ). record { out = []; err = t; status = 2; taken = 0 })
    (sym (append-nil (fault_text why ++ lines)))

whole-unexplained : (why : ReadFault) → unexplained_fault why ≡ reported_after (fault_text why ++ []) (stopped NoMemory)
whole-unexplained why =
    ap (λ (t : List ℕ). record { out = []; err = t ++ codes "out of memory\n"; status = 5; taken = 0 })
    (sym (append-nil (fault_text why)))

explained_not : {O : Type 0} (settings : Settings O) (Why : List ℕ → Type 0) → settings.explain ≡ false
    → Explained settings Why []
explained_not settings Why is = rw is refl

explained_so : {O : Type 0} (settings : Settings O) (Why : List ℕ → Type 0) (lines : List ℕ) → settings.explain ≡ true
    → Why lines → Explained settings Why lines
explained_so settings Why lines is h = rw is h

module _ (States : Input → List ℕ → Reply → Type 0) (IsFault : ReadFault → Type 0)
    (refuses : (input : Input) (why : ReadFault) → IsFault why → why ≢ fault.Memory
    → States input [] (refusal why []))
    (no_memory : (input : Input) → IsFault fault.Memory → States input [] (without_memory [] 0))
    {T : Type 0} (Does : T → Input → Reply → Type 0) where
  refused-plan : (why : ReadFault) → IsFault why → why ≢ fault.Memory
      → IsPlanned States [] Does (Err (Refused why))
  refused-plan why faulty other = λ input. after_notes
      (subst (States input []) (plain-refusal why) (refuses input why faulty other))

  pub unread-plan : (why : ReadFault) → IsFault why → IsPlanned States [] Does (Err (unread why))
  unread-plan (fault.Syntax line) faulty = refused-plan (fault.Syntax line) faulty (λ e. absurd (cc))
  unread-plan (fault.Depth line) faulty = refused-plan (fault.Depth line) faulty (λ e. absurd (cc))
  unread-plan (fault.CodePredicate line) faulty = refused-plan (fault.CodePredicate line) faulty (λ e. absurd (cc))
  unread-plan fault.TooLong faulty = refused-plan fault.TooLong faulty (λ e. absurd (cc))
  unread-plan fault.Memory faulty = λ input. after_notes (no_memory input faulty)
  unread-plan (fault.NumberTooLarge line) faulty = refused-plan (fault.NumberTooLarge line) faulty (λ e. absurd (cc))

module _ {Grammar CheckedRules Judged Sound Options : Type 0}
    {States : List ℕ → Settings Options → Input → List ℕ → Reply → Type 0}
    {HasFault : List ℕ → ReadFault → Type 0} {Explains : List ℕ → ReadFault → List ℕ → Type 0}
    {ExplainsNote : List ℕ → Option (List ℕ) → Said → List ℕ → Type 0}
    {AreHints : List ℕ → Settings Options → List ℕ → Type 0} {IsRead : List ℕ → Grammar → Type 0}
    {IsChecked : List ℕ → Option (List ℕ) → List Said → CheckedRules → Option Judged → Type 0}
    {IsReady : List ℕ → Option (List ℕ) → List Said → Sound → Type 0}
    {IsPrintable : List ℕ → Grammar → List Said → Type 0} {canonical : Grammar → List ℕ}
    {Runs : Sound → Settings Options → Input → Reply → Type 0}
    (law : AreStated States HasFault Explains ExplainsNote AreHints IsRead IsChecked IsReady IsPrintable canonical Runs)
    (text : List ℕ) (settings : Settings Options)
  where
    abbrev Planned : List ℕ → Result (Task Grammar Sound) Stop → Type 0
    Planned first task = IsPlanned (States text settings) first (λ t. task_does canonical Runs t settings) task

    -- a text that was not read
    pub plan_unread : settings.explain ≡ false → (why : ReadFault) → HasFault text why → Planned [] (Err (unread why))
    plan_unread plain why faulty =
        unread-plan (States text settings) (HasFault text)
        (λ input why f other. law.refused text settings input why [] f other
        (explained_not settings (Explains text why) plain))
        (λ input f. law.no_memory text settings input f)
        (λ (t : Task Grammar Sound). task_does canonical Runs t settings)
        why faulty

    pub plan_without_memory : (why : ReadFault) → why ≡ fault.Memory → HasFault text why → Planned [] (Err (unread why))
    plan_without_memory why is faulty = let f = rw is at faulty in
        rw is (λ input. after_notes (law.no_memory text settings input f))

    -- a fault that is explained, and one for whose explanation there is no memory
    pub plan_explained : settings.explain ≡ true → (why : ReadFault) (lines : List ℕ) → HasFault text why
        → why ≢ fault.Memory → Explains text why lines
        → Planned (fault_text why ++ lines) (Err (Quiet status.Refused))
    plan_explained asked why lines faulty other explains = λ input.
        in_reply refl (subst (States text settings input []) (whole-refusal why lines)
        (law.refused text settings input why lines faulty other
        (explained_so settings (Explains text why) lines asked explains)))

    pub plan_unexplained : settings.explain ≡ true → (why : ReadFault) → HasFault text why → why ≢ fault.Memory
        → Planned (fault_text why ++ []) (Err NoMemory)
    plan_unexplained asked why faulty other = λ input.
        in_reply refl (subst (States text settings input []) (whole-unexplained why)
        (law.unexplained text settings input why faulty other asked))

    -- what is ready of a grammar that was checked
    abbrev Makes : CheckedRules → Judged → Sound → Type 0
    Makes rules judged sound = (t : List ℕ) (start : Option (List ℕ)) (notes : List Said)
        → IsChecked t start notes rules (Some judged) → IsReady t start notes sound

    -- a grammar that was checked, and all whose notes are reported
    pub plan_task : (notes : List Said) (reported : List ℕ) (mode : Mode) (rules : CheckedRules)
        (judged : Option Judged)
        (task : Result (Task Grammar Sound) Stop) → settings.mode ≡ mode
        → mode ≢ Print → IsChecked text (option_copied settings.start) notes rules judged
        → HintedNotes settings (ExplainsNote text) (AreHints text settings) notes reported
        → IsTask (Makes rules) mode judged task → Planned reported task
    plan_task notes reported mode rules None task is other c t e = rw e (λ input.
        after_notes (law.noted text settings input notes reported rules c t (rw is other)))
    plan_task notes reported Run rules (Some judged) task is other c t made =
        let ready = made.1 text (option_copied settings.start) notes c in
        rw made.2 (record {
          stated = λ input reply r. law.run text settings input notes reported made.0 reply ready t is r;
          some = λ input. law.replies text settings input notes made.0 ready;
        })
    plan_task notes reported Check rules (Some judged) task is other c t e = rw e (λ input.
        after_notes (law.checked text settings input notes reported rules judged c t is))
    plan_task notes reported Print rules (Some judged) task is other c t e = absurd (other refl)

    -- a grammar that was checked, and whose notes are reported in part
    pub plan_cut : (notes : List Said) (reported : List ℕ) (rules : CheckedRules) (judged : Option Judged)
        → settings.mode ≢ Print → IsChecked text (option_copied settings.start) notes rules judged
        → CutNotes settings (ExplainsNote text) notes reported → Planned reported (Err NoMemory)
    plan_cut notes reported rules judged other c t = λ input.
        after_notes (law.cut_notes text settings input notes reported rules judged c t other)

    -- a grammar that was checked, and for which an allocation failed
    pub plan_unmade : (notes : List Said) (rules : CheckedRules) (judged : Option Judged)
        → IsChecked text (option_copied settings.start) notes rules judged → Planned [] (Err (unread fault.Memory))
    plan_unmade notes rules judged c = plan_without_memory fault.Memory refl
        (law.within_checked text (option_copied settings.start) notes rules judged c)

    -- a grammar that was read to be printed, with notes and without
    pub plan_again : (grammar : Grammar) (notes : List Said) (reported : List ℕ)
        (task : Result (Task Grammar Sound) Stop)
        → settings.mode ≡ Print → notes ≢ [] → IsPrintable text grammar notes
        → AreReportedBefore settings (ExplainsNote text) notes reported (Err (Quiet status.Refused)) task
        → Planned reported task
    plan_again grammar notes reported task print some p (reported_whole t) = λ input.
        after_notes (law.again text settings input grammar notes reported p some t print)
    plan_again grammar notes reported task print some p (reported_part t) = λ input.
        after_notes (law.cut_again text settings input grammar notes reported p some t print)

    pub plan_printed : (grammar : Grammar) (notes : List Said) → settings.mode ≡ Print → notes ≡ []
        → IsPrintable text grammar notes → Planned (notes_text notes) (Ok (Prints grammar))
    plan_printed grammar notes print none p = let q = rw none at p in rw none (record {
      stated = λ input reply r. rw r (law.printed text settings input grammar q print);
      some = λ input. (text_alone (canonical grammar), refl);
    })
