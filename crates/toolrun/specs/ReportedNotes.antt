-- What is reported of notes: their lines, and after each those that explain it; and after all of them hints.
use Rattle.std.specs.Prelude.{◌≡◌, ℕ, true, List, [], ◌∷◌, ◌++◌, Option, option_copied, Result, Err}
use Rattle.ruletable.specs.Notes.{Said, note_text}
use Rattle.toolrun.specs.Explained.{Explained}
use Rattle.toolrun.specs.declared.settings.Settings.{Settings}
use Rattle.toolrun.specs.declared.stop.Stop.{Stop}
use Rattle.toolrun.specs.declared.stop.Stop.TheVariants.{NoMemory}
use Rattle.toolrun.specs.declared.reported.HintText.{HintText}
use Rattle.toolrun.specs.declared.reported.HintText.TheVariants as hinted
use Rattle.toolrun.specs.declared.reported.NoteText.{NoteText}
use Rattle.toolrun.specs.declared.reported.NoteText.TheVariants.{Whole, Part}

-- all notes in order: the line of each, and after it the lines that explain it
pub data AreNotesReported (Why : Said → List ℕ → Type 0) : List Said → List ℕ → Type 0 where
  no_note : AreNotesReported Why [] []
  note_reported : {note : Said} {why : List ℕ} {notes : List Said} {text : List ℕ} → Why note why
      → AreNotesReported Why notes text → AreNotesReported Why (note ∷ notes) (note_text note ++ (why ++ text))

-- the first notes, and perhaps the line of the next one
pub data AreNotesBegun (Why : Said → List ℕ → Type 0) : List Said → List ℕ → Type 0 where
  begun_notes : {notes : List Said} {text : List ℕ} (others : List Said) → AreNotesReported Why notes text
      → AreNotesBegun Why (notes ++ others) text
  begun_line : {notes : List Said} {text : List ℕ} (note : Said) (others : List Said) → AreNotesReported Why notes text
      → AreNotesBegun Why (notes ++ note ∷ others) (text ++ note_text note)

-- what explains a note on the grammar of a text, if that is asked: Why says it where a name is given for the start rule
abbrev pub WhyNoted : {O : Type 0} → Settings O → (Option (List ℕ) → Said → List ℕ → Type 0) → Said → List ℕ → Type 0
WhyNoted settings Why note why = Explained settings (Why (option_copied settings.start) note) why

-- the notes, each explained if that is asked
abbrev pub ReportedNotes : {O : Type 0} → Settings O → (Option (List ℕ) → Said → List ℕ → Type 0) → List Said → List ℕ
    → Type 0
ReportedNotes settings Why = AreNotesReported (WhyNoted settings Why)

-- all notes, and after them hints, if explanations are asked for
pub record HintedNotes {O : Type 0} (settings : Settings O) (Why : Option (List ℕ) → Said → List ℕ → Type 0)
    (AreHints : List ℕ → Type 0) (notes : List Said) (text : List ℕ) : Type 0 where
  pub first : List ℕ
  pub are_reported : ReportedNotes settings Why notes first
  pub hints : List ℕ
  pub are_hints : Explained settings AreHints hints
  pub all : text ≡ first ++ hints

-- the first of them, where an allocation fails in explaining them
pub record CutNotes {O : Type 0} (settings : Settings O) (Why : Option (List ℕ) → Said → List ℕ → Type 0)
    (notes : List Said) (text : List ℕ) : Type 0 where
  pub asked : settings.explain ≡ true
  pub begun : AreNotesBegun (WhyNoted settings Why) notes text

-- what the code reports of notes
abbrev pub IsReportedOf : (Said → List ℕ → Type 0) → List Said → NoteText → Type 0
IsReportedOf Why notes (Whole text) = AreNotesReported Why notes text.items
IsReportedOf Why notes (Part text) = AreNotesBegun Why notes text.items

-- what the code reports of notes, with hints after them, and the rules that it hands back
abbrev pub IsHintedOf : {R : Type 0} → (Said → List ℕ → Type 0) → (List ℕ → Type 0) → List Said → R → HintText R
    → Type 0
IsHintedOf Why AreHints notes rules (hinted.Whole text kept) = ((first hints : List ℕ)
    × AreNotesReported Why notes first
    × AreHints hints × (text.items ≡ first ++ hints)) × (kept ≡ rules)
IsHintedOf Why AreHints notes rules (hinted.Part text) = AreNotesBegun Why notes text.items

-- all notes are reported so before a task, or the first ones before the run stops since an allocation fails
pub data AreBefore {T : Type 0} (IsReported IsCut : List ℕ → Type 0) (text : List ℕ) (task : Result T Stop)
    : Result T Stop → Type 0 where
  reported_whole : IsReported text → AreBefore IsReported IsCut text task task
  reported_part : IsCut text → AreBefore IsReported IsCut text task (Err NoMemory)

-- the notes are reported before a task
abbrev pub AreReportedBefore : {T O : Type 0} → Settings O → (Option (List ℕ) → Said → List ℕ → Type 0) → List Said
    → List ℕ
    → Result T Stop → Result T Stop → Type 0
AreReportedBefore settings Why notes = AreBefore (ReportedNotes settings Why notes) (CutNotes settings Why notes)
