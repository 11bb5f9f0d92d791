-- Notes and what explains them, one note more.
-- Serves: run_tool, run_peg, run_abnf (right), one_statement, one_statement_of_abnf
use Rattle.std.proofs.Common.{◌≡◌, ℕ, suc, ◌+◌, ◌<◌, Bool, true, false, List, [], ◌∷◌, ◌++◌, length, get_or, take, drop}
use Rattle.std.proofs.Common.{map, refl, sym, ap, ◌∙◌, subst, append_assoc, append-nil, add-one, Option}
use Rattle.std.proofs.Common.{option_copied}
use Rattle.std.proofs.Math.Seq.{drop-cons, take-suc}
use Rattle.std.proofs.lemmas.List.{map-append, take-append-drop}
use Rattle.ruletable.specs.Notes.{Said, note_text}
use Rattle.toolrun.specs.Explained.{ExplainedIf}
use Rattle.toolrun.specs.NotesText.{notes_text}
use Rattle.toolrun.specs.ReportedNotes.{
  AreNotesReported,
  no_note,
  note_reported,
  AreNotesBegun,
  begun_notes,
  begun_line,
  ReportedNotes,
}
use Rattle.toolrun.specs.ReportedNotes.{HintedNotes}
use Rattle.toolrun.specs.ReportedNotes.{WhyNoted}
use Rattle.toolrun.specs.declared.settings.Settings.{Settings}
use Rattle.toolrun.proofs.ExplainedIfLemmas.{if-explained}

module _ {Why : Said → List ℕ → Type 0} where
  -- one note more
  pub reported-next : {notes : List Said} {text : List ℕ} (note : Said) (why : List ℕ) → AreNotesReported Why notes text
      → Why note why → AreNotesReported Why (notes ++ note ∷ []) (text ++ (note_text note ++ why))
  reported-next note why no_note w =
      subst (λ (z : List ℕ). AreNotesReported Why (note ∷ []) (note_text note ++ z)) (append-nil why)
      (note_reported w no_note)
  reported-next note why (note_reported {note = first} {why = lines} {notes = others} {text = rest} v more) w =
      subst (AreNotesReported Why (first ∷ (others ++ note ∷ [])))
      (ap (λ (z : List ℕ). note_text first ++ z) (sym (append_assoc lines rest (note_text note ++ why)))
      ∙ sym (append_assoc (note_text first) (lines ++ rest) (note_text note ++ why)))
      (note_reported v (reported-next note why more w))

  -- one text
  pub reported-one : ((note : Said) (a b : List ℕ) → Why note a → Why note b → a ≡ b) → {notes : List Said}
      (a b : List ℕ) → AreNotesReported Why notes a → AreNotesReported Why notes b → a ≡ b
  reported-one one a b no_note no_note = refl
  reported-one one a b (note_reported {note = note} {why = u} {text = s} v more)
      (note_reported {why = w} {text = t} x others) =
      ap (λ (z : List ℕ). note_text note ++ (z ++ s)) (one note u w v x)
      ∙ ap (λ (z : List ℕ). note_text note ++ (w ++ z)) (reported-one one s t more others)

-- all notes are the first ones too
pub begun-whole : {Why : Said → List ℕ → Type 0} {notes : List Said} {text : List ℕ} → AreNotesReported Why notes text
    → AreNotesBegun Why notes text
begun-whole {Why} {notes} {text} reported =
    subst (λ (ns : List Said). AreNotesBegun Why ns text) (append-nil notes) (begun_notes [] reported)

-- other words for what explains
pub reported-words : {P Q : Said → List ℕ → Type 0} → ((note : Said) (why : List ℕ) → P note why → Q note why)
    → {notes : List Said} {text : List ℕ} → AreNotesReported P notes text → AreNotesReported Q notes text
reported-words f no_note = no_note
reported-words f (note_reported v more) = note_reported (f _ _ v) (reported-words f more)

pub begun-words : {P Q : Said → List ℕ → Type 0} → ((note : Said) (why : List ℕ) → P note why → Q note why)
    → {notes : List Said} {text : List ℕ} → AreNotesBegun P notes text → AreNotesBegun Q notes text
begun-words f (begun_notes others t) = begun_notes others (reported-words f t)
begun-words f (begun_line note others t) = begun_line note others (reported-words f t)

-- the first notes of a list of which as many are taken
module _ {N : Type 0} (said_of : N → Said) {Why : Said → List ℕ → Type 0} (notes : List N) (i : ℕ) (text : List ℕ)
    (reported : AreNotesReported Why (map said_of (take i notes)) text) where
  pub begun-here : AreNotesBegun Why (map said_of notes) text
  begun-here = subst (λ ns. AreNotesBegun Why ns text) (sym (map-append said_of (take i notes) (drop i notes))
      ∙ ap (map said_of) (take-append-drop i notes)) (begun_notes (map said_of (drop i notes)) reported)

  pub begun-there : (note : N) → i < length notes → note ≡ get_or notes i note
      → AreNotesBegun Why (map said_of notes) (text ++ note_text (said_of note))
  begun-there note lt is =
      let whole : take i notes ++ note ∷ drop (suc i) notes ≡ notes =
      ap (λ (x : N). take i notes ++ x ∷ drop (suc i) notes) is
      ∙ ap (λ ns. take i notes ++ ns) (sym (drop-cons notes i note lt)) ∙ take-append-drop i notes in
      subst (λ ns. AreNotesBegun Why ns (text ++ note_text (said_of note)))
      (sym (map-append said_of (take i notes) (note ∷ drop (suc i) notes)) ∙ ap (map said_of) whole)
      (begun_line (said_of note) (map said_of (drop (suc i) notes)) reported)

  pub reported-there : (note : N) (why : List ℕ) → i < length notes → note ≡ get_or notes i note
      → Why (said_of note) why
      → AreNotesReported Why (map said_of (take (i + 1) notes)) (text ++ (note_text (said_of note) ++ why))
  reported-there note why lt is w =
      let whole : take (i + 1) notes ≡ take i notes ++ note ∷ [] = rw add-one (take-suc notes i note lt
      ∙ ap (λ (x : N). take i notes ++ x ∷ []) (sym is)) in
      subst (λ ns. AreNotesReported Why ns (text ++ (note_text (said_of note) ++ why)))
      (sym (map-append said_of (take i notes) (note ∷ [])) ∙ ap (map said_of) (sym whole))
      (reported-next (said_of note) why reported w)

module _ {O : Type 0} (settings : Settings O) (Why : Option (List ℕ) → Said → List ℕ → Type 0) where
  explained-if : (asked : Bool) (W : List ℕ → Type 0) (why : List ℕ) → asked ≡ true → W why
      → ExplainedIf asked W why
  explained-if true W why e w = w
  explained-if false W why e w = cc

  pub why-asked : settings.explain ≡ true → (note : Said) (why : List ℕ)
      → Why (option_copied settings.start) note why → WhyNoted settings Why note why
  why-asked asked note why w = explained-if settings.explain _ why asked w

  plain-if : (asked : Bool) (W : List ℕ → Type 0) → asked ≡ false → ExplainedIf asked W []
  plain-if true W e = cc
  plain-if false W e = refl

  -- without explanations the lines of the notes are all
  pub reported-plain : settings.explain ≡ false → (notes : List Said)
      → ReportedNotes settings Why notes (notes_text notes)
  reported-plain plain [] = no_note
  reported-plain plain (note ∷ notes) = note_reported (plain-if settings.explain _ plain) (reported-plain plain notes)

  -- and there are no hints
  pub hinted-plain : (AreHints : List ℕ → Type 0) → settings.explain ≡ false → (notes : List Said)
      → HintedNotes settings Why AreHints notes (notes_text notes)
  hinted-plain AreHints plain notes = record {
    first = notes_text notes;
    are_reported = reported-plain plain notes;
    hints = [];
    are_hints = plain-if settings.explain AreHints plain;
    all = sym (append-nil (notes_text notes));
  }

  -- with explanations hints stand after the notes
  pub hinted-asked : (AreHints : List ℕ → Type 0) → settings.explain ≡ true → {notes : List Said}
      (first hints text : List ℕ) → AreNotesReported (Why (option_copied settings.start)) notes first → AreHints hints
      → text ≡ first ++ hints → HintedNotes settings Why AreHints notes text
  hinted-asked AreHints asked first hints text reported are all = record {
    first = first;
    are_reported = reported-words (why-asked asked) reported;
    hints = hints;
    are_hints = explained-if settings.explain AreHints hints asked are;
    all = all;
  }

  -- one text
  pub hinted-one : (AreHints : List ℕ → Type 0) → ((note : Said) (a b : List ℕ) → WhyNoted settings Why note a
      → WhyNoted settings Why note b → a ≡ b) → ((a b : List ℕ) → AreHints a → AreHints b → a ≡ b)
      → (notes : List Said) (a b : List ℕ) → HintedNotes settings Why AreHints notes a
      → HintedNotes settings Why AreHints notes b → a ≡ b
  hinted-one AreHints one_why one_hints notes a b g h =
      g.all ∙ ap (λ (t : List ℕ). t ++ g.hints) (reported-one one_why g.first h.first g.are_reported h.are_reported)
      ∙ ap (λ (t : List ℕ). h.first ++ t) (if-explained settings.explain AreHints one_hints g.hints h.hints g.are_hints
      h.are_hints) ∙ sym h.all
