-- Where the text of an action is cut: at the words that the capture takes the position of.
use Rattle.std.specs.Prelude.{◌≡◌, ℕ, ◌≤◌, List, [], ◌∷◌, ◌++◌, length, slice_get, slice_range, Option, Some, None}
use Rattle.std.specs.Fmt.{decimal}
use Rattle.pegnodes.specs.declared.template.Put.{Put}
use Rattle.pegnodes.specs.declared.template.Put.TheVariants as put
use Rattle.pegnodes.specs.declared.template.Slot.{Slot}
use Rattle.pegnodes.specs.declared.template.Template.{Template}
use Rattle.pegnodes.specs.Nodes.{Shape, Act}
use Rattle.pegnodes.specs.Templates.{Word, filled_piece, filled, trimmed}

-- what stands in a slot: the capture, or its length in decimal
abbrev pub put_text : List ℕ → Put → List ℕ
put_text capture put.Capture = capture
put_text capture put.Length = decimal (length capture)

-- what a run of word bytes becomes: what is put in its place, or itself
abbrev pub run_text : List ℕ → List ℕ → Option Put → List ℕ
run_text capture run None = run
run_text capture run (Some p) = put_text capture p

-- the text from one position to another, with the capture put in the slots between them
abbrev pub put_in : List ℕ → List ℕ → ℕ → List Slot → ℕ → List ℕ
put_in text capture from [] to = slice_range text from to
put_in text capture from (slot ∷ slots) to =
    slice_range text from slot.from ++ (put_text capture slot.put ++ put_in text capture slot.to slots to)

-- the slots stand one after the other between two positions
abbrev pub AreSlots : ℕ → List Slot → ℕ → Type 0
AreSlots from [] to = from ≤ to
AreSlots from (slot ∷ slots) to = (from ≤ slot.from) × (slot.from ≤ slot.to) × AreSlots slot.to slots to

-- the slots after which a run follows, and those with the run
pub record IsMore (text : List ℕ) (from to : ℕ) (old new : List Slot) : Type 0 where
  pub order : (first : ℕ) → AreSlots first old from → AreSlots first new to
  pub with_run : (first : ℕ) (capture : List ℕ) → AreSlots first old from →
      put_in text capture first new to ≡ put_in text capture first old from
      ++ filled_piece capture (Word (slice_range text from to))

-- A template is cut: it stands without the blanks at its ends from `from` to `to`, and what it prints is the text with
-- the capture put in its slots, as it is and without those blanks.
pub record IsCut (text : List ℕ) (cut : Template) : Type 0 where
  pub within : cut.to ≤ length text
  pub order : AreSlots cut.from cut.slots.items cut.to
  pub whole : (capture : List ℕ) → filled text capture ≡ put_in text capture 0 cut.slots.items (length text)
  pub between_blanks : (capture : List ℕ) → filled (trimmed text) capture
      ≡ put_in text capture cut.from cut.slots.items cut.to

-- the cut of a node's template, at the position that the node has in a list
pub record HasCut (positions : List ℕ) (cuts : List Template) (n : ℕ) (text : List ℕ) : Type 0 where
  pub position : ℕ
  pub cut : Template
  pub at : slice_get positions n ≡ Some position
  pub there : slice_get cuts position ≡ Some cut
  pub is_cut : IsCut text cut

-- each action has the cut of its template
abbrev pub AreCuts : List Shape → List ℕ → List Template → Type 0
AreCuts nodes positions cuts = (n : ℕ) (text : List ℕ) → slice_get nodes n ≡ Some (Act text)
    → HasCut positions cuts n text
