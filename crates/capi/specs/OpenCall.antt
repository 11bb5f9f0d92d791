-- What a call that opens a grammar leaves.
use Rattle.std.proofs.Common.{Global, Vec}
use Rattle.std.specs.Prelude.{◌≡◌, ◌≢◌, ℕ, Bool, List, [], ◌++◌, Option, Some, None, IsSome, Result, Ok, Err}
use Rattle.std.specs.Prelude.{if◌then◌else◌}
use Rattle.capi.specs.Asking.{IsMeant, IsInvalid}
use Rattle.capi.specs.BufferRun.{Filled, IsLaid, IsUntouched}
use Rattle.capi.specs.declared.asked.CSettings.{CSettings}
use Rattle.ruletable.specs.Faults.{fault_text}
use Rattle.ruletable.specs.Notes.{Said}
use Rattle.ruletable.specs.declared.fault.ReadFault.{ReadFault}
use Rattle.ruletable.specs.declared.fault.ReadFault.TheVariants.{Memory}
use Rattle.toolrun.specs.Explained.{Explained}
use Rattle.toolrun.specs.ReportedNotes.{HintedNotes}
use Rattle.toolrun.specs.declared.settings.Settings.{Settings}

-- The diagnostics that opening a grammar gives: no text if an allocation failed. Private functions alone cite it.
abbrev pub text_reported : {E : Type 0} → Result (Vec ℕ Global) E → List ℕ
text_reported (Ok text) = text.items
text_reported (Err fault) = []

-- The exit status of opening, by whether the grammar is open. Private functions alone cite it.
abbrev pub code_reported : {T E : Type 0} → Result T E → Bool → ℕ
code_reported (Ok text) is_open = if is_open then 0 else 2
code_reported (Err fault) is_open = 5

-- The messages on a text that is not read, and the status: its fault, explained if the settings ask for that; or an
-- allocation failed. HasFault says what is wrong with the text, and Why which lines explain it.
pub data IsFaultReported {O : Type 0} (HasFault : ReadFault → Type 0) (Why : ReadFault → List ℕ → Type 0)
    (settings : Settings O) : List ℕ → ℕ → Type 0 where
  has_fault : (fault : ReadFault) (why : List ℕ) → HasFault fault → fault ≢ Memory
      → Explained settings (Why fault) why → IsFaultReported HasFault Why settings (fault_text fault ++ why) 2
  has_no_memory : IsFaultReported HasFault Why settings [] 5

-- The messages on a grammar's text, what it is opened as, and the status: it is opened; or its notes reject it. The
-- notes are those of a run. If the settings ask for that, WhyNoted explains each, and hints follow. Or the text is not
-- read, or an allocation failed. IsOpen says which notes the text has, and what it may be opened as.
pub data IsOpening {O Open : Type 0} (HasFault : ReadFault → Type 0) (Why : ReadFault → List ℕ → Type 0)
    (WhyNoted : Option (List ℕ) → Said → List ℕ → Type 0) (AreHints : List ℕ → Type 0)
    (IsOpen : List Said → Option Open → Type 0)
    (settings : Settings O) : List ℕ → Option Open → ℕ → Type 0 where
  opens : (notes : List Said) (reported : List ℕ) (opened : Open) → IsOpen notes (Some opened)
      → HintedNotes settings WhyNoted AreHints notes reported
      → IsOpening HasFault Why WhyNoted AreHints IsOpen settings reported (Some opened) 0
  refuses : (notes : List Said) (reported : List ℕ) → IsOpen notes None
      → HintedNotes settings WhyNoted AreHints notes reported
      → IsOpening HasFault Why WhyNoted AreHints IsOpen settings reported None 2
  not_read : (reported : List ℕ) (code : ℕ) → IsFaultReported HasFault Why settings reported code
      → IsOpening HasFault Why WhyNoted AreHints IsOpen settings reported None code

-- what C's place holds before and after
pub record Slot (Open : Type 0) : Type 0 where
  pub old : Option Open
  pub new : Option Open

-- The text was opened with the settings that C asks for, and put into an empty slot; as much of the messages as there
-- is room for was laid into the buffer. Or C asks for no settings, or the slot is not empty, and nothing was done.
-- Opening says what settings make of the text.
pub data IsOpenCall {O Open : Type 0} (AreMeant : CSettings → O → Type 0)
    (Opening : Settings O → List ℕ → Option Open → ℕ → Type 0) (asked : CSettings)
    (name : List ℕ) (slot : Slot Open) (err : Filled) (code : ℕ) : Type 0 where
  tried : (settings : Settings O) (reported : List ℕ) → slot.old ≡ None → IsMeant AreMeant asked name settings
      → Opening settings reported slot.new code → IsLaid reported err
      → IsOpenCall AreMeant Opening asked name slot err code
  not_asked : IsInvalid asked name → slot.new ≡ slot.old → IsUntouched err → code ≡ 6
      → IsOpenCall AreMeant Opening asked name slot err code
  not_empty : IsSome slot.old → slot.new ≡ slot.old → IsUntouched err → code ≡ 6
      → IsOpenCall AreMeant Opening asked name slot err code
