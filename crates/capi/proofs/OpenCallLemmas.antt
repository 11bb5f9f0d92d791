-- The messages on a grammar that C opens.
-- Serves: abnf_open, abnf_judge, peg_open, peg_run
use Rattle.std.proofs.Common.{◌≡◌, ◌≢◌, ℕ, Bool, false, List, ◌++◌, Option, Some, None, refl, Global, Vec}
use Rattle.std.specs.Prelude.{IsErr, IfOk, is_some, Result, Ok, Err}
use Rattle.capi.specs.OpenCall.{
  IsFaultReported,
  IsOpening,
  code_reported,
  has_fault,
  has_no_memory,
  not_read,
  text_reported,
}
use Rattle.ruletable.specs.Faults.{fault_text}
use Rattle.ruletable.specs.Notes.{Said}
use Rattle.ruletable.specs.declared.fault.ReadFault.{ReadFault}
use Rattle.ruletable.specs.declared.fault.ReadFault.TheVariants.{Memory}
use Rattle.toolrun.specs.Explained.{Explained}
use Rattle.toolrun.specs.declared.settings.Settings.{Settings}

-- a slot that is closed is empty
pub closed_is_none : {A : Type 0} (held : Option A) (is_open : Bool) → is_open ≡ is_some held → is_open ≡ false
    → held ≡ None
closed_is_none None is_open right closed = refl
closed_is_none (Some x) is_open right closed = absurd (cc)

module _ {HasFault : ReadFault → Type 0} {Why : ReadFault → List ℕ → Type 0} {O E : Type 0}
    {settings : Settings O} where
  -- an allocation failed
  pub reports_nothing : (reported : Result (Vec ℕ Global) E) → IsErr reported
      → IsFaultReported HasFault Why settings (text_reported reported) (code_reported reported false)
  reports_nothing (Ok text) failed = absurd (cc)
  reports_nothing (Err e) failed = has_no_memory

  -- the fault is reported, or an allocation failed
  pub reports_fault : (fault : ReadFault) (why : List ℕ) (reported : Result (Vec ℕ Global) E) → HasFault fault
      → fault ≢ Memory → Explained settings (Why fault) why → IfOk reported
      (λ text. text.items ≡ fault_text fault ++ why)
      → IsFaultReported HasFault Why settings (text_reported reported) (code_reported reported false)
  reports_fault fault why (Ok text) is other explained t = rw t (has_fault fault why is other explained)
  reports_fault fault why (Err e) is other explained t = has_no_memory

  module _ {Open : Type 0} {WhyNoted : Option (List ℕ) → Said → List ℕ → Type 0} {AreHints : List ℕ → Type 0}
      {IsOpen : List Said → Option Open → Type 0} (held : Option Open) (empty : held ≡ None)
      (reported : Result (Vec ℕ Global) E) where
    -- the fault is reported, and the slot stays empty
    pub opens_no_text : IsFaultReported HasFault Why settings (text_reported reported) (code_reported reported false)
        → IsOpening HasFault Why WhyNoted AreHints IsOpen settings (text_reported reported) held
        (code_reported reported (is_some held))
    opens_no_text is = rw empty (not_read (text_reported reported) (code_reported reported false) is)

    -- an allocation failed, and the slot stays empty
    pub opens_nothing : IsErr reported → IsOpening HasFault Why WhyNoted AreHints IsOpen settings
        (text_reported reported) held
        (code_reported reported (is_some held))
    opens_nothing failed = opens_no_text (reports_nothing reported failed)
