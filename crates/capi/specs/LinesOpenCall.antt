-- What a call that opens a grammar for lines leaves.
use Rattle.std.specs.Prelude.{◌≡◌, ℕ, List, Some, None}
use Rattle.capi.specs.Asking.{AbnfMeant, seed_asked}
use Rattle.capi.specs.BufferRun.{Filled, IsUntouched}
use Rattle.capi.specs.LineLists.{IsLinesOpening, kind_by}
use Rattle.capi.specs.OpenCall.{IsOpenCall, Slot}
use Rattle.capi.specs.declared.asked.CSettings.{CSettings}
use Rattle.capi.specs.declared.listing.ListKind.{ListKind}
use Rattle.capi.specs.declared.listing.Listing.{Listing}

-- The number asks for lines of a kind, and the text is opened for these, as any call opens one. Or it asks for none,
-- and nothing was done.
pub data IsLinesOpenCall (which : ℕ) (asked : CSettings) (grammar name : List ℕ) (slot : Slot Listing) (err : Filled)
    (code : ℕ) : Type 0 where
  of_kind : (kind : ListKind) → kind_by which (seed_asked asked) ≡ Some kind
      → IsOpenCall AbnfMeant (λ settings. IsLinesOpening kind grammar settings) asked name slot err code
      → IsLinesOpenCall which asked grammar name slot err code
  of_none : kind_by which (seed_asked asked) ≡ None → slot.new ≡ slot.old → IsUntouched err → code ≡ 6
      → IsLinesOpenCall which asked grammar name slot err code
