-- What calls that list lines leave.
use Rattle.std.proofs.Common.{Global, Vec}
use Rattle.std.specs.Prelude.{◌≡◌, ℕ, length, Option, Some, None}
use Rattle.capi.specs.BufferRun.{laid}
use Rattle.capi.specs.CompareCall.{LineRoom}
use Rattle.capi.specs.LineLists.{IsNextListed}
use Rattle.capi.specs.declared.listing.CLine.{CLine}
use Rattle.capi.specs.declared.listing.LineList.{LineList}
use Rattle.capi.specs.declared.listing.Listing.{Listing}
use Rattle.rulelines.specs.LineBytes.{line_bytes}
use Rattle.rulelines.specs.declared.list.lines.NextLine.TheVariants.{Line, Done}

-- a status alone
abbrev pub c_line_status : ℕ → CLine
c_line_status code = record { len = 0; status = code }

-- The next line was laid into the buffer, as much of it as there is room for; or there is none. Or there are too many
-- states, or an allocation failed, and what the handle holds from then on is not said. Or nothing is open.
pub data IsLineCall (room : LineRoom) (reported : CLine) : Option Listing → Option Listing → Type 0 where
  gives : (old : Listing) (list left : LineList) (line : Vec ℕ Global) → old.list ≡ Some list
      → IsNextListed list old.last left (Line line) → room.new ≡ laid (line_bytes old.letters line.items) room.old
      → reported ≡ record { len = length (line_bytes old.letters line.items); status = 0 }
      → IsLineCall room reported (Some old) (Some (record {
        list = Some left;
        letters = old.letters;
        last = Some line;
      }))
  ends : (old : Listing) (list left : LineList) → old.list ≡ Some list → IsNextListed list old.last left Done
      → room.new ≡ room.old → reported ≡ c_line_status 1
      → IsLineCall room reported (Some old) (Some (record {
        list = Some left;
        letters = old.letters;
        last = old.last;
      }))
  too_many : (old new : Listing) → room.new ≡ room.old → reported ≡ c_line_status 3
      → IsLineCall room reported (Some old) (Some new)
  no_memory : (old new : Listing) → room.new ≡ room.old → reported ≡ c_line_status 5
      → IsLineCall room reported (Some old) (Some new)
  not_open : room.new ≡ room.old → reported ≡ c_line_status 6 → IsLineCall room reported None None
