-- A feed: the bytes of a reader from a position on, as many as are held.
use Rattle.std.specs.Prelude.{◌≡◌, ℕ, ◌+◌, ◌<◌, ◌⊎◌, ◌++◌, Bool, true, false, List, [], length, Option}
use Rattle.std.specs.Borrow.{MutBor}
use Rattle.std.specs.Io.KnownBytes.{Consumes, IsAtEnd}
use Rattle.feed.specs.declared.feed.Feed.{Feed}
use Rattle.feed.specs.declared.held.Flow.{Flow}
use Rattle.feed.specs.declared.held.Flow.TheVariants.{Open, Ended, Broken}
use Rattle.feed.specs.declared.held.Held.{Held}
use Rattle.feed.specs.declared.held.Held.TheVariants.{Full, End, Fault}

-- After so many bytes of input no more is asked for.
abbrev pub input_limit : ℕ
input_limit = 9223372036854775807

-- the bytes that a feed holds
abbrev pub bytes_of : {R : Type 0} → Feed R → List ℕ
bytes_of f = f.ring.items

-- how many it may hold
abbrev pub capacity_of : {R : Type 0} → Feed R → ℕ
capacity_of f = f.ring.capacity

-- how many more its reader may be asked for
abbrev pub allowance_of : {R : Type 0} → Feed R → ℕ
allowance_of f = f.left

-- what is to come of its reader
abbrev pub flow_of : {R : Type 0} → Feed R → Flow
flow_of f = f.flow

-- its reader, as it was lent and as it is now
abbrev pub loan_of : {R : Type 0} → Feed R → MutBor R
loan_of f = f.reader

abbrev pub reader_of : {R : Type 0} → Feed R → R
reader_of f = f.reader.now

-- both have one loan of the reader
abbrev pub SameLoan : {R : Type 0} → Feed R → Feed R → Type 0
SameLoan old new = new.reader.ghost_name ≡ old.reader.ghost_name

-- A feed has grown by the bytes that the reader gave since. If that had ended or broken before, it was not asked.
pub record Grows {R : Type 0} (remaining : R → Option (List ℕ)) (old new : Feed R) : Type 0 where
  pub more : List ℕ
  pub bytes : bytes_of new ≡ bytes_of old ++ more
  pub gives : Consumes (remaining (reader_of old)) (remaining (reader_of new)) more
  pub allowance : allowance_of new + length more ≡ allowance_of old
  pub capacity : capacity_of new ≡ capacity_of old
  pub stays : (flow_of old ≡ Open) ⊎ ((flow_of new ≡ flow_of old) × (more ≡ []) × (reader_of new ≡ reader_of old))

-- What is to come is what the reader reported: its end, its failure, or that it gave as much as an input may have.
abbrev pub IsReportedBy : Option (List ℕ) → Bool → Bool → ℕ → Flow → Type 0
IsReportedBy remaining failed ended allowance Open = (failed ≡ false) × (ended ≡ false)
IsReportedBy remaining failed ended allowance Ended = (failed ≡ false) × (ended ≡ true) × IsAtEnd remaining
    × (0 < allowance)
IsReportedBy remaining failed ended allowance Broken = (failed ≡ true) ⊎ ((failed ≡ false) × (allowance ≡ 0))

-- A feed says of its reader what that reported.
abbrev pub IsTrueOfReader : {R : Type 0} → (R → Option (List ℕ)) → (R → Bool) → (R → Bool) → Feed R → Type 0
IsTrueOfReader remaining failed ended f = IsReportedBy (remaining (reader_of f)) (failed (reader_of f))
    (ended (reader_of f)) (allowance_of f) (flow_of f)

-- Why a feed holds no more: it is full, or the reader ended or broke before.
abbrev pub IsHeld : {R : Type 0} → Feed R → Held → Type 0
IsHeld f Full = length (bytes_of f) ≡ capacity_of f
IsHeld f End = (flow_of f ≡ Ended) × (length (bytes_of f) < capacity_of f)
IsHeld f Fault = (flow_of f ≡ Broken) × (length (bytes_of f) < capacity_of f)

-- the same bytes over the same reader
pub record SameFeed {R : Type 0} (old new : Feed R) : Type 0 where
  pub bytes : bytes_of new ≡ bytes_of old
  pub capacity : capacity_of new ≡ capacity_of old
  pub flow : flow_of new ≡ flow_of old
  pub allowance : allowance_of new ≡ allowance_of old
  pub reader : reader_of new ≡ reader_of old
  pub loan : SameLoan old new
