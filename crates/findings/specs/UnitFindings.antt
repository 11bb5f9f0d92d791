-- The findings of units at which a run ends, and of records that are rejected.
use Rattle.std.specs.Prelude.{ℕ, ◌==◌, List, [], ◌∷◌, Option, Some, None, codes, if◌then◌else◌}
use Rattle.findings.specs.InputFindings.{RejectedAt}
use Rattle.findings.specs.MessageParts.{after_front, after_number, number_continued}
use Rattle.findings.specs.MessageSorts.{starts_so}
use Rattle.findings.specs.declared.finding.Code.{Code}
use Rattle.findings.specs.declared.finding.Code.TheVariants.{NoMatch, Refused, TooLong}
use Rattle.findings.specs.declared.finding.Location.{Location}

abbrev pub location_if : ℕ → Option (List ℕ) → Option Location
location_if line None = None
location_if line (Some bytes) = Some (record { line = line; column = number_continued 0 bytes })

-- the position of which the line begins the bytes, and the column follows it
abbrev pub location_begun : List ℕ → Option Location
location_begun bytes = location_if (number_continued 0 bytes) (after_front (codes ", column ") (after_number bytes))

abbrev pub begun_if : Option (List ℕ) → Option Location
begun_if None = None
begun_if (Some bytes) = location_begun bytes

abbrev pub location_after_byte : Option (List ℕ) → Option Location
location_after_byte None = None
location_after_byte (Some bytes) = begun_if (after_front (codes ", line ") (after_number bytes))

abbrev pub begin_or : List ℕ → Option (List ℕ) → Option Location
begin_or l None = location_after_byte (after_front (codes "  byte ") l)
begin_or l (Some bytes) = location_begun bytes

-- the position that an explaining line gives: where a unit that is too long begins, or that of the farthest failure
abbrev pub location_in : List ℕ → Option Location
location_in l = begin_or l (after_front (codes "  the unit begins on line ") l)

abbrev pub location_or : Option Location → Option Location → Option Location
location_or None other = other
location_or (Some location) other = Some location

-- the first position that the lines give
abbrev pub first_location : List (List ℕ) → Option Location
first_location [] = None
first_location (l ∷ ls) = location_or (location_in l) (first_location ls)

-- what a message on a unit is about: it does not match, it is too long, or what it prints is
abbrev pub code_of_unit : List ℕ → Option Code
code_of_unit head =
    if starts_so head (codes "no match at byte ") then Some NoMatch else
    if starts_so head (codes "unit at byte ") then Some TooLong else None

-- the position, or that of what has none
abbrev pub location_given : Option Location → Location
location_given None = record { line = 1; column = 1 }
location_given (Some location) = location

abbrev pub unit_if : List ℕ → List (List ℕ) → Option Code → Option RejectedAt
unit_if head more None = None
unit_if head more (Some about) =
    Some (record { location = location_given (first_location more); what = head; about = about })

-- the position in the record of that number, which a message reports after the number; the lines of the first record
-- are those of the input
abbrev pub location_in_record : ℕ → List ℕ → Location
location_in_record number rest =
    location_given (if number == 1 then begun_if (after_front (codes ", line ") rest) else None)

abbrev pub record_or : List ℕ → List (List ℕ) → Option (List ℕ) → Option RejectedAt
record_or head more None = unit_if head more (code_of_unit head)
record_or head more (Some bytes) = Some (record {
  location = location_in_record (number_continued 0 bytes) (after_number bytes);
  what = head;
  about = Refused;
})

-- the unit at which a run ends, or the record that is rejected, if a message reports one, which these lines explain
abbrev pub unit_of_head : List ℕ → List (List ℕ) → Option RejectedAt
unit_of_head head more = record_or head more (after_front (codes "record ") head)
