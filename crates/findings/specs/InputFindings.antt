-- The findings of messages on an input, and messages that are no findings.
use Rattle.std.specs.Prelude.{ℕ, List, [], ◌++◌, ◌||◌, Bool, Option, Some, None, codes, if◌then◌else◌}
use Rattle.std.specs.Str.{bytes_eq}
use Rattle.findings.specs.FindingTexts.{finding_text}
use Rattle.findings.specs.MessageParts.{after_front, after_number, number_continued}
use Rattle.findings.specs.MessageSorts.{starts_so}
use Rattle.findings.specs.declared.finding.Code.{Code}
use Rattle.findings.specs.declared.finding.Code.TheVariants.{Refused, TooLong}
use Rattle.findings.specs.declared.finding.Location.{Location}
use Rattle.findings.specs.declared.finding.Severity.TheVariants.{Error}
use Rattle.findings.specs.declared.form.FindingForm.{FindingForm}
use Rattle.findings.specs.declared.rejected.Rejected.{Rejected}

-- a line or a text that is rejected: where, why, and what that is about
pub record RejectedAt : Type 0 where
  pub location : Location
  pub what : List ℕ
  pub about : Code

-- what the code's rejection stands for
abbrev pub rejected_at : Rejected → RejectedAt
rejected_at r = record { location = r.location; what = r.what.now; about = r.code }

abbrev pub rejection : ℕ → ℕ → Code → List ℕ → Option RejectedAt
rejection line column about what =
    Some (record { location = record { line = line; column = column }; what = what; about = about })

abbrev pub rejected_if : ℕ → ℕ → Code → Option (List ℕ) → Option RejectedAt
rejected_if line column about None = None
rejected_if line column about (Some what) = rejection line column about what

-- a line has more bytes, or needs more items, than are allowed
abbrev pub exceeds : List ℕ → Bool
exceeds rest = starts_so rest (codes " longer than ") || starts_so rest (codes " needs more than ")

-- a line that ends too early, one that exceeds a bound, or one that is rejected for another reason
abbrev pub at_end_or : ℕ → List ℕ → Option (List ℕ) → Option RejectedAt
at_end_or line rest (Some what) = rejection line 1 Refused what
at_end_or line rest None = if exceeds rest then rejected_if line 1 TooLong (after_front (codes " ") rest)
    else rejected_if line 1 Refused (after_front (codes ": ") rest)

-- a line that is rejected at a letter, or else
abbrev pub at_letter_or : ℕ → List ℕ → Option (List ℕ) → Option RejectedAt
at_letter_or line rest (Some after) =
    rejected_if line (number_continued 0 after) Refused (after_front (codes ": ") (after_number after))
at_letter_or line rest None = at_end_or line rest (after_front (codes " ends too early: ") rest)

-- the rejection of the line of that number, which a message reports after the number
abbrev pub rejection_after : ℕ → List ℕ → Option RejectedAt
rejection_after line rest = at_letter_or line rest (after_front (codes ", letter ") rest)

abbrev pub rejected_from : Option (List ℕ) → Option RejectedAt
rejected_from None = None
rejected_from (Some bytes) = rejection_after (number_continued 0 bytes) (after_number bytes)

-- the rejection that a message reports, if it reports one
abbrev pub rejected_head : List ℕ → Option RejectedAt
rejected_head head = if bytes_eq head (codes "grammar too long") then rejection 1 1 TooLong head
    else rejected_from (after_front (codes "line ") head)

-- the finding of a rejection
abbrev pub rejected_text : FindingForm → List ℕ → RejectedAt → List ℕ
rejected_text form file r = finding_text form file
    (record { location = r.location; severity = Error; message = r.what; about = r.about }) []

-- a message that is no finding
abbrev pub plain_text : List ℕ → List ℕ → List ℕ
plain_text file head = file ++ codes ": " ++ head ++ codes "\n"
