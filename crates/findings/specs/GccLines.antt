-- Findings in the form of gcc's diagnostics.
use Rattle.std.specs.Prelude.{ℕ, List, ◌++◌, codes, decimal, flat_map}
use Rattle.findings.specs.Findings.{FoundAt, FurtherAt, name_of_code, name_of_severity}
use Rattle.findings.specs.declared.finding.Code.{Code}
use Rattle.findings.specs.declared.finding.Location.{Location}
use Rattle.findings.specs.declared.finding.Severity.{Severity}
use Rattle.findings.specs.declared.finding.Severity.TheVariants.{Note}

-- a position in a file of that name, before the rest of a line
abbrev pub location_text : List ℕ → Location → List ℕ
location_text file location =
    file ++ codes ":" ++ decimal location.line ++ codes ":" ++ decimal location.column ++ codes ": "

-- the line of a finding, or of a further position of one
abbrev pub gcc_line : List ℕ → Location → Severity → List ℕ → Code → List ℕ
gcc_line file location severity message about =
    location_text file location ++ name_of_severity severity ++ codes ": " ++ message
    ++ codes " [" ++ name_of_code about ++ codes "]\n"

-- the line of a further position
abbrev pub gcc_further : List ℕ → Code → FurtherAt → List ℕ
gcc_further file about f = gcc_line file f.location Note f.report about

-- the line of a finding, and those of its further positions
abbrev pub gcc_finding : List ℕ → FoundAt → List FurtherAt → List ℕ
gcc_finding file f further = gcc_line file f.location f.severity f.message f.about
    ++ flat_map (gcc_further file f.about) further
