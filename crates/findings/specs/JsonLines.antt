-- Findings as JSON (RFC 8259), an object a line.
use Rattle.std.specs.Prelude.{ℕ, List, [], ◌∷◌, ◌++◌, codes, decimal, flat_map}
use Rattle.std.specs.Str.Lossy.{utf8_lossy}
use Rattle.json.specs.Print.{print}
use Rattle.json.specs.Token.{Token, begin_object, end_object, begin_array, end_array, key, string, number}
use Rattle.findings.specs.Findings.{FoundAt, FurtherAt, name_of_code, name_of_severity}
use Rattle.findings.specs.declared.finding.Location.{Location}

-- the members of a position
abbrev pub location_tokens : Location → List Token
location_tokens location = key (codes "line") ∷ number (decimal location.line)
    ∷ key (codes "column") ∷ number (decimal location.column) ∷ []

-- the member of a message; bytes that are not UTF-8 are replaced
abbrev pub message_tokens : List ℕ → List Token
message_tokens message = key (codes "message") ∷ string (utf8_lossy message) ∷ []

-- the object of a further position
abbrev pub further_tokens : FurtherAt → List Token
further_tokens f = begin_object ∷ location_tokens f.location ++ message_tokens f.report ++ end_object ∷ []

-- the members that say how grave a finding is, what it is about, and what it says
abbrev pub words_tokens : FoundAt → List Token
words_tokens f = key (codes "severity") ∷ string (name_of_severity f.severity)
    ∷ key (codes "code") ∷ string (name_of_code f.about) ∷ message_tokens f.message

-- the members of a finding in that file, but for its further positions
abbrev pub head_tokens : List ℕ → FoundAt → List Token
head_tokens file f = key (codes "file") ∷ string file ∷ location_tokens f.location ++ words_tokens f

-- the object of a finding
abbrev pub finding_tokens : List ℕ → FoundAt → List FurtherAt → List Token
finding_tokens file f further = begin_object ∷ head_tokens file f ++ key (codes "notes") ∷ begin_array
    ∷ flat_map further_tokens further ++ end_array ∷ end_object ∷ []

-- .. and its line
abbrev pub json_line : List ℕ → FoundAt → List FurtherAt → List ℕ
json_line file f further = print (finding_tokens file f further) ++ codes "\n"
