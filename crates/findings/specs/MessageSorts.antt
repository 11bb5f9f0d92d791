-- The sorts of messages on a grammar that reads.
use Rattle.std.specs.Prelude.{ℕ, ◌==◌, Bool, List, Option, Some, None, codes, if◌then◌else◌}
use Rattle.std.specs.List.{starts_with, ends_with}
use Rattle.findings.specs.declared.finding.Code.{Code}
use Rattle.findings.specs.declared.finding.Code.TheVariants as code
use Rattle.findings.specs.declared.sorts.Rank.{Rank}
use Rattle.findings.specs.declared.sorts.Rank.TheVariants.{Rejects, Warns, RejectsIfReached}
use Rattle.findings.specs.declared.sorts.Sort.{Sort}

abbrev pub sort : Code → Rank → Option Sort
sort about rank = Some (record { code = about; rank = rank })

abbrev pub starts_so : List ℕ → List ℕ → Bool
starts_so head front = starts_with (λ a b. a == b) head front

abbrev pub ends_so : List ℕ → List ℕ → Bool
ends_so head back = ends_with (λ a b. a == b) head back

-- the sort of a message on a rule, by what is said after its name
abbrev pub sort_by_end : List ℕ → Option Sort
sort_by_end head =
    if ends_so head (codes "' redefined") then sort code.Redefined Rejects else
    if ends_so head (codes "' used but not defined") then sort code.Undefined RejectsIfReached else
    if ends_so head (codes "' defined but not used") then sort code.Unused Warns else
    if ends_so head (codes "' extended before it is defined") then sort code.Extended Warns else
    if ends_so head (codes "' derives nothing") then sort code.DerivesNothing Warns else
    if ends_so head (codes "' derives no line") then sort code.NoLine Warns else None

-- the sort of a message
abbrev pub sort_of : List ℕ → Option Sort
sort_of head =
    if starts_so head (codes "rule '") then sort_by_end head else
    if starts_so head (codes "prose in rule '") then sort code.Prose RejectsIfReached else
    if starts_so head (codes "possible infinite left recursion in rule '") then sort code.LeftRecursion Rejects else
    if starts_so head (codes "possible infinite loop in rule '") then sort code.Loop Rejects else
    if starts_so head (codes "reversed numbers in rule '") then sort code.Reversed Warns else
    if starts_so head (codes "alternative never taken in rule '") then sort code.NeverTaken Warns else
    if starts_so head (codes "action holds a definition in rule '") then sort code.HeldDefinition Warns else
    if starts_so head (codes "\">\" without \"<\" in rule '") then sort code.NoBegin Warns else None
