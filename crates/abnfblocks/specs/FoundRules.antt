-- The rules of lines, and the lines that begin a rule of which nothing reads.
use Rattle.std.specs.Prelude.{◌≡◌, ◌≢◌, ℕ, ◌+◌, ◌<◌, true, false, List, [], ◌∷◌, map, Option, None, Some}
use Rattle.std.specs.List.{enumerate_from, filter}
use Rattle.ruletable.specs.declared.fault.ReadFault.{ReadFault}
use Rattle.ruletable.specs.declared.fault.ReadFault.TheVariants as faults
use Rattle.abnfread.specs.AbnfReading.{Reads, IsFaultOf}
use Rattle.abnfread.specs.Element.{Definition}
use Rattle.abnfblocks.specs.TextLines.{NumberedLine}
use Rattle.abnfblocks.specs.RuleCuts.{opens_rule, first_rule, IsCut, cut_text, full_size}
use Rattle.abnfblocks.specs.declared.found.RuleSearch.{RuleSearch}
use Rattle.abnfblocks.specs.declared.found.RuleSearch.TheVariants as found

-- the text spells definitions, and keeps to the limits
abbrev pub IsAbnf : List ℕ → Type 0
IsAbnf text = (definitions : List Definition) × Reads text definitions

-- the text reads as ABNF, or has this fault
abbrev pub IsOutcome : List ℕ → Option ReadFault → Type 0
IsOutcome text None = IsAbnf text
IsOutcome text (Some fault) = IsFaultOf text fault × (fault ≢ faults.Memory)

-- So many lines of a rule are a cut that reads, and no longer cut reads.
pub record IsLongestCut (rule : List NumberedLine) (n : ℕ) : Type 0 where
  pub cut : IsCut rule n
  pub reads : IsAbnf (cut_text rule n)
  pub longest : (k : ℕ) → n < k → IsCut rule k → IsAbnf (cut_text rule k) → ⊥

-- No cut of a rule reads. Its lines up to the last one that is not blank, so many, have that fault.
pub record IsNoAbnf (rule : List NumberedLine) (n : ℕ) (fault : ReadFault) : Type 0 where
  pub none : (k : ℕ) → IsCut rule k → IsAbnf (cut_text rule k) → ⊥
  pub size : n ≡ full_size rule
  pub fault_is : IsOutcome (cut_text rule n) (Some fault)

-- What is found of the rule that has these lines, where the first one has that number in the list, from 0.
pub data IsFoundOf (i : ℕ) (rule : List NumberedLine) : RuleSearch → Type 0 where
  it_reads : {n : ℕ} → IsLongestCut rule n → IsFoundOf i rule (found.Rule i n)
  it_is_none : {n : ℕ} {fault : ReadFault} → IsNoAbnf rule n fault → IsFoundOf i rule (found.NotAbnf i n fault)

-- What is found among these lines, of which the first has that number: one thing for each line that begins a rule.
pub data AreFound : ℕ → List NumberedLine → List RuleSearch → Type 0 where
  none_left : {i : ℕ} → AreFound i [] []
  no_rule : {i : ℕ} {line : NumberedLine} {lines : List NumberedLine} {others : List RuleSearch}
      → opens_rule line ≡ false
      → AreFound (i + 1) lines others → AreFound i (line ∷ lines) others
  a_rule : {i : ℕ} {line : NumberedLine} {lines : List NumberedLine} {it : RuleSearch} {others : List RuleSearch}
      → opens_rule line ≡ true → IsFoundOf i (first_rule (line ∷ lines)) it → AreFound (i + 1) lines others
      → AreFound i (line ∷ lines) (it ∷ others)

-- the number of the line at which something is found
abbrev pub found_line : RuleSearch → ℕ
found_line (found.Rule first count) = first
found_line (found.NotAbnf first count fault) = first

-- the numbers of the lines that begin rules
abbrev pub rule_starts : ℕ → List NumberedLine → List ℕ
rule_starts i lines = map (λ p. p.0) (filter (λ p. opens_rule p.1) (enumerate_from i lines))

-- so many lines of a rule are a cut that reads
abbrev pub IsAbnfCut : List NumberedLine → ℕ → Type 0
IsAbnfCut rule n = IsCut rule n × IsAbnf (cut_text rule n)

-- n is 0 or a cut that reads, and none does of more lines and less than the limit
abbrev pub IsShorter : List NumberedLine → ℕ → ℕ → Type 0
IsShorter rule limit n = (0 < n → IsAbnfCut rule n) × ((k : ℕ) → n < k → k < limit → IsAbnfCut rule k → ⊥)
