-- Findings in each form.
use Rattle.std.specs.Prelude.{ℕ, List}
use Rattle.findings.specs.Findings.{FoundAt, FurtherAt}
use Rattle.findings.specs.GccLines.{gcc_finding}
use Rattle.findings.specs.JsonLines.{json_line}
use Rattle.findings.specs.declared.form.FindingForm.{FindingForm}
use Rattle.findings.specs.declared.form.FindingForm.TheVariants.{Gcc, Json}

-- a finding in a file of that name, with its further positions
abbrev pub finding_text : FindingForm → List ℕ → FoundAt → List FurtherAt → List ℕ
finding_text Gcc = gcc_finding
finding_text Json = json_line
