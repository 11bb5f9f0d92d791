-- The rows of the code.
use Rattle.diagnostics.specs.declared.picture.facts.Fact.{Fact}
use Rattle.diagnostics.specs.FirstBytes.{Row}

-- what the code's row stands for
abbrev pub row_of : Fact → Row
row_of f = record { begins = f.begins.now; reported = f.reported.now }
