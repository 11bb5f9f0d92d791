use Rattle.std.proofs.Common.{◌≡◌, map, drop}
use Rattle.diagnostics.specs.FactRows.{row_of}
use Rattle.diagnostics.specs.FirstBytes.{first_fact}
use Rattle.diagnostics.proofs.picture.facts.find_fact.Given as goal

abbrev pub invariant-loop-fact : goal.invariant-loop-fact
invariant-loop-fact l = first_fact (map row_of (drop l.fact-index l.facts)) l.text
    ≡ first_fact (map row_of l.facts) l.text
