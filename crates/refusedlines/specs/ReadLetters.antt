-- The symbols that items read at their dotted rules.
use Rattle.std.specs.Prelude.{ℕ, ◌↔◌, ◌⊎◌, List, slice_get, Option, Some, None}
use Rattle.flatgrammar.specs.Flat.{Flat, Node, Set}
use Rattle.flatgrammar.specs.NodeSteps.{IfSomeSet, read_at}
use Rattle.flatgrammar.specs.Positions.{In}
use Rattle.flatgrammar.specs.declared.closure.DottedRule.{DottedRule}
use Rattle.refusedlines.specs.LetterRuns.{RunsHave}
use Rattle.refusedlines.specs.declared.letterruns.run.LetterRun.{LetterRun}

-- the set that a step of a node reads, if there is such a node
abbrev pub read_by : Option Node → ℕ → Option Set
read_by None k = None
read_by (Some node) k = read_at node k

-- a dotted rule reads a symbol
abbrev pub DotReads : Flat → DottedRule → ℕ → Type 0
DotReads flat s c = IfSomeSet (read_by (slice_get flat.nodes s.node) s.step) c

-- one of the dotted rules reads a symbol
pub record DotsRead (flat : Flat) (dots : List DottedRule) (c : ℕ) : Type 0 where
  pub dot : DottedRule
  pub stands : In dot dots
  pub reads : DotReads flat dot c

-- runs got the numbers of Q
abbrev pub GainLetters : (ℕ → Type 0) → List LetterRun → List LetterRun → Type 0
GainLetters Q old new = (c : ℕ) → RunsHave new c ↔ (RunsHave old c ⊎ Q c)
