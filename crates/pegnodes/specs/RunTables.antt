-- Tables of what each byte decides of a node, and runs of bytes that it takes.
use Rattle.std.specs.Prelude.{◌≡◌, ℕ, ◌+◌, ◌-◌, ◌*◌, ◌<◌, ◌≤◌, Bool, List, Option, slice_get, Some, None}
use Rattle.pegnodes.specs.ByByte.{ByByte, AreIterations}
use Rattle.pegnodes.specs.Nodes.{Shape}
use Rattle.pegnodes.specs.declared.by_byte.Decided.{Decided}
use Rattle.pegnodes.specs.declared.by_byte.ByteVerdict.{ByteVerdict}
use Rattle.pegnodes.specs.declared.by_byte.ByteVerdict.TheVariants.{Takes, Stays, Fails}
use Rattle.pegnodes.specs.declared.run_table.Run.{Run}
use Rattle.pegnodes.specs.declared.run_table.StopByte.{StopByte}

-- the entry of a byte, if it has one, is what the byte decides of node n
abbrev pub IsTable : List Shape → List ℕ → (ℕ → Bool) → (ℕ → ℕ → Bool) → ℕ → List (Option Decided) → Type 0
IsTable nodes bodies marks tails n entries = (b : ℕ) (d : Decided) → slice_get entries b ≡ Some (Some d)
    → ByByte nodes bodies marks tails b n d.verdict d.count

-- how many evaluations an iteration of a repetition over such a byte is, or 0 if the byte is not taken
abbrev pub evals_by : ByteVerdict → ℕ → ℕ
evals_by Takes count = count + 1
evals_by Stays count = 0
evals_by Fails count = 0

abbrev pub iteration_evals : Option (Option Decided) → ℕ
iteration_evals (Some (Some d)) = evals_by d.verdict d.count
iteration_evals (Some None) = 0
iteration_evals None = 0

-- each byte but this one is taken, with so many evaluations
abbrev pub OthersTake : List (Option Decided) → ℕ → ℕ → Type 0
OthersTake entries byte evals = (b : ℕ) → b < 256 → (b ≡ byte → ⊥) → iteration_evals (slice_get entries b) ≡ evals

-- there is one byte alone that is not taken
abbrev pub IsStop : List (Option Decided) → Option StopByte → Type 0
IsStop entries stop = (s : StopByte) → stop ≡ Some s → (iteration_evals (slice_get entries s.byte) ≡ 0) × (0 < s.evals)
    × OthersTake entries s.byte s.evals

module _ (entries : List (Option Decided)) (x : List ℕ) (from : ℕ) where
  -- the bytes up to this position are taken
  abbrev pub IterationsTo : ℕ → ℕ → Type 0
  IterationsTo to evals = (nodes : List Shape) (bodies : List ℕ) (marks : ℕ → Bool) (tails : ℕ → ℕ → Bool) (k : ℕ)
      → IsTable nodes bodies marks tails k entries → AreIterations nodes bodies x marks tails k from (to - from) evals

  -- The bytes from position `from` on are taken up to the run's end. That is position `to`, or a byte stands there that
  -- is not known to be taken.
  pub record IsRun (to : ℕ) (run : Run) : Type 0 where
    pub low : from ≤ run.end
    pub high : run.end ≤ to
    pub iterations : IterationsTo run.end run.evals
    pub ends : run.end < to → (b : ℕ) → slice_get x run.end ≡ Some b → iteration_evals (slice_get entries b) ≡ 0

-- The run goes on to this byte, or to position `to`; each byte before is so many evaluations.
pub record IsRunTo (stop : StopByte) (x : List ℕ) (from to : ℕ) (run : Run) : Type 0 where
  pub low : from ≤ run.end
  pub high : run.end ≤ to
  pub before : (i : ℕ) → from ≤ i → i < run.end → slice_get x i ≡ Some stop.byte → ⊥
  pub ends : run.end < to → (b : ℕ) → slice_get x run.end ≡ Some b → b ≡ stop.byte
  pub evals : run.evals ≡ (run.end - from) * stop.evals
