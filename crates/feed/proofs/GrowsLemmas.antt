-- How a feed grows, call by call.
-- Serves: Feed::fill, run_lines, run_peg (right)
use Rattle.std.proofs.Common.{◌≡◌, ℕ, ◌+◌, ◌-◌, ◌<◌, ◌≤◌, Option, Some, None, List, [], refl, arith}
use Rattle.std.specs.Io.KnownBytes.{Consumes}
use Rattle.feed.specs.declared.held.Flow.{Flow}
use Rattle.feed.specs.declared.held.Flow.TheVariants.{Open, Ended, Broken}

-- whether a reader may still be asked
abbrev pub open_count : Flow → ℕ
open_count Open = 1
open_count Ended = 0
open_count Broken = 0

-- a read gives bytes, or is the last one
pub read_falls : (room old new : ℕ) (was is : Flow) → was ≡ Open → old < room → old ≤ new → (is ≡ Open → old < new)
    → (room - new) + open_count is < (room - old) + open_count was
read_falls room old new was Open may fits le goes = rw may (let more : old < new = goes refl in omega arith)
read_falls room old new was Ended may fits le goes = rw may (omega arith)
read_falls room old new was Broken may fits le goes = rw may (omega arith)

-- none of the bytes
pub Consumes-same : (a : Option (List ℕ)) → Consumes a a []
Consumes-same None = tt
Consumes-same (Some a) = refl
