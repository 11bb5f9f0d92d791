-- The bytes that are left decide.
use Rattle.std.proofs.Common.{◌≡◌, drop}
use Rattle.coverlines.specs.MissedGoals.{has_letters}
use Rattle.coverlines.proofs.ways.has_letters.Given as goal

abbrev pub invariant-loop-byte : goal.invariant-loop-byte
invariant-loop-byte l = has_letters l.text ≡ has_letters (drop l.byte-index l.text)
