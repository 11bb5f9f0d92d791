-- The lines so far have as many symbols.
use Rattle.std.proofs.Common.{◌≤◌, length}
use Rattle.std.specs.List.{AllWithin}
use Rattle.coverlines.proofs.cover.longer_count.Given as goal

abbrev pub invariant-loop-i : goal.invariant-loop-i
invariant-loop-i l = AllWithin (λ line. l.len ≤ length line.line.items) l.lines 0 l.i
