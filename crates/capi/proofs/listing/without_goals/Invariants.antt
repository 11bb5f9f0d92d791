use Rattle.std.proofs.Common.{◌≡◌, ◌++◌}
use Rattle.capi.specs.LineLists.{symbols_of}
use Rattle.coverlines.specs.CoverLines.{line_items}
use Rattle.std.specs.Vec.Iter.{into_iter_items}
use Rattle.capi.proofs.listing.without_goals.Given as goal

abbrev pub invariant-loop-line : goal.invariant-loop-line
invariant-loop-line l = symbols_of l.all.items ++ line_items (into_iter_items l.line-iterator)
    ≡ line_items l.fn.lines.items
