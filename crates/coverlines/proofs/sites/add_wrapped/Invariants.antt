-- The sites so far.
use Rattle.std.proofs.Common.{◌≡◌, ◌++◌, map, take}
use Rattle.coverlines.specs.Sites.{stood_in, stood_of}
use Rattle.coverlines.proofs.sites.add_wrapped.Given as goal

abbrev pub invariant-loop-site : goal.invariant-loop-site
invariant-loop-site l = map stood_of l.found.items ≡ map stood_of l.fn.found.items
    ++ map (stood_in l.outer.before.items l.outer.after.items) (map stood_of (take l.site-index l.inner))
