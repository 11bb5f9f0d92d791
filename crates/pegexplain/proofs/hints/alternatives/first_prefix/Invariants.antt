-- The first of those whose literals have one of the sizes so far.
use Rattle.std.proofs.Common.{◌≡◌, take}
use Rattle.pegexplain.specs.CodeHints.{alternatives_found, first_at}
use Rattle.pegexplain.proofs.HiddenBeforeLemmas.{is_prefix_sized}
use Rattle.pegexplain.proofs.hints.alternatives.first_prefix.Given as goal

abbrev pub invariant-loop-size : goal.invariant-loop-size
invariant-loop-size l = l.found ≡ first_at (is_prefix_sized l.whole (take l.size-index l.before.sizes.items))
    (alternatives_found l.before.all.items)
