use Rattle.std.proofs.Common.{◌≡◌, ◌++◌}
use Rattle.abnftexts.specs.JoinedGrammar.{standing}
use Rattle.abnftexts.proofs.stands.kept_standing.Given as goal

-- what stands of the rest completes what stands so far
abbrev pub invariant-loop-it : goal.invariant-loop-it
invariant-loop-it g l = l.kept.items ++ standing l.left l.it-iterator.rest.items ≡ standing l.fates l.fn.all.items
