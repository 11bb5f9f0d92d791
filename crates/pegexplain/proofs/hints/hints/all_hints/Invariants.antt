-- The hints on the rules so far.
use Rattle.std.proofs.Common.{◌≡◌, map, take}
use Rattle.pegread.specs.PegViews.{rules_of}
use Rattle.pegexplain.specs.CodeHints.{hint_found, known_literal, null_in, sure_in}
use Rattle.pegexplain.specs.PegHints.{hints_of}
use Rattle.pegexplain.proofs.hints.hints.all_hints.Given as goal

abbrev pub invariant-loop-id : goal.invariant-loop-id
invariant-loop-id l = map hint_found l.found.items
    ≡ hints_of (known_literal l.known) (sure_in l.known) (null_in l.known) (take l.id (rules_of l.known.rules.now))
