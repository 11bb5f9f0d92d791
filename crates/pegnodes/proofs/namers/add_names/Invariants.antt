use Rattle.std.proofs.Common.{◌≡◌, ℕ, List, Some}
use Rattle.std.specs.Prelude.{slice_get}
use Rattle.pegnodes.specs.Namers.{AreNamersTo}
use Rattle.pegnodes.proofs.namers.add_names.Given as goal

abbrev pub invariant-loop-named : goal.invariant-loop-named
invariant-loop-named l = (rows : List (List ℕ)) → slice_get rows l.n ≡ Some l.names
    → AreNamersTo rows l.n 0 l.initial.namers → AreNamersTo rows l.n l.named-index l.namers
