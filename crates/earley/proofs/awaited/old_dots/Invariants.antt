use Rattle.earley.proofs.OldDotsLemmas.{IsOldWork}
use Rattle.earley.proofs.awaited.old_dots.Given as goal

abbrev pub invariant-loop : goal.invariant-loop
invariant-loop l = IsOldWork l.tables l.n l.older l.dots l.old.items l.entered.items l.count
