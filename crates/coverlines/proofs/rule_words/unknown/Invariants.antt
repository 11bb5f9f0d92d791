-- So many times nothing.
use Rattle.std.proofs.Common.{◌≡◌, None, replicate}
use Rattle.coverlines.proofs.rule_words.unknown.Given as goal

abbrev pub invariant-loop : goal.invariant-loop
invariant-loop l = l.known.items ≡ replicate l.counter None
