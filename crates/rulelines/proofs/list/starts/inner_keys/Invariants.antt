use Rattle.rulelines.specs.LineSets.{is_line_symbol}
use Rattle.rulelines.proofs.StartsLemmas.{HaveKeysTo}
use Rattle.rulelines.proofs.list.starts.inner_keys.Given as goal

abbrev pub invariant-loop-bound : goal.invariant-loop-bound
invariant-loop-bound l =
    HaveKeysTo (is_line_symbol l.inner.alphabet l.inner.terminator) l.bounds l.bound-index l.keys.items
