use Rattle.std.proofs.Common.{◌≡◌, map, take}
use Rattle.rulelines.specs.Samples.{symbol_of}
use Rattle.rulelines.proofs.samples.symbols_of.Given as goal

abbrev pub invariant-loop-key : goal.invariant-loop-key
invariant-loop-key l = l.symbols.items ≡ map symbol_of (take l.key-index l.keys)
