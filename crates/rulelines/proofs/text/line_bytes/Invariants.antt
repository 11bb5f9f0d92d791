use Rattle.std.proofs.Common.{◌≡◌, take}
use Rattle.rulelines.specs.LineBytes.{line_bytes}
use Rattle.rulelines.proofs.text.line_bytes.Given as goal

abbrev pub invariant-loop-symbol : goal.invariant-loop-symbol
invariant-loop-symbol l = l.bytes.items ≡ line_bytes l.alphabet (take l.symbol-index l.line)
