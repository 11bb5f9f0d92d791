use Rattle.std.proofs.Common.{◌≡◌, ◌++◌, take}
use Rattle.abnfd.specs.QuotedLines.{quoted_bytes}
use Rattle.abnfd.proofs.quoted.push_bytes.Given as goal

abbrev pub invariant-loop-byte : goal.invariant-loop-byte
invariant-loop-byte l = l.out.items ≡ l.fn.out.items ++ quoted_bytes (take l.byte-index l.bytes)
