use Rattle.std.proofs.Common.{◌≡◌, ◌++◌, replicate}
use Rattle.diagnostics.proofs.picture.caret.push_blanks.Given as goal

abbrev pub invariant-loop-i : goal.invariant-loop-i
invariant-loop-i l = l.out.items ≡ l.fn.out.items ++ replicate l._i 32
