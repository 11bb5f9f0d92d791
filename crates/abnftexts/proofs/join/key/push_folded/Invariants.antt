use Rattle.std.proofs.Common.{◌≡◌, ◌++◌, ◌∷◌, take}
use Rattle.std.specs.Str.{str_to_ascii_lowercase}
use Rattle.abnftexts.proofs.join.key.push_folded.Given as goal

abbrev pub invariant-loop-b : goal.invariant-loop-b
invariant-loop-b l = l.key.items ≡ l.fn.key.items ++ l.mark ∷ str_to_ascii_lowercase (take l.b-index l.text)
