use Rattle.std.proofs.Common.{◌≡◌, take}
use Rattle.ruletable.specs.Utf8Text.{numbers}
use Rattle.ruletable.specs.declared.alphabet.Alphabet.TheVariants.{Utf8}
use Rattle.refusedlines.specs.Refusals.{octet_count}
use Rattle.refusedlines.proofs.explained.octets_of.Given as goal

abbrev pub invariant-loop-point : goal.invariant-loop-point
invariant-loop-point l = l.count ≡ octet_count Utf8 (numbers (take l.point-index l.points))
