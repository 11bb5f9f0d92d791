-- What is reported of the ranges so far.
use Rattle.std.proofs.Common.{◌≡◌, ◌++◌, map, take}
use Rattle.std.specs.List.{flat_map}
use Rattle.abnfhints.specs.AbnfHints.{reversed_reported}
use Rattle.diagnostics.specs.BodyMentions.{mentioned_at}
use Rattle.diagnostics.specs.DefinitionHeads.{defined_at}
use Rattle.abnfhints.proofs.reversed.push_each_reversed.Given as goal

abbrev pub invariant-loop-mention : goal.invariant-loop-mention
invariant-loop-mention l = l.out.items ≡ l.fn.out.items ++ flat_map
    (reversed_reported (map defined_at l.positions.heads.items))
    (map (λ m. mentioned_at m.now) (take l.mention-index l.mentions))
