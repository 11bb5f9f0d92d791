use Rattle.std.proofs.Common.{◌≡◌, ◌++◌, [], map, take, slice_index_or}
use Rattle.ruletable.specs.Rules.{names_of}
use Rattle.abnfexplain.specs.ChainLines.{names_after}
use Rattle.abnfexplain.proofs.chain_lines.push_after.Given as goal

abbrev pub invariant-loop-id : goal.invariant-loop-id
invariant-loop-id l = l.out.items ≡ l.fn.out.items
    ++ names_after (map (λ id. slice_index_or (names_of l.names) id []) (take l.id-index l.ids))
