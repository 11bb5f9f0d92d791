use Rattle.std.proofs.Common.{◌≡◌, ◌++◌, ◌==◌, not, length}
use Rattle.std.specs.List.{filter}
use Rattle.abnfblocks.proofs.rfctext.xml_text.push_unmarked.Given as goal

abbrev pub invariant-loop-first : goal.invariant-loop-first
invariant-loop-first l = l.out.items ++ filter (λ b. not (b == 1)) l.rest
    ≡ l.initial.out.items ++ filter (λ b. not (b == 1)) l.part

abbrev pub decreases-loop-first : goal.decreases-loop-first
decreases-loop-first l = length l.rest
