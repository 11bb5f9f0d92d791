use Rattle.std.proofs.Common.{take}
use Rattle.abnfread.specs.AbnfViews.{elements_of, rules_of}
use Rattle.ruletable.specs.Letters.{has}
use Rattle.lowering.specs.Pruned.{KeepsAll, KeepsSome}
use Rattle.lowering.proofs.pruned.+pruning.Given as goal

abbrev pub invariant-prune_concat-loop-member : goal.invariant-prune_concat-loop-member
invariant-prune_concat-loop-member l =
    KeepsAll (has l.alphabet) (rules_of l.rules) (elements_of (take l.member-index l.members))
    (elements_of l.kept.items)

abbrev pub invariant-prune_alt-loop-alternative : goal.invariant-prune_alt-loop-alternative
invariant-prune_alt-loop-alternative l =
    KeepsSome (has l.alphabet) (rules_of l.rules) (elements_of (take l.alternative-index l.alternatives))
    (elements_of l.kept.items)
