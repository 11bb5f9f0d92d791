-- Whether all are made of prose is decided by those that are left.
use Rattle.std.proofs.Common.{◌≡◌, drop}
use Rattle.abnfread.specs.AbnfViews.{elements_of}
use Rattle.abnftexts.specs.OnlyProse.{all_prose}
use Rattle.abnftexts.proofs.join.only_prose.+looking.Given as goal

abbrev pub invariant-are_only_prose-loop-member : goal.invariant-are_only_prose-loop-member
invariant-are_only_prose-loop-member l = all_prose (elements_of l.members)
    ≡ all_prose (elements_of (drop l.member-index l.members))
