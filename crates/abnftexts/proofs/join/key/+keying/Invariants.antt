use Rattle.std.proofs.Common.{◌≡◌, ◌++◌, ◌∷◌, drop}
use Rattle.abnfread.specs.AbnfViews.{elements_of}
use Rattle.abnftexts.specs.RuleKeys.{members_key}
use Rattle.abnftexts.proofs.join.key.+keying.Given as goal

-- the keys of the elements to come complete those so far
abbrev pub invariant-push_members-loop-member : goal.invariant-push_members-loop-member
invariant-push_members-loop-member l = l.key.items ++ members_key (elements_of (drop l.member-index l.members))
    ≡ l.fn.key.items ++ l.mark ∷ members_key (elements_of l.members)
