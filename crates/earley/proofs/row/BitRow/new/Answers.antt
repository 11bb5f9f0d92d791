-- No word is kept.
use Rattle.std.proofs.Common.{ap, ◌∙◌}
use Rattle.earley.specs.RowMembers.{members}
use Rattle.earley.proofs.RowMembersLemmas.{no_members}
use Rattle.earley.proofs.row.BitRow.new.Goals as goal

pub returns : goal.returns
returns c = ap (λ v. members 0 v) c.new.ensures.items ∙ no_members 0
