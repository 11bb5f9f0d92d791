-- No word is kept.
use Rattle.std.proofs.Common.{ap, ◌∙◌}
use Rattle.earley.specs.RowMembers.{members}
use Rattle.earley.proofs.RowMembersLemmas.{no_members}
use Rattle.earley.proofs.row.BitRow.clear.Goals as goal

pub returns : goal.returns
returns c = ap (λ v. members c.self.inside.first v) c.clear.ensures.items ∙ no_members c.self.inside.first
