use Rattle.flatgrammar.proofs.AreClassesLemmas.{bound_added}
use Rattle.flatgrammar.proofs.bounds.push_bound.Goals as goal

pub returns-then-number-lt256 : goal.returns-then-number-lt256
returns-then-number-lt256 c =
    bound_added c.args.bounds.now.numbers.items c.push.new.self.items c.args.number c.in_ok-push.ensures.items

pub returns-else-number-lt256 : goal.returns-else-number-lt256
returns-else-number-lt256 c =
    bound_added c.args.bounds.now.numbers.items c.push.new.self.items c.args.number c.in_ok-push.ensures.items
