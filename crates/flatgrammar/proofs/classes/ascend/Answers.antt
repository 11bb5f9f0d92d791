use Rattle.flatgrammar.proofs.AreClassesLemmas.{ascended_rise, ascended_more}
use Rattle.flatgrammar.proofs.classes.ascend.Goals as goal

pub returns-clause-ordered : goal.returns-clause-ordered
returns-clause-ordered c =
    ascended_rise c.sort_unstable.new.self.items c.dedup.new.self.items c.sort_unstable.ensures.sorted
    c.dedup.ensures.filtered

pub returns-clause-more : goal.returns-clause-more
returns-clause-more c =
    ascended_more c.args.bounds.now.items c.sort_unstable.new.self.items c.dedup.new.self.items
    c.sort_unstable.ensures.permutation c.dedup.ensures.filtered
