-- The pairs of the rules so far.
use Rattle.abnfread.specs.AbnfViews.{rules_of}
use Rattle.abnfd.specs.UnchangedRules.{ArePairsTo}
use Rattle.abnfd.proofs.alike.Pairing.are_pairs_alike.Given as goal

abbrev pub invariant-loop-id : goal.invariant-loop-id
invariant-loop-id l = ArePairsTo (rules_of l.self.old.now) (rules_of l.self.new.now) l.self.partners.now l.id
