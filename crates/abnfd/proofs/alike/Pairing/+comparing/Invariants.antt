-- All are alike if those are that are left.
use Rattle.std.proofs.Common.{◌≡◌, drop, length}
use Rattle.abnfread.specs.AbnfViews.{elements_of, rules_of}
use Rattle.abnfd.specs.UnchangedRules.{AreAlike, ArePaired}
use Rattle.abnfd.proofs.alike.Pairing.+comparing.Given as goal

abbrev pub invariant-all_alike-loop-i : goal.invariant-all_alike-loop-i
invariant-all_alike-loop-i l = record {
  size : length l.members ≡ length l.others;
  left : AreAlike (ArePaired (rules_of l.self.old.now) (rules_of l.self.new.now) l.self.partners.now)
      (elements_of (drop l.i l.members)) (elements_of (drop l.i l.others))
      → AreAlike (ArePaired (rules_of l.self.old.now) (rules_of l.self.new.now) l.self.partners.now)
      (elements_of l.members) (elements_of l.others);
}
