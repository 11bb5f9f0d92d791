-- The rules so far.
use Rattle.std.proofs.Common.{◌≡◌, take}
use Rattle.abnfread.specs.AbnfViews.{rules_of}
use Rattle.ruletable.specs.Rules.{names_of}
use Rattle.ruletable.specs.declared.table.NameCase.TheVariants.{Fold}
use Rattle.abnfcheck.specs.UnrolledRules.{unrolled_from}
use Rattle.abnfcheck.proofs.copies.unrolled.unrolled_rules.Given as goal

abbrev pub invariant-loop-id : goal.invariant-loop-id
invariant-loop-id l = record {
  folds : l.made.names ≡ Fold;
  names : names_of l.made ≡ take l.id (names_of l.rules);
  rules : rules_of l.made ≡ take l.id (unrolled_from (rules_of l.rules) 0 (rules_of l.rules));
}
