-- The rules so far.
use Rattle.std.proofs.Common.{◌≡◌, take}
use Rattle.abnfread.specs.AbnfViews.{rules_of}
use Rattle.ruletable.specs.Rules.{names_of}
use Rattle.ruletable.specs.declared.table.NameCase.TheVariants.{Fold}
use Rattle.abnfcheck.specs.ReachedGrammar.{rules_kept}
use Rattle.abnfcheck.proofs.copies.reach.kept_rules.Given as goal

abbrev pub invariant-loop-id : goal.invariant-loop-id
invariant-loop-id l = record {
  folds : l.kept.names ≡ Fold;
  names : names_of l.kept ≡ take l.id (names_of l.rules);
  rules : rules_of l.kept ≡ take l.id (rules_kept l.marks (rules_of l.rules));
}
