-- The productive parts of a grammar, by which rejected lines are explained.
use Rattle.std.specs.Prelude.{◌≡◌, ℕ, List, length}
use Rattle.abnfread.specs.AbnfViews.{rules_of}
use Rattle.abnfread.specs.Element.{Rule}
use Rattle.lowering.specs.Lowered.{IsLowered}
use Rattle.lowering.specs.MoreMarks.{AreMoreMarks}
use Rattle.lowering.specs.Pruned.{ArePruned}
use Rattle.refusedlines.specs.declared.pruned.PrunedGrammar.{PrunedGrammar}
use Rattle.ruletable.specs.Letters.{has}
use Rattle.ruletable.specs.declared.alphabet.Alphabet.{Alphabet}
use Rattle.ruletable.specs.declared.table.NameCase.TheVariants.{Fold}

-- The rules are those of a grammar without what derives no line over the alphabet. The marks are on those that derive
-- more than the empty line, and the flat grammar is that of the rules.
pub record IsPrunedOf (alphabet : Alphabet) (rules : List Rule) (judged : ℕ) (pruned : PrunedGrammar) : Type 0 where
  pub folds : pruned.rules.names ≡ Fold
  pub left : ArePruned (has alphabet) rules (rules_of pruned.rules)
  pub count : length pruned.more.items ≡ length (rules_of pruned.rules)
  pub marks : AreMoreMarks (rules_of pruned.rules) pruned.more.items
  pub lowered : IsLowered (rules_of pruned.rules) judged pruned.flat
