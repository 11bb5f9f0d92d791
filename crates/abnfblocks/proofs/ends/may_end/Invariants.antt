use Rattle.std.proofs.Common.{◌≡◌, ◌+◌, length, map, take}
use Rattle.lexer.specs.GrammarLimits.{max_grammar}
use Rattle.abnfblocks.specs.RuleCuts.{lines_text}
use Rattle.abnfblocks.specs.RuleEnds.{BarEnds}
use Rattle.abnfblocks.specs.TextLines.{numbered}
use Rattle.abnfblocks.proofs.RuleEndLemmas.{IsStand}
use Rattle.abnfblocks.proofs.ends.may_end.Given as goal

abbrev pub invariant-loop-at : goal.invariant-loop-at
invariant-loop-at l = record {
  count : length l.tests.items ≡ l.at;
  stand : IsStand (lines_text l.margin_size (take l.at (map numbered l.rule))) l.stand;
  bar : BarEnds l.margin_size (map numbered l.rule) l.tests.items;
  left : l.left + length (lines_text l.margin_size (take l.at (map numbered l.rule))) ≡ max_grammar;
}
