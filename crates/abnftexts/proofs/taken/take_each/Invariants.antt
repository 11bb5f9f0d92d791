use Rattle.std.proofs.Common.{ℕ, List, Option, drop, ◌++◌}
use Rattle.abnfblocks.specs.declared.found.RuleSearch.{RuleSearch}
use Rattle.abnfblocks.specs.MaskedLines.{AreRead}
use Rattle.abnfblocks.specs.FoundRules.{AreFound}
use Rattle.abnftexts.specs.RulesGathered.{RulesGathered, rules_gathered}
use Rattle.abnftexts.specs.TakenRules.{TakesMore, text_rows}
use Rattle.abnftexts.specs.WrittenLists.{AreExpanded}
use Rattle.rfcforms.specs.declared.lists.written.ListForm.{ListForm}
use Rattle.abnftexts.specs.TextRules.{GivesFound}
use Rattle.abnftexts.proofs.taken.take_each.Given as goal

-- what is found after it completes what was taken so far
abbrev pub invariant-loop-it : goal.invariant-loop-it
invariant-loop-it l = (text : List ℕ) (lists : Option ListForm) (front back : List RuleSearch)
    → AreRead text (text_rows l.text).kept → AreExpanded lists (text_rows l.text).kept (text_rows l.text).lines
    → AreFound 0 (text_rows l.text).lines (front ++ (l.found ++ back)) → (end : RulesGathered)
    → TakesMore (GivesFound l.text.asks l.text.name.now (text_rows l.text).kept (text_rows l.text).lines
    (drop l.it-index l.found)) (rules_gathered l.gathered) end
    → TakesMore (GivesFound l.text.asks l.text.name.now (text_rows l.text).kept (text_rows l.text).lines l.found)
    (rules_gathered l.fn.gathered) end
