use Rattle.std.proofs.Common.{◌≤◌, ◌-◌, ℕ, List, Option, length, map}
use Rattle.abnfblocks.specs.FoundRules.{AreFound}
use Rattle.abnfblocks.specs.MaskedLines.{AreRead}
use Rattle.abnftexts.specs.RulesGathered.{RulesGathered, rules_gathered}
use Rattle.abnftexts.specs.TakenRules.{TakesMore, text_rows}
use Rattle.abnftexts.specs.WrittenLists.{AreExpanded}
use Rattle.rfcforms.specs.declared.lists.written.ListForm.{ListForm}
use Rattle.rfcvalues.specs.RuleSketches.{rule_sketched}
use Rattle.abnftexts.proofs.ValueRunsLemmas.{GivesFrom}
use Rattle.abnftexts.proofs.taken.take_found.Given as goal

-- the groups to come complete what was taken so far
abbrev pub invariant-loop-at : goal.invariant-loop-at
invariant-loop-at l = (text : List ℕ) (lists : Option ListForm) → AreRead text (text_rows l.text.rows).kept
    → AreExpanded lists (text_rows l.text.rows).kept (text_rows l.text.rows).lines
    → AreFound 0 (text_rows l.text.rows).lines l.text.found.items
    → length l.text.found.items ≤ length (map rule_sketched l.sketches)
    → length l.text.found.items ≤ length l.values → (end : RulesGathered)
    → TakesMore (GivesFrom (text_rows l.text.rows) l.text.found.items l.sketches l.values l.at)
    (rules_gathered l.gathered) end
    → TakesMore (GivesFrom (text_rows l.text.rows) l.text.found.items l.sketches l.values 0)
    (rules_gathered l.fn.gathered) end

abbrev pub decreases-loop-at : goal.decreases-loop-at
decreases-loop-at l = length l.text.found.items - l.at
