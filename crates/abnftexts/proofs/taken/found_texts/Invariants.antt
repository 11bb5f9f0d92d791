use Rattle.std.proofs.Common.{List, Option, take}
use Rattle.abnftexts.specs.RulesGathered.{NamedText}
use Rattle.abnftexts.specs.ShownTexts.{AreShown}
use Rattle.abnftexts.specs.TakenRules.{AreTextsFound}
use Rattle.rfcforms.specs.declared.lists.written.ListForm.{ListForm}
use Rattle.abnftexts.proofs.taken.found_texts.Given as goal

-- what is found in the texts so far
abbrev pub invariant-loop-text : goal.invariant-loop-text
invariant-loop-text l = (lists : Option ListForm) (named : List NamedText) → AreShown lists named l.texts
    → AreTextsFound lists (take l.text-index named) l.all.items
