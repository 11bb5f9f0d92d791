use Rattle.std.proofs.Common.{map, take}
use Rattle.abnftexts.specs.RulesGathered.{named_text}
use Rattle.abnftexts.specs.ShownTexts.{AreShown}
use Rattle.abnftexts.proofs.shown.shown_texts.Given as goal

abbrev pub invariant-loop-text : goal.invariant-loop-text
invariant-loop-text l = AreShown l.lists (map named_text (take l.text-index l.texts)) l.all.items
