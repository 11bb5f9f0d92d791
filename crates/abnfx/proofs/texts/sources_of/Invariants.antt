use Rattle.std.proofs.Common.{◌≡◌, map, take}
use Rattle.abnftexts.specs.RulesGathered.{named_text}
use Rattle.abnfx.specs.TextsRead.{text_read}
use Rattle.abnfx.proofs.texts.sources_of.Given as goal

abbrev pub invariant-loop-text : goal.invariant-loop-text
invariant-loop-text l = map named_text l.sources.items ≡ map text_read (take l.text-index l.texts)
