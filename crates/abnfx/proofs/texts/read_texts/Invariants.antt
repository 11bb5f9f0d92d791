use Rattle.std.proofs.Common.{map, take}
use Rattle.abnfx.specs.JoinAnswers.{AreTextsOf}
use Rattle.abnfx.specs.TextsRead.{text_read}
use Rattle.abnfx.proofs.texts.read_texts.Given as goal

abbrev pub invariant-loop-path : goal.invariant-loop-path
invariant-loop-path g l = AreTextsOf (map (λ p. p.now) (take l.path-index l.paths)) (map text_read l.texts.items)
