use Rattle.std.proofs.Common.{take}
use Rattle.abnfread.specs.AbnfViews.{rules_of}
use Rattle.refusedlines.proofs.PartTextsLemmas.{AreFirstTexts}
use Rattle.refusedlines.proofs.part_texts.part_texts.Given as goal

abbrev pub invariant-loop-part : goal.invariant-loop-part
invariant-loop-part l = AreFirstTexts l.alphabet (rules_of l.rules) (take l.part-index l.parts) l.once
