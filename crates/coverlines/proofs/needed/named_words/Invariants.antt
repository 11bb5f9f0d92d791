-- The sites so far.
use Rattle.std.proofs.Common.{map, take}
use Rattle.coverlines.specs.NeededLines.{AreNamedWords}
use Rattle.coverlines.specs.Sites.{stood_of}
use Rattle.coverlines.proofs.needed.named_words.Given as goal

abbrev pub invariant-loop-site : goal.invariant-loop-site
invariant-loop-site l = AreNamedWords l.words (map stood_of (take l.site-index l.sites)) l.found.items
