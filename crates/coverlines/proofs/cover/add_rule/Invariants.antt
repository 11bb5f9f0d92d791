-- The sites so far.
use Rattle.std.proofs.Common.{List, map, take}
use Rattle.std.specs.List.{AllPairs}
use Rattle.abnfread.specs.Element.{Rule}
use Rattle.coverlines.specs.CoverLines.{AddsLines, Falls}
use Rattle.coverlines.specs.KnownWords.{AreKnownOf}
use Rattle.coverlines.specs.Sites.{stood_of}
use Rattle.coverlines.proofs.cover.add_rule.Given as goal

abbrev pub invariant-loop-site : goal.invariant-loop-site
invariant-loop-site l = record {
  order : AllPairs Falls l.found.items;
  added : (rules : List Rule) → AreKnownOf l.words rules → AddsLines l.words.bounds rules l.rule l.context
      (map stood_of (take l.site-index l.sites)) l.fn.found.items l.found.items;
}
