-- The lines so far.
use Rattle.std.proofs.Common.{take}
use Rattle.std.specs.List.{AllPairs}
use Rattle.coverlines.specs.CoverLines.{AddsMadeLines, Falls}
use Rattle.coverlines.specs.Sites.{stood_of}
use Rattle.coverlines.proofs.cover.add_site.Given as goal

abbrev pub invariant-loop-one : goal.invariant-loop-one
invariant-loop-one l = record {
  order : AllPairs Falls l.found.items;
  added : AddsMadeLines l.words.bounds.limit l.rule l.outer (stood_of l.site) (take l.one-index l.one-items)
      l.fn.found.items l.found.items;
}
