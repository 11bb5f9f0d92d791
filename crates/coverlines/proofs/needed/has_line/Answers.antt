-- None of the lines before one is the list.
use Rattle.std.proofs.Common.{◌∙◌}
use Rattle.std.proofs.lemmas.Bool.Decides.{Decides-eqb}
use Rattle.std.proofs.lemmas.Slice.Eq.{slice_eq-Decides}
use Rattle.coverlines.proofs.CoverLinesLemmas as l
use Rattle.coverlines.proofs.needed.has_line.Goals as goal

pub loop-other-preserved : goal.loop-other-preserved
loop-other-preserved c = l.none_more c.args.lines.now c.loop-other.other-index c.other-item.result c.args.line.now
    c.loop-other-test.true c.other-item.is c.loop-other.invariant (λ is.
    let yes = (slice_eq-Decides Decides-eqb c.as_slice.result.now c.args.line.now c.eq.result c.eq.ensures).1
    (c.as_slice.ensures.value ∙ is) in
    let no = c.if-eq.false in absurd (cc (yes, no)))

pub returns : goal.returns
returns c = (
  λ is. absurd (cc is),
  λ among. absurd (l.none_of_all c.args.lines.now c.loop-other.other-index c.args.line.now c.loop-other-test.false
      c.loop-other.invariant among),
)
