use Rattle.std.proofs.Common.{◌∙◌, map}
use Rattle.abnfblocks.specs.TextLines.{numbered}
use Rattle.abnftexts.proofs.ValueRunsLemmas.{few-found, few-marks, first-two}
use Rattle.abnftexts.proofs.values.join_values.Goals as goal

pub returns-then-found-lt2 : goal.returns-then-found-lt2
returns-then-found-lt2 c = λ sketches few.
    few-found (map numbered c.args.lines.now) c.args.found.now sketches c.args.values.now c.if-found-lt2.true

pub returns-then-values-lt2 : goal.returns-then-values-lt2
returns-then-values-lt2 c = λ sketches few.
    few-marks (map numbered c.args.lines.now) c.args.found.now sketches c.args.values.now c.if-values-lt2.true

pub returns : goal.returns
returns c = λ sketches few.
    (rw c.are_together.ensures at c.are_joined.ensures)
    ∙ first-two (map numbered c.args.lines.now) c.args.found.now sketches c.args.values.now _ _ _ _ c.if-found-lt2.false
    c.if-values-lt2.false few
