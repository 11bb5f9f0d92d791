use Rattle.std.proofs.Common.{ℕ, List, ◌+◌, ◌≡◌, ◌∙◌, ap, arith, drop, map, sym}
use Rattle.abnfblocks.specs.Fences.{lines_inside}
use Rattle.abnfblocks.specs.TextLines.{NumberedLine, numbered}
use Rattle.abnfblocks.proofs.MaskedLinesLemmas.{block-none, block-some}
use Rattle.abnfblocks.proofs.RuleCutLemmas.{rest-rows}
use Rattle.abnfblocks.proofs.rfctext.masked.block_size.Goals as goal
use Rattle.abnfblocks.proofs.rfctext.masked.block_size.Goals.{then-size-eq0-via-then-size-eq0}
use Rattle.abnfblocks.proofs.rfctext.masked.block_size.Goals.{then-size-eq0-via-else-size-eq0+then-longest-size}

pub returns-then-size-eq0-clause-size : goal.returns-then-size-eq0-clause-size
returns-then-size-eq0-clause-size c = elim c.then-size-eq0.branch [
  | then-size-eq0-via-then-size-eq0 w ↦ sym (block-none c.args.mark c.opening_length-size.result c.args.longest
      c.args.lines.now _ c.requires.some c.opening_length-size.ensures c.requires.longest
      (λ lt. omega (arith, lt, w.if-size-eq0.true)))
  | then-size-eq0-via-else-size-eq0+then-longest-size w ↦ sym (block-none c.args.mark c.opening_length-size.result
      c.args.longest c.args.lines.now _ c.requires.some c.opening_length-size.ensures c.requires.longest
      (λ lt. w.if-longest-size.true))
]

pub returns-clause-size : goal.returns-clause-size
returns-clause-size c =
    let both = block-some c.args.mark c.opening_length-size.result c.args.longest c.args.lines.now _ c.requires.some
    c.opening_length-size.ensures c.requires.longest (omega (arith, c.if-size-eq0.false)) c.if-longest-size.false in
    ap (λ (k : ℕ). k + 2) (c.lines_inside.ensures.count ∙ ap (λ (xs : List NumberedLine). lines_inside c.args.mark
    c.opening_length-size.result xs) (rest-rows c.args.lines.now 1)) ∙ sym both.0

pub returns-clause-within : goal.returns-clause-within
returns-clause-within c =
    let both = block-some c.args.mark c.opening_length-size.result c.args.longest c.args.lines.now _ c.requires.some
    c.opening_length-size.ensures c.requires.longest (omega (arith, c.if-size-eq0.false)) c.if-longest-size.false in
    let same : c.lines_inside.result ≡ lines_inside c.args.mark c.opening_length-size.result
    (drop 1 (map numbered c.args.lines.now)) =
    c.lines_inside.ensures.count ∙ ap (λ (xs : List NumberedLine). lines_inside c.args.mark
    c.opening_length-size.result xs) (rest-rows c.args.lines.now 1) in
    omega (arith, both.1, same)
