use Rattle.std.proofs.Common.{◌≡◌, ℕ, ◌-◌, ◌<◌, min, List, length, get_or, map, sym, ap, ◌∙◌, arith, true}
use Rattle.std.proofs.Math.Dec.{ltb}
use Rattle.std.proofs.lemmas.Bool.{ltb-true}
use Rattle.std.proofs.lemmas.List.{get_or-map, length-map}
use Rattle.abnfblocks.specs.TextLines.{NumberedLine, numbered}
use Rattle.abnfblocks.specs.declared.rfctext.text_line.TextLine.{TextLine}
use Rattle.abnftexts.specs.TextPositions.{number_at}
use Rattle.abnftexts.proofs.reported.number_at.Goals as goal

number_is-found : (lines : List TextLine) (n p : ℕ) (line : TextLine) → p ≡ min (n - 1) (length lines - 1)
    → true ≡ ltb p (length lines) → line ≡ get_or lines p line → line.number ≡ number_at (map numbered lines) n
number_is-found lines n p line position low is =
    let lt : p < length lines = ltb-true p (length lines) (sym low) in
    let rows : List NumberedLine = map numbered lines in
    let num : NumberedLine → ℕ = λ row. row.number in
    let same : length rows ≡ length lines = length-map lines numbered in
    let first : get_or (map num rows) p 0 ≡ num (get_or rows p (numbered line)) =
    get_or-map num rows p (numbered line) 0 (omega (arith, same)) in
    let second : get_or rows p (numbered line) ≡ numbered (get_or lines p line) =
    get_or-map numbered lines p line (numbered line) lt in
    ap (λ (x : TextLine). x.number) is ∙ sym (ap num second) ∙ sym first
    ∙ ap (λ (k : ℕ). get_or (map num rows) k 0) (position ∙ ap (λ (k : ℕ). min (n - 1) (k - 1)) (sym same))

pub returns-in-Some : goal.returns-in-Some
returns-in-Some c =
    let position : c.min-position.result ≡ min (c.args.n - 1) (length c.args.lines.now - 1) = grind arith in
    number_is-found c.args.lines.now c.args.n c.min-position.result c.in-Some.line.now position
    c.in-Some.ensures.lookup.0
    c.in-Some.ensures.lookup.1
