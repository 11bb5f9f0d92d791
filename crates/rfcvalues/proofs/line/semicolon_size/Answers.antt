use Rattle.std.proofs.Common.{◌≡◌, ◌<◌, ◌≤◌, ◌-◌, ◌∙◌, ◌∷◌, ℕ, suc, List, ap, arith, drop, get_or, length, sym}
use Rattle.std.proofs.Math.Seq.{drop-cons}
use Rattle.std.proofs.lemmas.List.{at_drop_all, length-drop}
use Rattle.rfcvalues.specs.StatementLines.{line_rest}
use Rattle.rfcvalues.proofs.line.semicolon_size.Goals as goal

pub loop-at-init : goal.loop-at-init
loop-at-init c =
    let line = c.args.line.now in
    let all : length line ≤ length line = omega arith in
    record { within = all; rest = ap line_rest (sym (at_drop_all (λ xs. xs) line (length line) all)) }

pub loop-at-preserved : goal.loop-at-preserved
loop-at-preserved c =
    let line = c.args.line.now in
    let at = c.loop-at.at in
    let some = c.loop-at-test.true in
    let within = c.loop-at.invariant.within in
    let low : at - 1 < length line = omega (arith, some, within) in
    let next : suc (at - 1) ≡ at = omega (arith, some) in
    let rows : drop (at - 1) line ≡ get_or line (at - 1) 0 ∷ drop at line =
    drop-cons line (at - 1) 0 low ∙ ap (λ (k : ℕ). get_or line (at - 1) 0 ∷ drop k line) next in
    let size : length line - (at - 1) ≡ suc (length (drop at line)) =
    omega (arith, length-drop at line, some, within) in
    record {
      within = omega (arith, within);
      rest = c.with_byte-rest.ensures (drop at line) c.loop-at.invariant.rest size ∙ ap line_rest (sym rows);
    }
