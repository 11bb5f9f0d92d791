use Rattle.std.proofs.Common.{◌≡◌, ◌≤◌, ◌<◌, ◌∙◌, ℕ, zero, suc, ◌+◌, min, true, false, List, [], ◌∷◌, length}
use Rattle.std.proofs.Common.{get_or, map, drop, ap, refl, sym, arith}
use Rattle.std.specs.Prelude.{bytes_eq}
use Rattle.abnfblocks.specs.TextLines.{NumberedLine, numbered}
use Rattle.abnfblocks.specs.declared.rfctext.text_line.TextLine.{TextLine}
use Rattle.abnftexts.specs.WrittenLists.{lines_alike}
use Rattle.abnftexts.proofs.lists.first_changed.Goals as goal
use Rattle.abnftexts.proofs.lists.first_changed.Goals.{then-loop-count-test+else-eq, else-loop-count-test}

abbrev left_alike : List TextLine → List TextLine → ℕ → ℕ
left_alike lines written i = lines_alike (drop i (map numbered lines)) (drop i (map numbered written))

-- the lines at a position are alike, so one more stands before the first that is written otherwise
line-alike : (lines written : List TextLine) (i : ℕ) (d e : TextLine) → i < length lines → i < length written
    → bytes_eq (get_or lines i d).bytes.now (get_or written i e).bytes.now ≡ true
    → left_alike lines written i ≡ 1 + left_alike lines written (suc i)
line-alike [] written i d e low fits same = absurd (omega (arith, low))
line-alike (x ∷ lines) [] i d e low fits same = absurd (omega (arith, fits))
line-alike (x ∷ lines) (y ∷ written) zero d e low fits same = rw same refl
line-alike (x ∷ lines) (y ∷ written) (suc i) d e low fits same =
    line-alike lines written i d e (omega (arith, low)) (omega (arith, fits)) same

-- they are not
line-changed : (lines written : List TextLine) (i : ℕ) (d e : TextLine) → i < length lines → i < length written
    → bytes_eq (get_or lines i d).bytes.now (get_or written i e).bytes.now ≡ false → left_alike lines written i ≡ 0
line-changed [] written i d e low fits other = absurd (omega (arith, low))
line-changed (x ∷ lines) [] i d e low fits other = absurd (omega (arith, fits))
line-changed (x ∷ lines) (y ∷ written) zero d e low fits other = rw other refl
line-changed (x ∷ lines) (y ∷ written) (suc i) d e low fits other =
    line-changed lines written i d e (omega (arith, low)) (omega (arith, fits)) other

no-written : (lines : List NumberedLine) → lines_alike lines [] ≡ 0
no-written [] = refl
no-written (line ∷ lines) = refl

-- no line is left
none-alike : (lines written : List TextLine) (i : ℕ) → min (length lines) (length written) ≤ i
    → left_alike lines written i ≡ 0
none-alike [] [] zero le = refl
none-alike [] [] (suc i) le = refl
none-alike [] (y ∷ written) zero le = refl
none-alike [] (y ∷ written) (suc i) le = refl
none-alike (x ∷ lines) [] zero le = refl
none-alike (x ∷ lines) [] (suc i) le = no-written (drop i (map numbered lines))
none-alike (x ∷ lines) (y ∷ written) zero le = absurd (omega (arith, le))
none-alike (x ∷ lines) (y ∷ written) (suc i) le = none-alike lines written i (omega (arith, le))

pub loop-count-preserved : goal.loop-count-preserved
loop-count-preserved c =
    let lines = c.args.lines.now in
    let written = c.args.written.now in
    let i = c.loop-count.count in
    let low : i < length lines = omega (arith, c.loop-count-test.true, c.min-size.ensures) in
    let fits : i < length written = omega (arith, c.loop-count-test.true, c.min-size.ensures) in
    let next : suc i ≡ i + 1 = omega arith in
    let more : left_alike lines written i ≡ 1 + left_alike lines written (i + 1) =
    line-alike lines written i _ _ low fits (sym c.eq.ensures ∙ c.if-eq.true)
    ∙ ap (λ (k : ℕ). 1 + left_alike lines written k) next in
    record {
      within = omega (arith, c.loop-count-test.true);
      same = omega (arith, more, c.loop-count.invariant.same);
    }

pub returns : goal.returns
returns c =
    let lines = c.args.lines.now in
    let written = c.args.written.now in
    let i = c.loop-count.count in
    elim c.loop-count-test.branch [
      | then-loop-count-test+else-eq w ↦
          let low : i < length lines = omega (arith, w.loop-count-test.true, c.min-size.ensures) in
          let fits : i < length written = omega (arith, w.loop-count-test.true, c.min-size.ensures) in
          let none = line-changed lines written i _ _ low fits (sym w.eq.ensures ∙ w.if-eq.false) in
          omega (arith, none, c.loop-count.invariant.same)
      | else-loop-count-test w ↦
          let none = none-alike lines written i (omega (arith, w.loop-count-test.false, c.min-size.ensures)) in
          omega (arith, none, c.loop-count.invariant.same)
    ]
