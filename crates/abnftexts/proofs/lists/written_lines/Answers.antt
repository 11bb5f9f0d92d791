use Rattle.std.proofs.Common.{◌≡◌, ◌≤◌, ◌∙◌, ℕ, zero, suc, min, List, [], ◌∷◌, ◌++◌, length, map, drop, ap, refl, sym}
use Rattle.std.proofs.Common.{subst, arith, append-nil}
use Rattle.std.specs.Borrow.{Bor}
use Rattle.abnfblocks.specs.TextLines.{NumberedLine, numbered}
use Rattle.abnfblocks.specs.declared.rfctext.text_line.TextLine.{TextLine}
use Rattle.rfcforms.specs.Lists.{Expands}
use Rattle.abnftexts.specs.WrittenLists.{lines_written}
use Rattle.abnftexts.proofs.lists.written_lines.Goals as goal

no-parts : (lines : List NumberedLine) → lines_written lines [] ≡ []
no-parts [] = refl
no-parts (line ∷ lines) = refl

-- no line is left, or no part
none-left : (lines : List TextLine) (parts : List (Bor (List ℕ))) (i : ℕ) → min (length parts) (length lines) ≤ i
    → lines_written (map numbered (drop i lines)) (map (λ p. p.now) (drop i parts)) ≡ []
none-left [] [] zero le = refl
none-left [] [] (suc i) le = refl
none-left [] (p ∷ parts) zero le = refl
none-left [] (p ∷ parts) (suc i) le = refl
none-left (x ∷ lines) [] zero le = refl
none-left (x ∷ lines) [] (suc i) le = no-parts (map numbered (drop i lines))
none-left (x ∷ lines) (p ∷ parts) zero le = absurd (omega (arith, le))
none-left (x ∷ lines) (p ∷ parts) (suc i) le = none-left lines parts i (omega (arith, le))

pub returns : goal.returns
returns c = λ source form expands same.
    let lines = c.args.lines.now in
    let parts = c.in_ok-parts.parts.items in
    let written = map numbered c.loop-i.written.items in
    let le : min (length parts) (length lines) ≤ c.loop-i.i = grind arith in
    record {
      expands = subst (λ (s : List ℕ). Expands form s c.args.text.now) same expands;
      parts = map (λ p. p.now) parts;
      cuts = c.in_ok-parts.ensures;
      is = sym (append-nil written)
          ∙ ap (λ (z : List NumberedLine). written ++ z) (sym (none-left lines parts c.loop-i.i le))
          ∙ c.loop-i.invariant;
    }
