use Rattle.std.proofs.lemmas.Bool.Decides.{nat_tests}
use Rattle.abnfblocks.specs.declared.rfctext.before.Before.{Before}
use Rattle.std.proofs.Common.{◌≡◌, ℕ, ◌+◌, length, refl, List, [], ◌∷◌, map, ap, ◌∙◌, sym, arith, append-nil}
use Rattle.abnfblocks.specs.KeptSteps.{next_after, after_line}
use Rattle.abnfblocks.specs.TextLines.{NumberedLine, numbered, lines_from, text_lines, line_in, line_parts}
use Rattle.abnfblocks.specs.declared.rfctext.before.Before.TheVariants.{Text}
use Rattle.abnfblocks.proofs.FurnitureLemmas.{after-kept, before-first}
use Rattle.abnfblocks.proofs.KeptLemmas.{IsClean, all_kept, line-keeps_all, line-keeps_clean}
use Rattle.abnfblocks.proofs.rfctext.kept.kept_lines.Goals as goal

step-all : (before : Before) (kept : List NumberedLine) (line : NumberedLine) (n : ℕ) (rest first after : List ℕ)
    (all : List NumberedLine) → IsClean before kept → line_parts rest ≡ first ∷ line_parts after
    → line ≡ line_in n first
    → all_kept before kept (lines_from n (line_parts rest)) ≡ all
    → all_kept (next_after before line.kind) (after_line before kept line)
    (lines_from (n + 1) (line_parts after)) ≡ all
step-all before kept line n rest first after all clean parts e h =
    let more : lines_from n (line_parts rest) ≡ line ∷ lines_from (n + 1) (line_parts after) = rw (parts, e) refl in
    sym (line-keeps_all before kept line (lines_from (n + 1) (line_parts after)) clean)
    ∙ ap (λ (lines : List NumberedLine). all_kept before kept lines) (sym more) ∙ h

pub loop-rest-preserved : goal.loop-rest-preserved
loop-rest-preserved c = record {
  number = omega (arith, c.cut_part-parts.ensures.less, c.loop-rest.invariant.number);
  clean = rw (c.after-before.ensures, c.in_ok-take_line.ensures)
      (line-keeps_clean _ _ (numbered c.new-line.result) c.loop-rest.invariant.clean);
  same = rw (c.after-before.ensures, c.in_ok-take_line.ensures)
      (step-all _ _ (numbered c.new-line.result) c.loop-rest.number c.loop-rest.rest.now _
      c.cut_part-parts.result.rest.now _
      c.loop-rest.invariant.clean c.cut_part-parts.ensures.parts c.new-line.ensures c.loop-rest.invariant.same);
}

all-left : (before : Before) (kept all : List NumberedLine) (n : ℕ) (rest : List ℕ) → length rest ≡ 0
    → all_kept before kept (lines_from n (line_parts rest)) ≡ all → kept ≡ all
all-left before kept all n [] e h = sym (append-nil kept) ∙ h
all-left before kept all n (b ∷ rest) e h = absurd (omega arith)

pub returns : goal.returns
returns c =
    let none : length c.loop-rest.rest.now ≡ 0 = grind (arith, nat_tests) in
    let same = all-left c.loop-rest.before (map numbered c.loop-rest.kept.items) _ c.loop-rest.number
    c.loop-rest.rest.now none c.loop-rest.invariant.same in
    rw same (after-kept Text [] (text_lines c.args.text.now) before-first)
