-- Lines with their lists written out hold no LF, and those that look blank hold blanks alone.
-- Serves: joined_reading
use Rattle.std.proofs.Common.{◌≡◌, ℕ, suc, ◌+◌, ◌-◌, ◌==◌, true, not, List, [], ◌∷◌, take}
use Rattle.std.proofs.Common.{Option, inl, inr, refl, sym, subst, arith}
use Rattle.std.proofs.lemmas.Bool.{cases_Bool}
use Rattle.std.specs.List.{prefix_len}
use Rattle.std.specs.Prelude.{bytes_eq}
use Rattle.abnfblocks.specs.TextLines.{NumberedLine}
use Rattle.abnfread.specs.AbnfSlices.{is_inside}
use Rattle.rfcforms.specs.Lists.{CutsLines, first_size, next_line, no_lines}
use Rattle.rfcforms.specs.declared.lists.written.ListForm.{ListForm}
use Rattle.abnftexts.specs.WrittenLists.{AreExpanded, as_they_are, lines_written, with_lists, written_line}
use Rattle.abnftexts.proofs.ClearLinesLemmas.{AreInside, IsClear}
use Rattle.abnftexts.proofs.EachLemmas.{Each, each_none, each_next}

-- one byte more
front-inside : (n b : ℕ) (bytes : List ℕ) → is_inside b ≡ true → AreInside (take n bytes)
    → AreInside (take (1 + n) (b ∷ bytes))
front-inside n b bytes p h =
    let next : suc n ≡ 1 + n = omega arith in
    subst (λ (k : ℕ). AreInside (take k (b ∷ bytes))) next (each_next p h)

-- what stands before the first LF holds none
prefix-inside : (bytes : List ℕ) → AreInside (take (prefix_len (λ b. not (b == 10)) bytes) bytes)
prefix-inside [] = each_none
prefix-inside (b ∷ bytes) = elim (cases_Bool (b == 10)) [
  | inl e ↦ rw e each_none
  | inr e ↦ rw e (front-inside (prefix_len (λ b. not (b == 10)) bytes) b bytes (rw e refl) (prefix-inside bytes))
]

cuts-inside : {text : List ℕ} {parts : List (List ℕ)} → CutsLines text parts → Each AreInside parts
cuts-inside no_lines = each_none
cuts-inside (next_line {b} {bytes} h) =
    let text : List ℕ = b ∷ bytes in
    let n : ℕ = prefix_len (λ b. not (b == 10)) text in
    let same : first_size text - 1 ≡ n = omega arith in
    each_next (subst (λ (k : ℕ). AreInside (take k text)) (sym same) (prefix-inside text)) (cuts-inside h)

line-clear : (line : NumberedLine) (bytes : List ℕ) → IsClear line → AreInside bytes → IsClear (written_line line bytes)
line-clear line bytes c h = elim (cases_Bool (bytes_eq line.bytes bytes)) [
  | inl e ↦ rw e c
  | inr e ↦ rw e (record { inside = h; blank = λ e. cc })
]

lines-clear : {lines : List NumberedLine} {parts : List (List ℕ)} → Each IsClear lines → Each AreInside parts
    → Each IsClear (lines_written lines parts)
lines-clear each_none h = each_none
lines-clear (each_next c clear) each_none = each_none
lines-clear (each_next {x = line} c clear) (each_next {x = bytes} h more) =
    each_next (line-clear line bytes c h) (lines-clear clear more)

pub expanded-clear : {lists : Option ListForm} {kept lines : List NumberedLine} → Each IsClear kept
    → AreExpanded lists kept lines → Each IsClear lines
expanded-clear clear as_they_are = clear
expanded-clear clear (with_lists x) =
    subst (λ (rows : List NumberedLine). Each IsClear rows) (sym x.is) (lines-clear clear (cuts-inside x.cuts))
