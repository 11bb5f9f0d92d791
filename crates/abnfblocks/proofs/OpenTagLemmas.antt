-- Tags that one line opens and a later one closes, from the last line on.
-- Serves: read_lines
use Rattle.std.proofs.Common.{◌≡◌, ℕ, zero, suc, ◌+◌, ◌-◌, ◌<◌, ◌≤◌, ◌==◌, ◌&&◌, nat_lt, not, Bool, true, false}
use Rattle.std.proofs.Common.{List, [], ◌∷◌, ◌++◌, length, get_or, map, drop, reverse, refl, sym, ap, ◌∙◌, arith}
use Rattle.std.proofs.Common.{inl, inr, if◌then◌else◌}
use Rattle.std.proofs.lemmas.Bool.{cases_Bool}
use Rattle.std.proofs.lemmas.Bool.Decides.{nat_tests}
use Rattle.std.proofs.lemmas.List.{length-drop, length-map, reverse-append}
use Rattle.std.specs.List.{prefix_len}
use Rattle.abnfblocks.specs.MaskSteps.{each_tag}
use Rattle.abnfblocks.specs.OpenTags.{goes_on_tag, has_end, has_end_first, opens_tag, tag_left, tag_size}
use Rattle.abnfblocks.specs.TextLines.{NumberedLine, numbered}
use Rattle.abnfblocks.specs.declared.rfctext.text_line.TextLine.{TextLine}
use Rattle.abnfblocks.proofs.RuleCutLemmas.{row-after}

-- how many lines a tag takes that goes on with a line, where it takes so many after it
abbrev pub more_left : NumberedLine → ℕ → ℕ
more_left line left = if has_end line.bytes then 1 else if nat_lt 0 left && goes_on_tag line then left + 1 else 0

some-test : (n : ℕ) → nat_lt 0 (n + 1) ≡ true
some-test n = grind (arith, nat_tests)

never-both : (b : Bool) (n : ℕ) → (if b && false then n else 0) ≡ 0
never-both true n = refl
never-both false n = refl

left-inside : (k : ℕ) (ends : Bool) → (if ends then suc k + 1 else 0)
    ≡ (if nat_lt 0 (if ends then k + 1 else 0) && true then (if ends then k + 1 else 0) + 1 else 0)
left-inside k true = let e = some-test k in rw e (omega arith)
left-inside k false = refl

pub left-step : (line : NumberedLine) (lines : List NumberedLine)
    → tag_left (line ∷ lines) ≡ more_left line (tag_left lines)
left-step line lines =
    let next : 1 + prefix_len goes_on_tag lines ≡ suc (prefix_len goes_on_tag lines) = omega arith in
    elim (cases_Bool (has_end line.bytes)) [
      | inl e ↦ rw (e, e) refl
      | inr e ↦ elim (cases_Bool (goes_on_tag line)) [
        | inl f ↦ rw (f, next, e) (left-inside (prefix_len goes_on_tag lines)
            (has_end_first (drop (prefix_len goes_on_tag lines) lines)))
        | inr f ↦ rw (f, e) (sym (never-both (nat_lt 0 (tag_left lines)) (tag_left lines + 1)))
      ]
    ]

more-within : (line : NumberedLine) (left n : ℕ) → left ≤ n → more_left line left ≤ n + 1
more-within line left n le = elim (cases_Bool (has_end line.bytes)) [
  | inl e ↦ rw e (omega arith)
  | inr e ↦ elim (cases_Bool (nat_lt 0 left && goes_on_tag line)) [
    | inl f ↦ rw (f, e) (omega arith)
    | inr f ↦ rw (f, e) (omega arith)
  ]
]

module _ (lines : List TextLine) (i : ℕ) (d : TextLine) (some : 0 < i) (within : i ≤ length lines) where
  abbrev pub rows_after : List NumberedLine
  rows_after = drop i (map numbered lines)

  abbrev pub row_before : NumberedLine
  row_before = numbered (get_or lines (i - 1) d)

  rows-from : drop (i - 1) (map numbered lines) ≡ row_before ∷ rows_after
  rows-from =
      let next : i - 1 + 1 ≡ i = omega (arith, some) in
      row-after lines (i - 1) d (omega (arith, some, within))
      ∙ ap (λ (k : ℕ). row_before ∷ drop k (map numbered lines)) next

  pub left-before : (k more : ℕ) → k ≡ tag_left rows_after → more ≡ more_left row_before k
      → more ≡ tag_left (drop (i - 1) (map numbered lines))
  left-before k more is e = e ∙ ap (λ (n : ℕ). more_left row_before n) is ∙ sym (left-step row_before rows_after)
      ∙ ap (λ (xs : List NumberedLine). tag_left xs) (sym rows-from)

  pub left-small : (k more : ℕ) → more ≡ more_left row_before k → more ≤ k + 1
  left-small k more e =
      let le : more_left row_before k ≤ k + 1 = more-within row_before k k (omega arith) in
      omega (arith, e, le)

  pub sizes-before : (size : ℕ) (before after : List ℕ) → size ≡ tag_size (row_before ∷ rows_after)
      → reverse before ≡ each_tag rows_after → after ≡ before ++ size ∷ []
      → reverse after ≡ each_tag (drop (i - 1) (map numbered lines))
  sizes-before size before after is each e =
      let all : reverse after ≡ size ∷ each_tag rows_after =
      ap (λ (xs : List ℕ). reverse xs) e ∙ reverse-append before (size ∷ [])
      ∙ ap (λ (xs : List ℕ). size ∷ xs) each in
      all ∙ ap (λ (k : ℕ). k ∷ each_tag rows_after) is
      ∙ ap (λ (xs : List NumberedLine). each_tag xs) (sym rows-from)

  pub tag-none : (k : ℕ) → k ≡ tag_left rows_after → k ≡ 0 → tag_size (row_before ∷ rows_after) ≡ 0
  tag-none k is e = elim (cases_Bool (opens_tag row_before.bytes)) [
    | inl f ↦ (let none : tag_left rows_after ≡ 0 = sym is ∙ e in rw (f, none) refl)
    | inr f ↦ rw f refl
  ]

  pub tag-shut : opens_tag row_before.bytes ≡ false → tag_size (row_before ∷ rows_after) ≡ 0
  tag-shut f = rw f refl

  pub tag-some : (k : ℕ) → k ≡ tag_left rows_after → 0 < k → opens_tag row_before.bytes ≡ true
      → tag_size (row_before ∷ rows_after) ≡ k + 1
  tag-some k is lt f =
      let test : (k == 0) ≡ false = grind (arith, nat_tests) in
      rw (f, ← is, test) refl

left-within : (rows : List NumberedLine) → tag_left rows ≤ length rows
left-within [] = omega arith
left-within (row ∷ rows) =
    let more = more-within row (tag_left rows) (length rows) (left-within rows) in
    let same = left-step row rows in
    omega (arith, more, same)

tag-within : (rows : List NumberedLine) → tag_size rows ≤ length rows
tag-within [] = omega arith
tag-within (row ∷ rows) = elim (cases_Bool (opens_tag row.bytes && not (tag_left rows == 0))) [
  | inl e ↦ (let within = left-within rows in rw e (omega (arith, within)))
  | inr e ↦ rw e (omega arith)
]

tag-at : (rows : List NumberedLine) (i : ℕ) → i < length rows
    → get_or (each_tag rows) i 0 ≡ tag_size (drop i rows)
tag-at [] i lt = absurd (omega arith)
tag-at (row ∷ rows) zero lt = refl
tag-at (row ∷ rows) (suc i) lt = tag-at rows i (omega arith)

-- how many lines the tag of a line has, and that they are there
pub tag-there : (lines : List TextLine) (i k : ℕ) (all : List ℕ) → i < length lines
    → all ≡ each_tag (map numbered lines) → k ≡ get_or all i 0
    → (k ≡ tag_size (drop i (map numbered lines))) × (k ≤ length lines - i)
tag-there lines i k all lt are is =
    let rows : List NumberedLine = map numbered lines in
    let size : length rows ≡ length lines = length-map lines numbered in
    let same : k ≡ tag_size (drop i rows) =
    is ∙ ap (λ (xs : List ℕ). get_or xs i 0) are ∙ tag-at rows i (omega (arith, lt, size)) in
    let within = tag-within (drop i rows) in
    let left : length (drop i rows) ≡ length rows - i = length-drop i rows in
    (same, omega (arith, same, within, left, size))
