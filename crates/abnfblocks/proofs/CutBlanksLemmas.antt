-- Blank lines that end a list.
-- Serves: read_lines
use Rattle.std.proofs.Common.{◌≡◌, ℕ, ◌-◌, true, false, Bool, List, [], ◌∷◌, ◌++◌, length, take, reverse, refl}
use Rattle.std.proofs.Common.{ap, ◌∙◌, ◌+◌, subst, arith, length-append, inl, inr}
use Rattle.std.proofs.lemmas.Bool.{cases_Bool}
use Rattle.std.proofs.lemmas.List.{take_all, reverse-append, reverse-reverse, take-append-le}
use Rattle.std.specs.List.{suffix_len, prefix_len}
use Rattle.abnfblocks.specs.KeptSteps.{is_blank_kind, cut_blanks}
use Rattle.abnfblocks.specs.TextLines.{NumberedLine}

abbrev is_blank_line : NumberedLine → Bool
is_blank_line line = is_blank_kind line.kind

suffix-push : (lines : List NumberedLine) (line : NumberedLine)
    → suffix_len is_blank_line (lines ++ line ∷ []) ≡ prefix_len is_blank_line (line ∷ reverse lines)
suffix-push lines line = ap (λ (r : List NumberedLine). prefix_len is_blank_line r) (reverse-append lines (line ∷ []))

pub cut-push_blank : (lines : List NumberedLine) (line : NumberedLine) → is_blank_kind line.kind ≡ true
    → cut_blanks (lines ++ line ∷ []) ≡ cut_blanks lines
cut-push_blank lines line e =
    let more : prefix_len is_blank_line (line ∷ reverse lines) ≡ 1 + suffix_len is_blank_line lines = rw e refl in
    let pushed : suffix_len is_blank_line (lines ++ line ∷ []) ≡ 1 + suffix_len is_blank_line lines =
    suffix-push lines line ∙ more in
    let size : length (lines ++ line ∷ []) - suffix_len is_blank_line (lines ++ line ∷ [])
    ≡ length lines - suffix_len is_blank_line lines = omega (arith, pushed, length-append lines (line ∷ [])) in
    ap (λ (n : ℕ). take n (lines ++ line ∷ [])) size
    ∙ take-append-le (length lines - suffix_len is_blank_line lines) lines (line ∷ []) (omega arith)

pub cut-push_other : (lines : List NumberedLine) (line : NumberedLine) → is_blank_kind line.kind ≡ false
    → cut_blanks (lines ++ line ∷ []) ≡ lines ++ line ∷ []
cut-push_other lines line e =
    let none : prefix_len is_blank_line (line ∷ reverse lines) ≡ 0 = rw e refl in
    let pushed : suffix_len is_blank_line (lines ++ line ∷ []) ≡ 0 = suffix-push lines line ∙ none in
    take_all _ (lines ++ line ∷ []) (omega (arith, pushed))

cut-twice : (backward : List NumberedLine) → cut_blanks (cut_blanks (reverse backward)) ≡ cut_blanks (reverse backward)
cut-twice [] = refl
cut-twice (line ∷ backward) =
    let whole : reverse (line ∷ backward) ≡ reverse backward ++ line ∷ [] = reverse-append (line ∷ []) backward in
    elim (cases_Bool (is_blank_kind line.kind)) [
      | inl e ↦ (let same = cut-push_blank (reverse backward) line e in
          rw (whole, same) (cut-twice backward))
      | inr e ↦ (let same = cut-push_other (reverse backward) line e in rw (whole, same) same)
    ]

pub cut-cut : (lines : List NumberedLine) → cut_blanks (cut_blanks lines) ≡ cut_blanks lines
cut-cut lines = subst (λ (xs : List NumberedLine). cut_blanks (cut_blanks xs) ≡ cut_blanks xs) (reverse-reverse lines)
    (cut-twice (reverse lines))
