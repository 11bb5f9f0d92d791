-- The lines of parts.
-- Serves: explain_refused
use Rattle.std.proofs.Common.{◌≡◌, ℕ, zero, suc, ◌+◌, ◌-◌, ◌<◌, ◌≤◌, min, List, [], ◌∷◌, ◌++◌, Option, None, Some}
use Rattle.std.proofs.Common.{append_assoc, ap, arith, if◌then◌else◌, length, refl, slice_get, sym, take, ◌∙◌}
use Rattle.std.proofs.lemmas.List.{append-nil, take_min, take_more}
use Rattle.std.proofs.lemmas.List.Concat.{flat_map-append}
use Rattle.std.proofs.lemmas.Option.{get_or_from_slice_get, slice_get_within}
use Rattle.std.specs.List.{flat_map}
use Rattle.diagnostics.specs.FirstBytes.{fact_line}
use Rattle.diagnostics.specs.NoteLines.{more_reported}
use Rattle.refusedlines.specs.RefusedText.{only_part, part_lines, restates}

-- no text, or several
pub several_parts : (symbols : List ℕ) (parts : List (List ℕ)) → (length parts ≡ 1 → ⊥) → only_part symbols parts ≡ None
several_parts symbols [] several = refl
several_parts symbols (part ∷ []) several = absurd (several refl)
several_parts symbols (part ∷ other ∷ parts) several = refl

-- a single one
pub single_part : (symbols : List ℕ) (parts : List (List ℕ)) (part : List ℕ) → length parts ≡ 1
    → slice_get parts 0 ≡ Some part → only_part symbols parts ≡ (if restates symbols part then Some part else None)
single_part symbols [] part one is = absurd (cc one)
single_part symbols (first ∷ []) part one is =
    let same : first ≡ part = cc is in
    ap (λ (v : List ℕ). if restates symbols v then Some v else None) same
single_part symbols (first ∷ other ∷ parts) part one is = absurd (let h = one in cc h)

-- the line of one more
pub line_more : (parts : List (List ℕ)) (i : ℕ) (part old mid new : List ℕ) → slice_get parts i ≡ Some part
    → mid ≡ old ++ flat_map fact_line (take i parts) → new ≡ mid ++ fact_line part
    → new ≡ old ++ flat_map fact_line (take (i + 1) parts)
line_more parts i part old mid new is before put =
    let lt = slice_get_within parts i part is in
    let item = get_or_from_slice_get parts i part [] is in
    let lines : flat_map fact_line (take (i + 1) parts) ≡ flat_map fact_line (take i parts) ++ fact_line part =
    ap (flat_map fact_line) (take_more parts i [] lt ∙ ap (λ (v : List ℕ). take i parts ++ v ∷ []) item)
    ∙ flat_map-append fact_line (take i parts) (part ∷ [])
    ∙ ap (λ (z : List ℕ). flat_map fact_line (take i parts) ++ z) (append-nil (fact_line part)) in
    put ∙ ap (λ (z : List ℕ). z ++ fact_line part) before
    ∙ append_assoc old (flat_map fact_line (take i parts)) (fact_line part)
    ∙ ap (λ (z : List ℕ). old ++ z) (sym lines)

-- the lines of the first ones, and how many more there are
pub lines_shown : (parts : List (List ℕ)) (shown : ℕ) (old mid new : List ℕ) → shown ≡ min (length parts) 16
    → mid ≡ old ++ flat_map fact_line (take shown parts) → new ≡ mid ++ more_reported (length parts - shown)
    → new ≡ old ++ part_lines None parts
lines_shown parts shown old mid new is first more =
    let turned : min (length parts) 16 ≡ min 16 (length parts) = omega arith in
    let front : take shown parts ≡ take 16 parts = ap (λ (n : ℕ). take n parts) (is ∙ turned) ∙ take_min 16 parts in
    let left : length parts - shown ≡ length parts - 16 = omega (arith, is) in
    more ∙ ap (λ (z : List ℕ). z ++ more_reported (length parts - shown))
    (first ∙ ap (λ (v : List (List ℕ)). old ++ flat_map fact_line v) front)
    ∙ ap (λ (n : ℕ). (old ++ flat_map fact_line (take 16 parts)) ++ more_reported n) left
    ∙ append_assoc old (flat_map fact_line (take 16 parts)) (more_reported (length parts - 16))
