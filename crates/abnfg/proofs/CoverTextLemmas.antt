-- The texts of lines that reach goals, one after another.
-- Serves: abnfg_main (right)
use Rattle.std.proofs.Common.{◌≡◌, ℕ, ◌+◌, ◌<◌, ◌≤◌, List, [], ◌∷◌, ◌++◌, length, sym, ◌∙◌, ap, subst}
use Rattle.std.proofs.Common.{append_assoc, append-nil, arith, get_or, take, Option}
use Rattle.std.specs.List.{flat_map}
use Rattle.std.proofs.lemmas.Grind.{flat_map-append}
use Rattle.std.proofs.lemmas.List.{length-take-le, take_all, take_more}
use Rattle.std.specs.Io.KnownBytes.{Appends}
use Rattle.abnfg.specs.CoverGoals.{reached_line, reached_lines}
use Rattle.abnfg.specs.CoverLists.{line_texts}
use Rattle.abnfread.specs.Element.{Rule}
use Rattle.coverlines.specs.declared.cover.CoverLine.{CoverLine}
use Rattle.refusedlines.specs.declared.refusal.LineUnit.{LineUnit}
use Rattle.ruletable.proofs.AppendsLemmas.{Appends-join, AppendsPart-at}
use Rattle.ruletable.specs.Writing.{AppendsPart}

-- one piece more
pub pieces_more : {X : Type 0} (f : X → List ℕ) (xs : List X) (i : ℕ) (d : X) → i < length xs
    → flat_map f (take (i + 1) xs) ≡ flat_map f (take i xs) ++ f (get_or xs i d)
pieces_more f xs i d lt =
    ap (λ v. flat_map f v) (take_more xs i d lt) ∙ (flat_map-append f (take i xs) (get_or xs i d ∷ [])
    ∙ ap (λ v. flat_map f (take i xs) ++ v) (append-nil (f (get_or xs i d))))

-- .. after what was there
pub pieces_pushed : {X : Type 0} (f : X → List ℕ) (xs : List X) (i : ℕ) (x : X) (old mid new : List ℕ) → i < length xs
    → x ≡ get_or xs i x → mid ≡ old ++ flat_map f (take i xs) → new ≡ mid ++ f x
    → new ≡ old ++ flat_map f (take (i + 1) xs)
pieces_pushed f xs i x old mid new lt is before now =
    now ∙ (ap (λ v. v ++ f x) before ∙ (append_assoc old (flat_map f (take i xs)) (f x)
    ∙ ap (λ v. old ++ v) (ap (λ v. flat_map f (take i xs) ++ f v) is ∙ sym (pieces_more f xs i x lt))))

-- the texts of lines, of which some were written
module _ (text_of : List ℕ → List ℕ) (lines : List CoverLine) (i : ℕ) (line : CoverLine) (a b c : Option (List ℕ))
    (lt : i < length lines) (is : line ≡ get_or lines i line)
    (some : Appends a b (line_texts text_of (take i lines))) where
  abbrev text : CoverLine → List ℕ
  text l = text_of l.line.items

  -- .. and one more
  pub texts_more : Appends b c (text_of line.line.items) → Appends a c (line_texts text_of (take (i + 1) lines))
  texts_more one =
      subst (λ v. Appends a c v) (sym (pieces_more text lines i line lt))
      (subst (λ (l : CoverLine). Appends a c (line_texts text_of (take i lines) ++ text l)) is
      (Appends-join a b c (line_texts text_of (take i lines)) (text line) some one))

  -- .. and a part of one
  pub texts_cut : AppendsPart b c (text_of line.line.items) → AppendsPart a c (line_texts text_of lines)
  texts_cut part =
      AppendsPart-at text lines i line a b c lt some
      (subst (λ (l : CoverLine). AppendsPart b c (text l)) is part)

  -- .. and no more
  pub texts_stop : Appends b c [] → (n : ℕ) × Appends a c (line_texts text_of (take n lines))
  texts_stop none = (
    i,
    subst (λ v. Appends a c v) (append-nil (line_texts text_of (take i lines)))
        (Appends-join a b c (line_texts text_of (take i lines)) [] some none),
  )

module _ (unit : LineUnit) (rules : List Rule) where
  -- what one line more is for
  reached_push : (number : ℕ) (lines : List CoverLine) (line : CoverLine)
      → reached_lines unit rules number (lines ++ line ∷ []) ≡ reached_lines unit rules number lines
      ++ reached_line unit rules (number + length lines) line.goal
  reached_push number [] line =
      append-nil (reached_line unit rules number line.goal)
      ∙ ap (λ (n : ℕ). reached_line unit rules n line.goal) (omega arith)
  reached_push number (first ∷ lines) line =
      ap (λ v. reached_line unit rules number first.goal ++ v) (reached_push (number + 1) lines line
      ∙ ap (λ (n : ℕ). reached_lines unit rules (number + 1) lines ++ reached_line unit rules n line.goal)
      (omega arith)) ∙ sym (append_assoc (reached_line unit rules number first.goal)
      (reached_lines unit rules (number + 1) lines)
      (reached_line unit rules (number + length (first ∷ lines)) line.goal))

  reached_more : (lines : List CoverLine) (i : ℕ) (d : CoverLine) → i < length lines
      → reached_lines unit rules 1 (take (i + 1) lines) ≡ reached_lines unit rules 1 (take i lines)
      ++ reached_line unit rules (i + 1) (get_or lines i d).goal
  reached_more lines i d lt =
      ap (λ v. reached_lines unit rules 1 v) (take_more lines i d lt)
      ∙ (reached_push 1 (take i lines) (get_or lines i d)
      ∙ ap (λ (n : ℕ). reached_lines unit rules 1 (take i lines)
      ++ reached_line unit rules n (get_or lines i d).goal) number_is)
    where
      number_is : 1 + length (take i lines) ≡ i + 1
      number_is = let t = length-take-le i lines (omega (arith, lt)) in omega (arith, t)

  pub reached_pushed : (lines : List CoverLine) (i : ℕ) (line : CoverLine) (old mid new : List ℕ) → i < length lines
      → line ≡ get_or lines i line → mid ≡ old ++ reached_lines unit rules 1 (take i lines)
      → new ≡ mid ++ reached_line unit rules (i + 1) line.goal
      → new ≡ old ++ reached_lines unit rules 1 (take (i + 1) lines)
  reached_pushed lines i line old mid new lt is before now =
      now ∙ (ap (λ v. v ++ reached_line unit rules (i + 1) line.goal) before
      ∙ (append_assoc old (reached_lines unit rules 1 (take i lines)) (reached_line unit rules (i + 1) line.goal)
      ∙ ap (λ v. old ++ v)
      (ap (λ (l : CoverLine). reached_lines unit rules 1 (take i lines) ++ reached_line unit rules (i + 1) l.goal) is
      ∙ sym (reached_more lines i line lt))))

  pub reached_all : (lines : List CoverLine) (i : ℕ) (old new : List ℕ) → length lines ≤ i
      → new ≡ old ++ reached_lines unit rules 1 (take i lines) → new ≡ old ++ reached_lines unit rules 1 lines
  reached_all lines i old new le is =
      is ∙ ap (λ v. old ++ reached_lines unit rules 1 v) (take_all i lines le)
