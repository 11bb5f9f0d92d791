-- A line that goes on with one more byte.
-- Serves: finding_messages
use Rattle.std.proofs.Common.{◌≡◌, ◌∙◌, ap, sym, refl, ℕ, ◌+◌, false, List, [], ◌∷◌, ◌++◌, take, drop}
use Rattle.std.proofs.Math.Seq.{take-add}
use Rattle.std.proofs.lemmas.List.{drop-drop}
use Rattle.findings.specs.NameColumns.{lines_continued}
use Rattle.ruletable.specs.Lines.{ends_line}
use Rattle.ruletable.specs.declared.lines.LineRule.{LineRule}

module _ (line rest tail : List ℕ) (n b : ℕ) (at : drop n line ≡ rest) (is : rest ≡ b ∷ tail) where
  pub rest_goes_on : drop (n + 1) line ≡ tail
  rest_goes_on = sym (drop-drop 1 n line) ∙ ap (drop 1) (at ∙ is)

  pub line_goes_on : take (n + 1) line ≡ take n line ++ b ∷ []
  line_goes_on = take-add n 1 line ∙ ap (λ (l : List ℕ). take n line ++ take 1 l) (at ∙ is)

  pub lines_go_on : (rule : LineRule) → ends_line rule b tail ≡ false
      → lines_continued rule (take (n + 1) line) tail ≡ lines_continued rule (take n line) rest
  lines_go_on rule inside = ap (λ (l : List ℕ). lines_continued rule l tail) line_goes_on
      ∙ sym (ap (lines_continued rule (take n line)) is ∙ rw inside refl)
