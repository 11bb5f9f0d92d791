-- The pieces for runs, by one core rule after another.
-- Serves: symbol_pieces
use Rattle.std.proofs.Common.{◌≡◌, ℕ, ◌+◌, ◌<◌, List, [], ◌∷◌, ◌++◌, Some, None, length, drop, get_or, refl, sym}
use Rattle.std.proofs.Common.{ap, ◌∙◌, add-one, append_assoc, drop-cons}
use Rattle.ruletable.specs.declared.alphabet.Alphabet.{Alphabet}
use Rattle.refusedlines.specs.SymbolPieces.{pieces_by, pieces_with, rest_without}
use Rattle.refusedlines.specs.declared.letterruns.core_rule.CoreRule.{CoreRule}
use Rattle.refusedlines.specs.declared.letterruns.run.LetterRun.{LetterRun}
use Rattle.refusedlines.specs.declared.letterruns.reported.ReportedLetters.{ReportedLetters}
use Rattle.refusedlines.specs.declared.letterruns.reported.ReportedLetters.TheVariants.{Named}

module _ (alphabet : Alphabet) (rules : List CoreRule) (i : ℕ) (d : CoreRule) (runs : List LetterRun)
    (lt : i < length rules) where
  next_rule : pieces_by alphabet (drop i rules) runs
      ≡ pieces_with (get_or rules i d) (pieces_by alphabet (drop (i + 1) rules)) runs
      (rest_without alphabet (get_or rules i d) runs)
  next_rule = rw (add-one, drop-cons rules i d lt) refl

  pub rule_named : (all more whole : List ReportedLetters) (rest : List LetterRun)
      → rest_without alphabet (get_or rules i d) runs ≡ Some rest
      → all ++ pieces_by alphabet (drop i rules) runs ≡ whole → more ≡ all ++ Named (get_or rules i d) ∷ []
      → more ++ pieces_by alphabet (drop (i + 1) rules) rest ≡ whole
  rule_named all more whole rest is before put =
      let those = pieces_by alphabet (drop (i + 1) rules) in
      let step : pieces_by alphabet (drop i rules) runs ≡ Named (get_or rules i d) ∷ those rest =
      next_rule ∙ ap (pieces_with (get_or rules i d) those runs) is in
      ap (λ v. v ++ those rest) put ∙ append_assoc all (Named (get_or rules i d) ∷ []) (those rest)
      ∙ ap (λ v. all ++ v) (sym step) ∙ before

  pub rule_passed : (all whole : List ReportedLetters) → rest_without alphabet (get_or rules i d) runs ≡ None
      → all ++ pieces_by alphabet (drop i rules) runs ≡ whole
      → all ++ pieces_by alphabet (drop (i + 1) rules) runs ≡ whole
  rule_passed all whole is before =
      let those = pieces_by alphabet (drop (i + 1) rules) in
      ap (λ v. all ++ v) (sym (next_rule ∙ ap (pieces_with (get_or rules i d) those runs) is)) ∙ before
