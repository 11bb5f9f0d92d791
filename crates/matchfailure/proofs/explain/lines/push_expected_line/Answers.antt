use Rattle.std.proofs.Common.{ap, ◌∙◌, ◌++◌, List, ℕ}
use Rattle.std.specs.Prelude.{codes}
use Rattle.diagnostics.specs.ShownBytes.{cut}
use Rattle.matchfailure.proofs.PieceJoinsLemmas.{six-pieces}
use Rattle.matchfailure.proofs.explain.lines.push_expected_line.Goals as goal

pub returns : goal.returns
returns c =
    six-pieces _ _ _ _ _ _ _ (codes "  expected ") _ _ (codes " in ") _ (codes "\n")
    c.in_ok-extend_from_slice.ensures.items
    (c.in_ok-push_cut.ensures ∙ ap (λ (z : List ℕ). c.extend_from_slice.new.self.items ++ cut z)
    (c.as_slice.ensures.value ∙ c.in_ok-leaf.ensures))
    c.in_ok-push_begun.ensures c.in_ok-extend_from_slice-2.ensures.items
    (c.in_ok-push_cut-2.ensures
    ∙ ap (λ (z : List ℕ). c.extend_from_slice-2.new.self.items ++ cut z) c.rule_name.ensures)
    c.in_ok-extend_from_slice-3.ensures.items
