use Rattle.std.proofs.Common.{◌++◌, ◌∙◌, ap, ℕ, decimal}
use Rattle.pegexplain.proofs.PegHintsLemmas.{seven-join}
use Rattle.pegexplain.proofs.hints.held.push_line.Goals as goal

pub returns : goal.returns
returns c = rw c.in-Some.is (seven-join _ _ _ _ _ _ _ _ _ _ _ _ _ _ _ c.in_ok-extend_from_slice.ensures.items
    (c.in_ok-push_number.ensures ∙ ap (λ (n : ℕ). c.extend_from_slice.new.self.items ++ decimal n) c.in_ok-own.ensures)
    c.in_ok-extend_from_slice-2.ensures.items c.in_ok-push_cut.ensures c.in_ok-extend_from_slice-3.ensures.items
    c.in_ok-push_number-2.ensures c.in_ok-extend_from_slice-4.ensures.items)
