use Rattle.std.proofs.Common.{◌++◌, ◌∙◌, ap, ℕ, Option}
use Rattle.std.proofs.lemmas.Result.{on_ok_weaker}
use Rattle.pegexplain.specs.CodeLeaves.{held_found}
use Rattle.pegexplain.specs.PegHints.{held_line}
use Rattle.pegexplain.proofs.PegHintsLemmas.{four-join}
use Rattle.pegexplain.proofs.hints.held.push_held.Goals as goal

pub returns : goal.returns
returns c =
    let held = held_found c.args.held in
    on_ok_weaker c.push_line.result
    (λ pushed. four-join _ _ _ _ _ _ _ _ _ c.in_ok-extend_from_slice.ensures.items c.in_ok-push_cut.ensures
    c.in_ok-extend_from_slice-2.ensures.items
    (pushed ∙ ap (λ (l : Option ℕ). c.extend_from_slice-2.new.self.items ++ held_line l held) c.in_ok-line.ensures))
    c.push_line.ensures
