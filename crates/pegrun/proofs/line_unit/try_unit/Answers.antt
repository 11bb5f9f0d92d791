-- What was kept of the text is that of the attempt.
use Rattle.std.proofs.Common.{[], ◌∷◌, ◌++◌, ◌+◌, ◌∙◌, ℕ, List, Some, ap, refl, subst, sym, true}
use Rattle.feed.specs.Feed.{bytes_of}
use Rattle.pegrun.specs.Attempts.{IsAttempt, step_after}
use Rattle.pegrun.proofs.line_unit.try_unit.Goals as goal

pub returns-clause-answer : goal.returns-clause-answer
returns-clause-answer g c =
    let attempted = c.attempt_open-attempted.result in
    let window : List ℕ = bytes_of c.args.feed.now ++ 0 ∷ [] in
    let style = c.args.settings.now.options.style in
    let printed = c.print_draft-printed in (
      printed.result,
      printed.ensures.answer c.args.peg.now window true c.args.settings.now.options
          (subst (λ (t : List ℕ). IsAttempt c.args.peg.now window true style (Some t) (Some c.as_slice.result.now)
          attempted) c.new-draft.ensures.text
          (subst (λ (t : List ℕ). IsAttempt c.args.peg.now window true style (Some c.new-draft.result.text.items)
          (Some t) attempted) (sym c.as_slice.ensures.value) c.attempt_open-attempted.ensures.answer)) refl,
      λ long. absurd (let differs = (rw (printed.ensures.long long) at c.if-eq.ensures) in cc differs),
      c.step_of.ensures
          ∙ ap (λ (n : ℕ). step_after c.args.settings.now c.args.start (c.args.start + n) printed.result)
          c.len.ensures.len,
    )
