-- What was kept of the text is that of the attempt.
use Rattle.std.proofs.Common.{ℕ, List, Some, refl, subst, sym}
use Rattle.feed.specs.Feed.{bytes_of}
use Rattle.pegrun.specs.Attempts.{IsAttempt}
use Rattle.pegrun.proofs.unit.attempt_within.Goals as goal

pub returns-in-Some-clause-answer : goal.returns-in-Some-clause-answer
returns-in-Some-clause-answer g c =
    let attempted = c.attempt_unit-attempted.result in
    c.print_draft.ensures.answer c.args.peg.now (bytes_of c.args.feed.now) c.args.more c.args.options
    (subst (λ (t : List ℕ). IsAttempt c.args.peg.now (bytes_of c.args.feed.now) c.args.more c.args.options.style
    (Some t) (Some c.as_slice.result.now) attempted) c.new-draft.ensures.text
    (subst (λ (t : List ℕ). IsAttempt c.args.peg.now (bytes_of c.args.feed.now) c.args.more c.args.options.style
    (Some c.new-draft.result.text.items) (Some t) attempted) (sym c.as_slice.ensures.value)
    c.attempt_unit-attempted.ensures.answer)) refl
