-- The first piece is all that is held, or a prefix of it.
use Rattle.pegrun.proofs.AttemptLemmas.{attempt_after}
use Rattle.pegrun.proofs.unit.attempt_front.Goals as goal

pub returns-clause-answer : goal.returns-clause-answer
returns-clause-answer g c =
    attempt_after c.args.peg.now c.front-front.result.now c.args.feed.now.ring.items c.args.style
    (g.O.Sink.contents c.args.out.now) (g.O.Sink.contents c.print_unit-attempted.new.out) c.print_unit-attempted.result
    c.front-front.ensures c.print_unit-attempted.ensures.answer
    (λ same. absurd (let differs = (rw same at c.if-eq.ensures) in cc differs)) c.args.more
