-- The first piece and any byte after it begin with the piece.
use Rattle.std.proofs.Common.{[], ◌∷◌, ◌++◌, refl, subst, sym, true}
use Rattle.feed.specs.Feed.{bytes_of}
use Rattle.pegrun.specs.ByteUnits.{AreByteUnits}
use Rattle.pegrun.proofs.AttemptLemmas.{attempt_after}
use Rattle.pegrun.proofs.line_unit.attempt_piece.Goals as goal

pub returns-then-eq-2-clause-answer : goal.returns-then-eq-2-clause-answer
returns-then-eq-2-clause-answer g c =
    attempt_after c.args.peg.now (bytes_of c.args.feed.now) (bytes_of c.args.feed.now ++ 0 ∷ []) c.args.style
    (g.O.Sink.contents c.args.out.now) (g.O.Sink.contents c.attempt_front.new.out) c.in-Some.attempted (0 ∷ [], refl)
    c.in-Some.ensures.answer (λ same. absurd (let differs = (rw same at c.if-eq.ensures) in cc differs)) true

pub returns-then-eq-2-clause-units : goal.returns-then-eq-2-clause-units
returns-then-eq-2-clause-units g c = λ are.
    c.learn.ensures.units (subst (AreByteUnits c.args.peg.now c.args.style) (sym c.in-Some.ensures.units) are)

pub returns-else-eq-2-clause-answer : goal.returns-else-eq-2-clause-answer
returns-else-eq-2-clause-answer g c =
    attempt_after c.args.peg.now (bytes_of c.args.feed.now) (bytes_of c.args.feed.now ++ 0 ∷ []) c.args.style
    (g.O.Sink.contents c.args.out.now) (g.O.Sink.contents c.attempt_front.new.out) c.in-Some.attempted (0 ∷ [], refl)
    c.in-Some.ensures.answer (λ same. absurd (let differs = (rw same at c.if-eq.ensures) in cc differs)) true
