-- A part of the text of one byte after those before it.
use Rattle.std.proofs.Common.{[], ap, subst}
use Rattle.std.specs.Prelude.{unwrap_or}
use Rattle.ruletable.specs.Writing.{AppendsPart}
use Rattle.ruletable.proofs.AppendsLemmas.{AppendsPart-at}
use Rattle.pegrun.specs.ByteUnits.{text_by}
use Rattle.pegrun.proofs.byte_units.ByteUnits.write.Goals as goal

pub returns-in-Err-clause-bytes : goal.returns-in-Err-clause-bytes
returns-in-Err-clause-bytes g c =
    AppendsPart-at (λ b. unwrap_or (text_by c.args.self.now b) []) c.args.bytes.now c.loop-byte.byte-index _
    (g.O.Sink.contents c.args.out.now) (g.O.Sink.contents c.loop-byte.out) (g.O.Sink.contents c.write_whole.new.w)
    c.loop-byte-test.true c.loop-byte.invariant.taken
    (subst (λ t. AppendsPart (g.O.Sink.contents c.loop-byte.out) (g.O.Sink.contents c.write_whole.new.w) t)
    (ap (λ o. unwrap_or o []) c.in-Some.ensures) c.in-Err.ensures.bytes)
