use Rattle.pegnodes.proofs.DecidesLemmas.{no_byte, first_other, first_alone}
use Rattle.pegnodes.proofs.by_byte.by_bytes.Goals as goal

pub returns-in-None : goal.returns-in-None
returns-in-None c = λ g n. no_byte g c.args.b n c.args.bytes.now c.in-None.ensures.value

pub returns-then-first-b : goal.returns-then-first-b
returns-then-first-b c = λ g n.
    first_other g c.args.b n c.in-Some.first.now c.args.bytes.now c.in-Some.ensures.value c.if-first-b.true

pub returns-then-bytes-eq1 : goal.returns-then-bytes-eq1
returns-then-bytes-eq1 c = λ g n.
    first_alone g c.args.b n c.in-Some.first.now c.args.bytes.now c.in-Some.ensures.value c.if-first-b.false
    c.if-bytes-eq1.true
