use Rattle.lazydfa.proofs.ContsLemmas.{stack_none}
use Rattle.lazydfa.proofs.TransitionLemmas.{reads_nowhere, reads_not, reads_one}
use Rattle.lazydfa.proofs.transition.read_on.Goals as goal

pub returns-then-id-eq0-clause-adds : goal.returns-then-id-eq0-clause-adds
returns-then-id-eq0-clause-adds c =
    reads_nowhere c.args.tables.now c.args.value c.args.conts.now.items.items _ _
    (stack_none c.args.conts.now.items.items c.args.id c.if-id-eq0.true)

pub returns-clause-adds : goal.returns-clause-adds
returns-clause-adds c =
    reads_one c.args.tables.now c.args.value _ _ _ c.cont_at-cont.result.node c.cont_at-cont.result.step _
    c.in_ok-next.next _ _ c.cont_at-cont.ensures.is c.in_ok-next.ensures.kept
    (c.reads.ensures.value.0 c.if-not-reads.false) c.in_ok-next.ensures.is c.in_ok-add.ensures

pub returns-then-not-reads-clause-adds : goal.returns-then-not-reads-clause-adds
returns-then-not-reads-clause-adds c =
    reads_not c.args.tables.now c.args.value _ _ c.cont_at-cont.result.node c.cont_at-cont.result.step _ _
    c.cont_at-cont.ensures.is
    (λ r. let t = c.reads.ensures.value.1 r in let f = c.if-not-reads.true in absurd (cc (t, f)))
