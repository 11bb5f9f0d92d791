-- The id of a rule with the list.
use Rattle.std.proofs.Common.{◌∙◌, ℕ, Vec, Global, ap, sym}
use Rattle.std.proofs.lemmas.Bool.Decides.{Decides-eqb}
use Rattle.std.proofs.lemmas.Slice.Eq.{slice_eq-Decides}
use Rattle.coverlines.proofs.RuleBasesLemmas as b
use Rattle.coverlines.proofs.needed.ids_with.Goals as goal
use Rattle.coverlines.proofs.needed.ids_with.Goals.{then-eq+in_ok-push, else-eq}

pub loop-one-preserved : goal.loop-one-preserved
loop-one-preserved c = elim c.if-eq.branch [
  | then-eq+in_ok-push w ↦ b.next_id c.args.named.now c.loop-one.one-index c.one-item.result c.args.word.now
      c.loop-one.ids.items c.if-eq.ids.items c.loop-one-test.true c.one-item.is
      (sym c.as_slice.ensures.value ∙ (slice_eq-Decides Decides-eqb c.as_slice.result.now c.args.word.now c.eq.result
      c.eq.ensures).0 w.if-eq.true) (ap (λ (v : Vec ℕ Global). v.items) w.ids-is ∙ w.in_ok-push.ensures.items)
      c.loop-one.invariant
  | else-eq w ↦ rw w.ids-is c.loop-one.invariant
]
