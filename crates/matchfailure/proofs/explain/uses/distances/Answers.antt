use Rattle.std.proofs.Common.{ap, sym, ◌∙◌, subst, arith, length}
use Rattle.std.proofs.lemmas.List.{length-map}
use Rattle.fixpoint.specs.StepRows.{AreStepsWithin, rows_of, slices_of}
use Rattle.pegnodes.specs.Nodes.{shapes_of}
use Rattle.matchfailure.proofs.UseRowsLemmas.{use-rows-within, count-rows}
use Rattle.matchfailure.proofs.explain.uses.distances.Goals as goal

pub chains_from-requires-clause-within : goal.chains_from-requires-clause-within
chains_from-requires-clause-within c =
    subst AreStepsWithin (sym (ap slices_of c.deref-2.ensures.value ∙ c.in_ok-steps.ensures
    ∙ ap rows_of c.deref.ensures.value ∙ c.in_ok-rows.ensures))
    (use-rows-within c.args.peg.now c.start-start.ensures.sound)

pub chains_from-requires-clause-from : goal.chains_from-requires-clause-from
chains_from-requires-clause-from c =
    let sound = c.start-start.ensures.sound in
    let rows = ap length (c.in_ok-steps.ensures ∙ ap rows_of c.deref.ensures.value ∙ c.in_ok-rows.ensures) in
    let count = length-map c.in_ok-steps.steps.items (λ row. row.now) in
    let same = ap length c.deref-2.ensures.value in
    omega (
      arith,
      sound.start_is_rule,
      sound.spelled.count,
      rows,
      count,
      same,
      c.start-start.ensures.id,
      count-rows (shapes_of c.args.peg.now.nodes) 0 c.args.peg.now.bodies,
    )
