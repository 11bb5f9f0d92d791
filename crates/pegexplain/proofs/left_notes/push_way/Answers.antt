use Rattle.std.proofs.Common.{Global, Option, Some, ℕ, List, Vec, refl, sym, ap, ◌∙◌, subst}
use Rattle.std.specs.Prelude.{option_map}
use Rattle.fixpoint.specs.StepRows.{AreStepsWithin, rows_of}
use Rattle.ruletable.specs.Rules.{find_in}
use Rattle.fixpoint.specs.ShortChains.{IsRoundIfAny}
use Rattle.pegexplain.specs.NullTests.{null_mark_of, nullable_by}
use Rattle.pegexplain.proofs.LeftWithinLemmas.{found-below, rows-within}
use Rattle.pegexplain.proofs.left_notes.push_way.Goals as goal

pub left_way-requires-clause-within : goal.left_way-requires-clause-within
left_way-requires-clause-within c =
    let rows = (let reported = c.in_ok-rows.ensures.rows in rw c.deref.ensures.value at reported) in
    subst AreStepsWithin (sym (ap rows_of c.deref-2.ensures.value ∙ rows))
    (rows-within (find_in c.args.positions.now.rules) _ (found-below c.args.positions.now.rules)
    (nullable_by (null_mark_of c.args.positions.now.rules c.args.positions.now.nulls.items))
    c.args.positions.now.rules.rules
    refl)

pub returns-in-Some : goal.returns-in-Some
returns-in-Some c =
    let rows = (let reported = c.in_ok-rows.ensures.rows in rw c.deref.ensures.value at reported) in (
      Some c.in-Some.chain.items,
      subst (λ (steps : List (List ℕ)). IsRoundIfAny steps c.args.id (Some c.in-Some.chain.items))
          (ap rows_of c.deref-2.ensures.value ∙ rows)
          (subst (λ (o : Option (Vec ℕ Global)). IsRoundIfAny (rows_of c.deref-2.result.now) c.args.id
          (option_map (λ v. v.items) o)) c.in-Some.is c.in_ok-chain.ensures),
      (let reported = c.in_ok-push_steps-in-Some.ensures in rw c.deref-in-Some.ensures.value at reported),
    )
