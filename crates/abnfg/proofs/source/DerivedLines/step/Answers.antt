-- The first line, or the one after the last.
use Rattle.std.proofs.Common.{List, Option, Vec, Global, subst, sym, ℕ}
use Rattle.std.specs.Prelude.{IfOk, IfSome}
use Rattle.rulelines.specs.LineSets.{IsLineAfter, IsLineIn}
use Rattle.abnfg.proofs.ListedLinesLemmas.{StepReported, reported_first, reported_next}
use Rattle.abnfg.proofs.source.DerivedLines.step.Goals as goal

pub returns-in-None-clause-next : goal.returns-in-None-clause-next
returns-in-None-clause-next c =
    let lines = IsLineIn c.args.self.now.lines in
    subst (λ (v : Option (Vec ℕ Global)). StepReported lines v c.first.result) (sym c.in-None.is)
    (reported_first lines c.first.result c.first.ensures.first)

pub returns-in-Some-clause-next : goal.returns-in-Some-clause-next
returns-in-Some-clause-next c =
    let lines = IsLineIn c.args.self.now.lines in
    subst (λ (v : Option (Vec ℕ Global)). StepReported lines v c.after.result) (sym c.in-Some.is)
    (reported_next lines c.in-Some.last c.after.result
    (subst (λ (v : List ℕ). IfOk c.after.result (λ reported. IfSome reported (IsLineAfter lines v)))
    c.deref.ensures.value c.after.ensures.after))
