use Rattle.std.proofs.Common.{map, subst, sym}
use Rattle.std.proofs.lemmas.List.{length-map}
use Rattle.std.specs.Prelude.{IfSome}
use Rattle.flatgrammar.specs.FlatVerdicts.{IsFlatVerdict}
use Rattle.lazydfa.specs.Memos.{IsMemo, IsRunStop}
use Rattle.lazydfa.proofs.IsRunVerdictLemmas.{verdict_of_run}
use Rattle.lazydfa.proofs.automaton.Automaton.viable.Goals as goal

pub invariant_of-self-2 : goal.invariant_of-self-2
invariant_of-self-2 g c = (
  c.self.invariant.0,
  c.self.invariant.1,
  c.self.invariant.2,
  c.self.invariant.3,
  subst (λ v. IsMemo c.self.inside.tables.value v c.run.new.memo) c.deref.ensures.value
      (subst (λ v. IsMemo v c.deref.result.now c.run.new.memo) c.deref-2.ensures c.run.ensures.memo),
  c.self.invariant.5,
)

pub returns-clause-verdict : goal.returns-clause-verdict
returns-clause-verdict g c =
    let x = map g.L.Letter.number c.args.line.now in
    let tables = c.self.inside.tables.value in
    let memo = subst (λ v. IsMemo v c.deref.result.now c.run.new.memo) c.deref-2.ensures c.run.ensures.memo in
    let stops = subst (λ v. IfSome v (IsRunStop c.deref-2.result.now c.deref.result.now c.run.new.memo x)) c.in-Some.is
    c.in_ok-stop.ensures.stops in
    let stop = subst (λ v. IsRunStop v c.deref.result.now c.run.new.memo x c.in-Some.stop) c.deref-2.ensures stops in
    subst (λ v. IsFlatVerdict v x c.verdict_at-verdict.result) c.self.view_is
    (verdict_of_run tables c.self.invariant.0 c.self.invariant.1 c.self.invariant.2 x c.verdict_at-verdict.result
    (c.verdict_at-verdict.ensures tables x memo (sym (length-map c.args.line.now g.L.Letter.number)) stop))
