use Rattle.std.proofs.Common.{ℕ, ◌↔◌, map, subst}
use Rattle.std.specs.Prelude.{IfSome, IsTrue}
use Rattle.std.proofs.lemmas.List.{length-map}
use Rattle.earleyitems.specs.ChartSets.{set_at, IsSet}
use Rattle.flatgrammar.specs.FlatVerdicts.{DerivesLine}
use Rattle.earley.proofs.verdict.viable_few.Goals as goal

pub returns-in-Some-clause-verdict : goal.returns-in-Some-clause-verdict
returns-in-Some-clause-verdict g c =
    let flat = c.args.flat.now in
    let x = map g.L.Letter.number c.args.line.now in
    let are = subst (λ o. IfSome o (λ _. (j : ℕ) → IsSet flat x j (set_at c.judge_few.new.chart j))) c.in-Some.is
    c.in_ok-derived.ensures.sets in
    let says = subst (λ o. IfSome o (λ yes. IsTrue yes ↔ DerivesLine flat x)) c.in-Some.is
    c.in_ok-derived.ensures.answer in
    c.verdict_by.ensures flat x (length-map c.args.line.now g.L.Letter.number) are says
