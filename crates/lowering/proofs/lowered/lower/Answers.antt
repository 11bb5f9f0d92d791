use Rattle.std.proofs.Common.{subst}
use Rattle.std.proofs.lemmas.Result.{MatchResult-weaker}
use Rattle.abnfread.specs.AbnfViews.{rules_of}
use Rattle.lowering.specs.Lowered.{IsLowered}
use Rattle.lowering.proofs.LoweredLemmas as o
use Rattle.lowering.proofs.lowered.lower.Goals as goal

pub returns-clause-derives : goal.returns-clause-derives
returns-clause-derives c =
    MatchResult-weaker c.lower_rules.result
    (o.ok_both c.lower_rules.result _ _ c.lower_rules.ensures.limit c.lower_rules.ensures.lowered)
    (λ flat made has x line letters.
    o.lowered_settles (rules_of c.args.grammar.now.rules) c.args.grammar.now.judged flat
    (subst (λ v. IsLowered (rules_of v) c.args.grammar.now.judged flat) c.rules.ensures.rules made.1)
    has x (rw made.0 line) letters) (λ _ _. tt)
