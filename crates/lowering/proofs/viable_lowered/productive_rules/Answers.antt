use Rattle.std.proofs.Common.{subst}
use Rattle.std.proofs.lemmas.Result.{IfOk-weaker}
use Rattle.abnfread.specs.AbnfViews.{rules_of}
use Rattle.ruletable.specs.Letters.{has}
use Rattle.lowering.specs.Pruned.{ArePruned}
use Rattle.lowering.proofs.ArePrunedLemmas.{null_alike}
use Rattle.lowering.proofs.viable_lowered.productive_rules.Goals as goal

pub returns-clause-alike : goal.returns-clause-alike
returns-clause-alike c = IfOk-weaker c.prune_rules.result _ _ (λ left pruned.
    null_alike (has c.args.alphabet) (rules_of c.args.grammar.now.rules) (rules_of left)
    (subst (λ v. ArePruned (has c.args.alphabet) (rules_of v) (rules_of left)) c.rules.ensures.rules pruned))
    c.prune_rules.ensures.pruned

pub returns-clause-pruned : goal.returns-clause-pruned
returns-clause-pruned c = IfOk-weaker c.prune_rules.result _ _ (λ left pruned.
    subst (λ v. ArePruned (has c.args.alphabet) (rules_of v) (rules_of left)) c.rules.ensures.rules pruned)
    c.prune_rules.ensures.pruned
