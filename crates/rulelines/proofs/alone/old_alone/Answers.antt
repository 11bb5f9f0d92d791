use Rattle.std.proofs.Common.{subst, sym}
use Rattle.ruletable.specs.Letters.{has}
use Rattle.rulelines.specs.Samples.{AreInLineOrder}
use Rattle.rulelines.specs.StatePairs.{AreSamples}
use Rattle.rulelines.proofs.alone.old_alone.Goals as goal

pub returns-then-is_decided : goal.returns-then-is_decided
returns-then-is_decided c = λ old_rules new_rules old_rule new_rule old_lines new_lines.
    c.in_ok-first.ensures (has c.args.alphabet) old_rules new_rules old_rule new_rule
    (subst (λ v. AreInLineOrder (has c.args.alphabet) v) (sym c.deref.ensures.value) c.in_ok-samples.ensures.order)
    (subst (λ v. AreSamples c.args.old.now c.args.new.now (has c.args.alphabet) v) (sym c.deref.ensures.value)
    c.in_ok-samples.ensures.each) old_lines new_lines
