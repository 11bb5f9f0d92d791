use Rattle.std.proofs.Common.{ℕ, Bool, subst}
use Rattle.std.specs.Prelude.{IfSome}
use Rattle.ruletable.specs.Letters.{has as symbols_of}
use Rattle.abnfread.specs.AbnfViews.{rules_of}
use Rattle.rulelines.specs.Alone.{DerivesAsRule}
use Rattle.rulelines.proofs.comparison.compare.Goals as goal

pub returns-in_ok-old_alone-in-Some-Some-2-clause-old : goal.returns-in_ok-old_alone-in-Some-Some-2-clause-old
returns-in_ok-old_alone-in-Some-Some-2-clause-old c =
    let old_derives = subst (λ v. IfSome v (λ flat. (has : ℕ → Bool) → DerivesAsRule has
    (rules_of c.args.old.now.rules) c.args.old.now.judged flat)) c.in-Some-Some.is-0 c.in_ok-old_flat.ensures in
    let new_derives = subst (λ v. IfSome v (λ flat. (has : ℕ → Bool) → DerivesAsRule has
    (rules_of c.args.new.now.rules) c.args.new.now.judged flat)) c.in-Some-Some.is-1 c.in_ok-new_flat.ensures in
    c.in_ok-old_alone-in-Some-Some.ensures (rules_of c.args.old.now.rules) (rules_of c.args.new.now.rules)
    c.args.old.now.judged c.args.new.now.judged (old_derives (symbols_of c.args.alphabet))
    (new_derives (symbols_of c.args.alphabet))

pub returns-in_ok-old_alone-in-Some-Some-2-clause-new : goal.returns-in_ok-old_alone-in-Some-Some-2-clause-new
returns-in_ok-old_alone-in-Some-Some-2-clause-new c =
    let old_derives = subst (λ v. IfSome v (λ flat. (has : ℕ → Bool) → DerivesAsRule has
    (rules_of c.args.old.now.rules) c.args.old.now.judged flat)) c.in-Some-Some.is-0 c.in_ok-old_flat.ensures in
    let new_derives = subst (λ v. IfSome v (λ flat. (has : ℕ → Bool) → DerivesAsRule has
    (rules_of c.args.new.now.rules) c.args.new.now.judged flat)) c.in-Some-Some.is-1 c.in_ok-new_flat.ensures in
    c.in_ok-old_alone-in-Some-Some-2.ensures (rules_of c.args.new.now.rules) (rules_of c.args.old.now.rules)
    c.args.new.now.judged c.args.old.now.judged (new_derives (symbols_of c.args.alphabet))
    (old_derives (symbols_of c.args.alphabet))
