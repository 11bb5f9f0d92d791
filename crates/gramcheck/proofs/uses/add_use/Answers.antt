-- A rule has the name, or none does.
use Rattle.std.proofs.Common.{sym, ◌∙◌}
use Rattle.pegread.specs.PegViews.{rules_of}
use Rattle.gramcheck.proofs.UsesLemmas.{finds-name, known-use, missing-use}
use Rattle.gramcheck.proofs.uses.add_use.Goals as goal

pub returns-in_ok-push-in-Some : goal.returns-in_ok-push-in-Some
returns-in_ok-push-in-Some c = λ seen uses.
    let t = c.args.rules.now in
    rw c.in_ok-push-in-Some.ensures.items (known-use (rules_of t) seen c.args.name.now _ _ c.in-Some.id uses
    (sym (finds-name t c.requires c.args.name.now) ∙ sym c.in_ok-id.ensures.found ∙ c.in-Some.is))

pub returns-in_ok-add_name-in-None : goal.returns-in_ok-add_name-in-None
returns-in_ok-add_name-in-None c = λ seen uses.
    let t = c.args.rules.now in
    missing-use (rules_of t) seen c.args.name.now _ _ _ _ uses
    (sym (finds-name t c.requires c.args.name.now) ∙ sym c.in_ok-id.ensures.found ∙ c.in-None.is)
    c.in_ok-add_name-in-None.ensures
