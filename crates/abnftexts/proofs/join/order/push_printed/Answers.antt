use Rattle.std.proofs.Common.{◌∙◌, List, ap, take, ℕ}
use Rattle.diagnostics.specs.NumberLists.{numbers_for}
use Rattle.abnftexts.specs.GivenRules.{text_rule}
use Rattle.abnftexts.proofs.FatesLemmas.{printed-first}
use Rattle.abnftexts.proofs.ListNamesLemmas.{adding-listed}
use Rattle.abnftexts.proofs.join.order.push_printed.Goals as goal

pub returns-in_ok-extend_from_slice : goal.returns-in_ok-extend_from_slice
returns-in_ok-extend_from_slice c =
    let rule = text_rule c.args.rule.now in
    printed-first c.args.rules.now rule c.args.number c.in_ok-first.first c.in_ok-numbers.numbers.now
    c.args.order.now.items _ _ c.in_ok-first.ensures c.if-rule.false c.if-first-number-2.true
    (adding-listed (take c.args.number c.args.rules.now) rule c.in_ok-numbers.numbers.now
    (c.in_ok-numbers.ensures ∙ ap (λ (name : List ℕ). numbers_for c.args.added.now name) c.deref.ensures.value
    ∙ c.requires.added.1 rule.name)) c.in_ok-push-2.ensures.items c.in_ok-extend_from_slice.ensures.items
