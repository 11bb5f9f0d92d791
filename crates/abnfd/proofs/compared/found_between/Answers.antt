-- The rules are unchanged.
use Rattle.abnfread.specs.AbnfViews.{rules_of}
use Rattle.abnfd.proofs.UnchangedRulesLemmas.{unchanged_known}
use Rattle.abnfd.proofs.compared.found_between.Goals as goal

pub returns-then-is_partner : goal.returns-then-is_partner
returns-then-is_partner c =
    let old = c.args.old.now in
    let new = c.args.new.now in
    unchanged_known c.args.settings.now.letters (rules_of old.rules) (rules_of new.rules)
    c.in_ok-partners.partners.items
    (rw (c.rules.ensures.rules, c.rules-2.ensures.rules) at c.in_ok-partners.ensures) old.judged new.judged
    c.nothing_alone.result
    (rw (c.deref.ensures.value, c.judged.ensures.id, c.judged-2.ensures.id)
    at (c.is_partner.ensures c.if-is_partner.true))
    c.nothing_alone.ensures.old c.nothing_alone.ensures.new
