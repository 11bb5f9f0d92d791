use Rattle.abnftexts.proofs.RulesTakenLemmas.{position-made}
use Rattle.abnftexts.proofs.taken.position_of.Goals as goal

pub returns : goal.returns
returns c = position-made c.args.name.now c.args.sources.now c.args.rest.now c.items_before-own.result.now
    c.items_after.result.now c.args.count c.margin_in-margin.result c.blank_count.result
    c.in_ok-sources.sources.items c.items_before.result.now c.in_ok-lines.lines.items c.new.result.items
    c.in_ok-text.text.items c.items_before-own.ensures c.items_after.ensures c.margin_in-margin.ensures
    c.in_ok-sources.ensures.items c.items_before.ensures c.in_ok-lines.ensures.items c.blank_count.ensures.count
    c.new.ensures.items c.in_ok-text.ensures
