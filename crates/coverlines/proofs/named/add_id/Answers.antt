-- The rule of the name, if there is one.
use Rattle.std.proofs.Common.{◌∙◌, sym}
use Rattle.coverlines.proofs.NamedIdsLemmas.{found_adds, none_adds}
use Rattle.coverlines.proofs.named.add_id.Goals as goal

pub returns-in_default : goal.returns-in_default
returns-in_default c = none_adds c.args.rules.now c.args.name.now c.requires c.args.row.now.items
    (sym c.in_default.is ∙ c.in_ok-id.ensures.found)

pub returns : goal.returns
returns c = found_adds c.args.rules.now c.args.name.now c.requires c.in-Some.id c.args.row.now.items
    c.push.new.self.items (sym c.in-Some.is ∙ c.in_ok-id.ensures.found) c.in_ok-push.ensures.items
