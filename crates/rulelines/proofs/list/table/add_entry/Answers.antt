use Rattle.std.proofs.Common.{◌∙◌, ap, sym}
use Rattle.std.specs.Prelude.{Some}
use Rattle.std.proofs.lemmas.Option.{slice_get-get_or}
use Rattle.rulelines.proofs.StateTableLemmas.{entry_added}
use Rattle.rulelines.proofs.list.table.add_entry.Goals as goal

pub returns-in_ok-push : goal.returns-in_ok-push
returns-in_ok-push c =
    entry_added c.args.levels.now.items c.args.count c.args.can c.in-Some.level.now c.push.new.self
    (slice_get-get_or c.args.levels.now.items c.args.count c.in-Some.level.now c.in-Some.ensures.item.3.0
    ∙ ap (λ v. Some v) (sym c.in-Some.ensures.value)) c.in_ok-push.ensures.items
