use Rattle.std.proofs.Common.{◌-◌, ◌++◌, ◌∙◌, ap, length, refl, take}
use Rattle.rulelines.proofs.WordLemmas.{changed_made}
use Rattle.rulelines.proofs.list.search.changed_line.Goals as goal

pub returns : goal.returns
returns c =
    let at = c.args.change.at in
    changed_made c.args.table.now c.args.line.now c.extend_from_slice.new.self.items c.push.new.self.items
    c.fill_word.new.word.items c.args.change (length c.args.line.now - 1 - at) refl
    (c.in_ok-extend_from_slice.ensures.items ∙ ap (λ v. v ++ take at c.args.line.now) c.new-word.ensures.items)
    c.in_ok-push.ensures.items (c.in_ok-fill_word.ensures c.if-not-branch.false)
