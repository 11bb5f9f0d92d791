use Rattle.std.proofs.Common.{◌≡◌, ◌++◌, subst}
use Rattle.rulelines.specs.Misses.{refused_lines, wrong_lines}
use Rattle.rulelines.specs.MissLists.{item_lines}
use Rattle.rulelines.proofs.MissLinesLemmas.{prefix_waits}
use Rattle.rulelines.proofs.miss.lines.lines_from.Goals as goal

pub returns : goal.returns
returns c =
    let p = c.args.prefix.now in
    let old = c.new-lines.result.items in
    let mid = c.push_refused.new.lines.items in
    let new = c.push_wrong.new.lines.items in
    prefix_waits p old mid new c.reverse.new.self.items c.new-lines.ensures.items
    (subst (λ v. item_lines mid ≡ item_lines old ++ refused_lines p.is_refused v) c.deref.ensures.value
    c.in_ok-push_refused.ensures)
    (subst (λ v. item_lines new ≡ item_lines mid ++ wrong_lines v p.wrong.items) c.deref-2.ensures.value
    (subst (λ v. item_lines new ≡ item_lines mid ++ wrong_lines c.deref-2.result.now v) c.deref-3.ensures.value
    c.in_ok-push_wrong.ensures)) c.reverse.ensures.items
