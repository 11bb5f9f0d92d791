use Rattle.std.proofs.Common.{◌≡◌, ◌+◌, ◌-◌, arith}
use Rattle.ruletable.specs.Lines.{line_at}
use Rattle.diagnostics.proofs.LineEndsLemmas.{ends-few, line-after}
use Rattle.diagnostics.proofs.noteplaces.heads.line_after.Goals as goal

pub returns : goal.returns
returns c = rw (c.requires.line, c.line_of.ensures)
    (line-after c.args.rule c.args.text.now c.args.at c.args.offset c.requires.order)

pub overflow_add-result : goal.overflow_add-result
overflow_add-result c =
    let e : c.args.line + (c.line_of.result - 1) ≡ line_at c.args.rule c.args.text.now c.args.offset =
    rw (c.requires.line, c.line_of.ensures)
    (line-after c.args.rule c.args.text.now c.args.at c.args.offset c.requires.order) in
    let few = ends-few c.args.rule c.args.text.now c.args.offset in
    grind (arith, e, few, c.requires.within, c.type_inv.text)
