use Rattle.std.proofs.Common.{Some, ap}
use Rattle.lexer.specs.ReadBodies.{alternatives_of, brackets_of, items_of}
use Rattle.pegread.specs.Machine.{fresh, no_mark}
use Rattle.pegread.specs.Steps.{head_of}
use Rattle.pegread.proofs.PatternsOfLemmas.{body-item}
use Rattle.pegread.proofs.reader.Reader.push_item.Goals as goal

pub returns : goal.returns
returns c =
    let b = c.args.self.now.body in
    let e = c.in_ok-push.ensures in
    ap Some (body-item (head_of c.args.self.now) c.push.new.self (brackets_of b) no_mark fresh (alternatives_of b)
    (items_of b) c.in_ok-item.item _ (record { brackets = e.brackets; alternatives = e.alternatives; items = e.items })
    c.in_ok-item.ensures)
