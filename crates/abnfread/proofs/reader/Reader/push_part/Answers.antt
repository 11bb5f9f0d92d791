use Rattle.std.proofs.Common.{Some, ap}
use Rattle.lexer.specs.ReadBodies.{alternatives_of, brackets_of, items_of}
use Rattle.abnfread.specs.AbnfMachine.{read}
use Rattle.abnfread.specs.AbnfReader.{head_of}
use Rattle.abnfread.proofs.ElementListLemmas.{body-item}
use Rattle.abnfread.proofs.reader.Reader.push_part.Goals as goal

pub returns : goal.returns
returns c =
    let b = c.args.self.now.body in
    let e = c.in_ok-push.ensures in
    ap Some (body-item (head_of c.args.self.now) c.push.new.self (brackets_of b) read (alternatives_of b) (items_of b)
    c.in_ok-part.part _ (record { brackets = e.brackets; alternatives = e.alternatives; items = e.items })
    c.in_ok-part.ensures)
