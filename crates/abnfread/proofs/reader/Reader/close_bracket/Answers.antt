use Rattle.std.proofs.Common.{rules}
use Rattle.lexer.specs.ReadBodies.{alternatives_of, brackets_of, items_of}
use Rattle.abnfread.specs.AbnfReader.{head_of}
use Rattle.abnfread.proofs.ElementListLemmas.{body-closes}
use Rattle.abnfread.proofs.reader.Reader.close_bracket.Goals as goal

pub returns : goal.returns
returns c =
    let b = c.args.self.now.body in
    let k = c.in_ok-opened.ensures in
    rw (body-closes (head_of c.args.self.now) c.close.new.self (brackets_of b) (alternatives_of b) (items_of b)
    c.args.bracket c.in-Some.opened c.in-Some.inner _ (rw c.in-Some.is at k) (search rules) c.in_ok-e.ensures)
    c.push_part.ensures
