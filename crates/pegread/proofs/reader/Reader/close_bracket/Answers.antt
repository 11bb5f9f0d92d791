use Rattle.lexer.specs.ReadBodies.{alternatives_of, brackets_of, items_of}
use Rattle.pegread.specs.Steps.{head_of}
use Rattle.pegread.proofs.PatternsOfLemmas.{body-closes}
use Rattle.pegread.proofs.reader.Reader.close_bracket.Goals as goal

pub returns : goal.returns
returns c =
    let b = c.args.self.now.body in
    let k = c.in_ok-prefix.ensures in
    rw (body-closes (head_of c.args.self.now) c.close.new.self (brackets_of b) (alternatives_of b) (items_of b)
    c.in-Some.prefix c.in-Some.e (rw c.in-Some.is at k)) c.take_primary.ensures
