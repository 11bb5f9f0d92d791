use Rattle.std.proofs.Common.{Some, ap}
use Rattle.lexer.specs.ReadBodies.{alternatives_of, brackets_of, items_of}
use Rattle.abnfread.specs.AbnfMachine.{fresh}
use Rattle.abnfread.specs.AbnfReader.{head_of}
use Rattle.abnfread.proofs.ElementListLemmas.{body-alternative}
use Rattle.abnfread.proofs.reader.Reader.end_concatenation.Goals as goal

pub returns : goal.returns
returns c =
    let b = c.args.self.now.body in
    let e = c.in_ok-end_alternative.ensures in
    ap Some (body-alternative (head_of c.args.self.now) c.end_alternative.new.self (brackets_of b) fresh
    (alternatives_of b) (items_of b) e.last e.sequence e.rest)
