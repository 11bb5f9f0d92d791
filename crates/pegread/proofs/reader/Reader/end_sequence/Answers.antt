use Rattle.std.proofs.Common.{Some, ap}
use Rattle.lexer.specs.ReadBodies.{alternatives_of, brackets_of, items_of}
use Rattle.pegread.specs.Machine.{fresh}
use Rattle.pegread.specs.Steps.{head_of, waiting_of}
use Rattle.pegread.proofs.PatternsOfLemmas.{body-alternative}
use Rattle.pegread.proofs.reader.Reader.end_sequence.Goals as goal

pub returns : goal.returns
returns c =
    let b = c.args.self.now.body in
    let e = c.in_ok-end_alternative.ensures in
    ap Some (body-alternative (head_of c.args.self.now) c.end_alternative.new.self (brackets_of b)
    (waiting_of c.args.self.now) fresh (alternatives_of b) (items_of b) e.last e.sequence e.rest)
