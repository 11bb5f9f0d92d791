use Rattle.std.proofs.Common.{◌∙◌, sym}
use Rattle.packrat.proofs.StandsLemmas as L
use Rattle.packrat.proofs.machine.close.Goals as goal

pub returns-in_ok-put-clause-closed : goal.returns-in_ok-put-clause-closed
returns-in_ok-put-clause-closed c = λ peg window more marks links key.
    L.closed_key peg window more marks links c.args.task c.args.given
    c.args.log.now.stored c.put.new.self.stored (sym key ∙ c.if-key.true) c.in_ok-put.ensures.stored

pub returns-else-key-clause-closed : goal.returns-else-key-clause-closed
returns-else-key-clause-closed c = λ peg window more marks links key.
    L.closed_plain peg window more marks links c.args.task c.args.given
    c.args.log.now.stored (sym key ∙ c.if-key.false)
