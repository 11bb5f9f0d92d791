use Rattle.ruletable.proofs.AppendsLemmas.{AppendsPart-first, Writes-then}
use Rattle.abnfprint.proofs.PrintedNumberLemmas.{repeat-bounds}
use Rattle.abnfprint.proofs.terminal.print_bounds.Goals as goal

pub returns-in-Ok-clause-bytes : goal.returns-in-Ok-clause-bytes
returns-in-Ok-clause-bytes g c =
    rw (repeat-bounds c.args.least c.args.most c.if-least-most.false)
    (Writes-then _ _ _ _ _ c.write_number-in-Ok.result c.in-Ok.ensures.bytes c.write_number-in-Ok.ensures.bytes)

pub returns-in-Err-clause-bytes : goal.returns-in-Err-clause-bytes
returns-in-Err-clause-bytes g c = rw (repeat-bounds c.args.least c.args.most c.if-least-most.false)
    (AppendsPart-first _ _ _ _ c.in-Err.ensures.bytes)
