-- The name is new, or there already.
use Rattle.abnfread.specs.AbnfTable.{begins, redefines}
use Rattle.abnfread.proofs.FirstBodyLemmas.{begun-plain}
use Rattle.abnfread.proofs.table.take_new.Goals as goal

pub returns-in-Added-clause-taken : goal.returns-in-Added-clause-taken
returns-in-Added-clause-taken c =
    let made = rw c.in-Added.is at c.in_ok-define.ensures.defines in
    begins c.define.new.self made.0
    (begun-plain c.args.definition c.args.abnf.now.rules c.define.new.self c.requires made.2)

pub returns-in_ok-push-in-Duplicate-clause-taken : goal.returns-in_ok-push-in-Duplicate-clause-taken
returns-in_ok-push-in-Duplicate-clause-taken c =
    let made = rw c.in-Duplicate.is at c.in_ok-define.ensures.defines in
    rw (c.in_ok-push-in-Duplicate.ensures.items, made.1) (redefines c.in-Duplicate.id made.0 c.requires)
