use Rattle.std.proofs.Common.{rules as search_rules, arith}
use Rattle.abnfread.proofs.AbnfFaultLemmas.{long-fault, one-reading, no-fault}
use Rattle.abnfread.proofs.read.read_abnf.Goals as goal

pub returns-in_err-definitions-clause-long : goal.returns-in_err-definitions-clause-long
returns-in_err-definitions-clause-long c = λ long.
    let h = long-fault c.args.text.now (λ le. omega arith) _ c.in_err-definitions.ensures.fault in
    search (search_rules, h)

pub returns-in_err-definitions-clause-only : goal.returns-in_err-definitions-clause-only
returns-in_err-definitions-clause-only c = λ definitions reads.
    let h = no-fault c.args.text.now definitions _ reads c.in_err-definitions.ensures.fault in
    search (search_rules, h)

pub returns-in-Ok-clause-only : goal.returns-in-Ok-clause-only
returns-in-Ok-clause-only c = λ definitions reads.
    let same = one-reading c.args.text.now definitions _ reads c.in_ok-definitions.ensures.found in
    rw same c.in-Ok.ensures.table
