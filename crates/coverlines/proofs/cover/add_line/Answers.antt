-- The line stands after those that are as long; or it is too long.
use Rattle.std.proofs.Common.{arith, sym, subst}
use Rattle.std.specs.List.{AllPairs}
use Rattle.coverlines.specs.CoverLines.{AddsFitting, Falls}
use Rattle.coverlines.proofs.CoverLinesLemmas as l
use Rattle.coverlines.proofs.cover.add_line.Goals as goal

pub returns-then-limit-len-clause-added : goal.returns-then-limit-len-clause-added
returns-then-limit-len-clause-added c = l.long_line c.args.limit c.args.line c.args.found.now.items
    (omega (arith, c.if-limit-len.true, c.len.ensures))

pub returns-clause-order : goal.returns-clause-order
returns-clause-order c =
    let same = c.len-2.ensures in
    let within = rw c.deref.ensures.value at c.longer_count-at.ensures.within in
    let longer = rw c.deref.ensures.value at c.longer_count-at.ensures.longer in
    let next = rw c.deref.ensures.value at c.longer_count-at.ensures.next in
    subst (AllPairs Falls) (sym c.in_ok-insert.ensures.items) (l.added_order c.args.found.now.items
    c.longer_count-at.result c.args.line within c.requires
    (λ k d low high. let h = longer k d low high in omega (arith, h, same))
    (λ lt d. let h = next lt d in omega (arith, h, same)))

pub returns-clause-added : goal.returns-clause-added
returns-clause-added c = subst (AddsFitting c.args.limit c.args.line c.args.found.now.items)
    (sym c.in_ok-insert.ensures.items) (l.line_added c.args.found.now.items c.longer_count-at.result c.args.line
    c.args.limit (let few = c.if-limit-len.false in let len = c.len.ensures in omega (arith, few, len)))
