-- The flat grammar answers whether the judged rule derives the symbols, and what their longest viable prefix is.
use Rattle.std.proofs.Common.{map, arith}
use Rattle.std.proofs.lemmas.List.{length-map}
use Rattle.std.proofs.lemmas.Option.{IfSome_then}
use Rattle.std.proofs.lemmas.Result.{err_from_is_err_and}
use Rattle.abnfread.specs.AbnfViews.{rules_of}
use Rattle.abnfrun.proofs.IsAnswerOnLemmas.{judge_says, letters_costly, verdict_says}
use Rattle.abnfrun.proofs.JudgedAlikeLemmas.{verdict_alike}
use Rattle.abnfrun.proofs.line_judge.judge_letters.Goals as goal
use Rattle.ruletable.specs.Letters.{has}

pub returns-in-Yes-clause-answer : goal.returns-in-Yes-clause-answer
returns-in-Yes-clause-answer g c =
    let j = c.args.judges.now in
    let short = c.requires.within in
    let size = length-map c.args.line.now g.L.Letter.number in
    rw c.in-Yes.is at (verdict_says (has j.letters) (rules_of j.grammar.now.rules) j.grammar.now.judged
    (map g.L.Letter.number c.args.line.now) j.flat.now (omega (arith, short, size)) c.requires.letters
    c.derivation_is_decided.ensures c.furthest_is_found.ensures.found c.furthest_is_found.ensures.one
    c.items_decide.ensures.verdict c.in_ok-viable.field-0 (j.prefixes c.if-judges.true)
    c.in_ok-viable.ensures.verdict)

pub returns-in-No-clause-answer : goal.returns-in-No-clause-answer
returns-in-No-clause-answer g c =
    let j = c.args.judges.now in
    let short = c.requires.within in
    let size = length-map c.args.line.now g.L.Letter.number in
    let said = rw c.in-No.is at (verdict_says (has j.letters) (rules_of j.grammar.now.rules)
    j.grammar.now.judged (map g.L.Letter.number c.args.line.now) j.flat.now (omega (arith, short, size))
    c.requires.letters
    c.derivation_is_decided.ensures c.furthest_is_found.ensures.found c.furthest_is_found.ensures.one
    c.items_decide.ensures.verdict c.in_ok-viable.field-0 (j.prefixes c.if-judges.true)
    c.in_ok-viable.ensures.verdict) in
    (c.if-judges.true, said.0, said.1)

pub returns-then-yes-clause-answer : goal.returns-then-yes-clause-answer
returns-then-yes-clause-answer g c =
    let j = c.args.judges.now in
    let short = c.requires.within in
    let size = length-map c.args.line.now g.L.Letter.number in
    rw c.if-yes.true at (judge_says (has j.letters) (rules_of j.grammar.now.rules) j.grammar.now.judged
    (map g.L.Letter.number c.args.line.now) j.flat.now (omega (arith, short, size)) c.requires.letters
    c.derivation_is_decided.ensures c.items_decide.ensures.derives c.in_ok-yes.yes (j.lowered c.if-judges.false)
    c.in_ok-yes.ensures.answer)

pub returns-else-yes-clause-answer : goal.returns-else-yes-clause-answer
returns-else-yes-clause-answer g c =
    let j = c.args.judges.now in
    let short = c.requires.within in
    let size = length-map c.args.line.now g.L.Letter.number in
    let said = rw c.if-yes.false at (judge_says (has j.letters) (rules_of j.grammar.now.rules)
    j.grammar.now.judged (map g.L.Letter.number c.args.line.now) j.flat.now (omega (arith, short, size))
    c.requires.letters
    c.derivation_is_decided.ensures c.items_decide.ensures.derives c.in_ok-yes.yes (j.lowered c.if-judges.false)
    c.in_ok-yes.ensures.answer) in
    (c.if-judges.false, said)

pub returns-in_err-viable-clause-costly : goal.returns-in_err-viable-clause-costly
returns-in_err-viable-clause-costly g c =
    let j = c.args.judges.now in
    let none = err_from_is_err_and c.from_residual.result c.from_residual.ensures.1 in
    rw (none.1, none.2) (letters_costly j.budget j.letters j.viable (rules_of j.grammar.now.rules)
    j.grammar.now.judged j.flat.now (map g.L.Letter.number c.args.line.now) j.lowered j.prefixes _
    c.in_err-viable.ensures.costly)

pub returns-in_err-yes-clause-costly : goal.returns-in_err-yes-clause-costly
returns-in_err-yes-clause-costly g c =
    let j = c.args.judges.now in
    let none = err_from_is_err_and c.from_residual-in_err-yes.result c.from_residual-in_err-yes.ensures.1 in
    rw (none.1, none.2) (letters_costly j.budget j.letters j.viable (rules_of j.grammar.now.rules)
    j.grammar.now.judged j.flat.now (map g.L.Letter.number c.args.line.now) j.lowered j.prefixes _
    c.in_err-yes.ensures.costly)

pub viable-requires-clause-alike : goal.viable-requires-clause-alike
viable-requires-clause-alike g c =
    let j = c.args.judges.now in
    let short = c.requires.within in
    let size = length-map c.args.line.now g.L.Letter.number in
    IfSome_then c.args.engines.now.automaton c.requires.alike (λ a alike.
    verdict_alike (has j.letters) j.viable j.flat.now a c.if-judges.true alike
    (map g.L.Letter.number c.args.line.now) (omega (arith, short, size)) c.requires.letters)
