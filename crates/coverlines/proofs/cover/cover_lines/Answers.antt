-- The rules and the judged one of the grammar.
use Rattle.std.proofs.Common.{arith}
use Rattle.std.proofs.lemmas.List.{length-map}
use Rattle.abnfread.specs.AbnfViews.{rule_of}
use Rattle.coverlines.proofs.cover.cover_lines.Goals as goal

pub cover_rules-requires-clause-judged : goal.cover_rules-requires-clause-judged
cover_rules-requires-clause-judged c =
    let lt = c.judged.ensures.sound.sound.judged_is_rule in
    let n = length-map c.args.grammar.now.rules.rules rule_of in
    rw (c.rules.ensures.rules, c.judged.ensures.id) (omega (arith, lt, n))

pub returns-clause-lines : goal.returns-clause-lines
returns-clause-lines c = rw (c.rules.ensures.rules, c.judged.ensures.id) at c.cover_rules.ensures.lines

pub returns-clause-missed : goal.returns-clause-missed
returns-clause-missed c = rw (c.rules.ensures.rules, c.judged.ensures.id) at c.cover_rules.ensures.missed
