use Rattle.std.proofs.Common.{sym, ◌∙◌}
use Rattle.abnfread.specs.AbnfViews.{definition_from}
use Rattle.abnfread.specs.AbnfTable.{grows, extends, begins}
use Rattle.abnfread.proofs.JoinedTableLemmas.{extended-rules}
use Rattle.abnfread.proofs.table.take_addition.Goals as goal

pub returns-in_ok-extend-in-Some-clause-taken : goal.returns-in_ok-extend-in-Some-clause-taken
returns-in_ok-extend-in-Some-clause-taken c =
    let found = sym c.in_ok-id.ensures.found ∙ c.in-Some.is in
    let both = extended-rules (definition_from c.args.definition) c.args.abnf.now.rules c.extend.new.rules c.in-Some.id
    c.args.abnf.now.folds c.len-next.ensures.unique found c.in_ok-extend-in-Some.ensures.body in
    grows c.in-Some.id c.extend.new.rules found c.requires.adds both.0 both.1

pub returns-in_ok-push-in-None-clause-taken : goal.returns-in_ok-push-in-None-clause-taken
returns-in_ok-push-in-None-clause-taken c =
    let e = c.if-branch.true in
    let begun = rw e at c.in_ok-begin_rule-in-None.ensures.begun in
    rw (c.in_ok-push-in-None.ensures.items, c.len-next.ensures.len)
    (extends c.begin_rule.new.rules (sym c.in_ok-id.ensures.found ∙ c.in-None.is) begun)

pub returns-else-branch-clause-taken : goal.returns-else-branch-clause-taken
returns-else-branch-clause-taken c =
    let e = c.if-branch.false in
    let begun = rw e at c.in_ok-begin_rule-in-None.ensures.begun in
    begins c.begin_rule.new.rules (sym c.in_ok-id.ensures.found ∙ c.in-None.is) begun
