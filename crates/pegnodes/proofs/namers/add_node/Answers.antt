use Rattle.std.proofs.Common.{rules}
use Rattle.pegnodes.proofs.NamersLemmas as o
use Rattle.pegnodes.proofs.namers.add_node.Goals as goal

pub returns-in-Any-clause-named : goal.returns-in-Any-clause-named
returns-in-Any-clause-named c = λ rows there h.
    o.row_added rows c.args.n _ _ _ _ (search rules) there (c.add_names-in-Any.ensures.named rows) h

pub returns-in-Seq-clause-named : goal.returns-in-Seq-clause-named
returns-in-Seq-clause-named c = λ rows there h.
    o.row_added rows c.args.n _ _ _ _ (search rules) there (c.add_names-in-Seq.ensures.named rows) h

pub returns-in-Name-clause-named : goal.returns-in-Name-clause-named
returns-in-Name-clause-named c = λ rows there h.
    o.row_added rows c.args.n _ _ _ _ (search rules) there (c.add_names.ensures.named rows) h

pub returns-in-Plus-clause-named : goal.returns-in-Plus-clause-named
returns-in-Plus-clause-named c = λ rows there h.
    o.row_added rows c.args.n _ _ _ _ (search rules) there (c.add_names-in-Plus.ensures.named rows) h

pub returns-in-Star-clause-named : goal.returns-in-Star-clause-named
returns-in-Star-clause-named c = λ rows there h.
    o.row_added rows c.args.n _ _ _ _ (search rules) there (c.add_names-in-Star.ensures.named rows) h
