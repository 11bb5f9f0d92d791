use Rattle.std.proofs.Common.{[], slice_index_or, Contains}
use Rattle.earley.proofs.WordInLemmas.{default_same}
use Rattle.earley.proofs.RowIndexesLemmas.{joined_at}
use Rattle.earley.proofs.row_index.join_at.Goals as goal

pub returns-clause-members : goal.returns-clause-members
returns-clause-members c =
    let row = c.index-rows-position.result in
    joined_at c.args.rows.now c.args.position (λ x. Contains c.args.found.now x)
    (slice_index_or c.args.rows.now c.args.position row)
    c.join.new.self c.requires (default_same c.args.rows.now c.args.position row [] c.requires)
    c.in_ok-join.ensures.members
