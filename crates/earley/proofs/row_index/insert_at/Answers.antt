use Rattle.std.proofs.Common.{◌≡◌, [], slice_index_or}
use Rattle.earley.proofs.WordInLemmas.{default_same}
use Rattle.earley.proofs.RowIndexesLemmas.{joined_at}
use Rattle.earley.proofs.row_index.insert_at.Goals as goal

pub returns-clause-members : goal.returns-clause-members
returns-clause-members c =
    let row = c.index-rows-position.result in
    joined_at c.args.rows.now c.args.position (λ x. x ≡ c.args.number)
    (slice_index_or c.args.rows.now c.args.position row)
    c.insert.new.self c.requires.position (default_same c.args.rows.now c.args.position row [] c.requires.position)
    c.in_ok-insert.ensures.members
