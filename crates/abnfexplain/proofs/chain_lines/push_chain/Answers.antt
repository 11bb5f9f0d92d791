use Rattle.std.proofs.Common.{[], slice_index_or}
use Rattle.ruletable.specs.Rules.{names_of}
use Rattle.abnfexplain.proofs.ChainLinesLemmas.{appended_in_turn, line_by_ids, rest_is_whole}
use Rattle.abnfexplain.proofs.chain_lines.push_chain.Goals as goal

pub returns : goal.returns
returns c = rw (
  c.in_ok-extend_from_slice-2.ensures.items,
  c.in_ok-push_after.ensures,
  rest_is_whole c.args.ids.now 1,
  c.in_ok-push_left_out.ensures,
  c.in_ok-push_quoted.ensures,
  c.name_with.ensures,
  c.in_ok-extend_from_slice.ensures.items,
  line_by_ids (λ id. slice_index_or
      (names_of c.args.names.now) id []) c.args.ids.now c.args.left 0 c.if-ids-lt2.false,
)
    (appended_in_turn c.args.out.now.items _ _ _ _ _)
