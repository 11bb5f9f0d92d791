use Rattle.abnfexplain.proofs.AbnfExplainedLemmas.{six-pieces}
use Rattle.abnfexplain.proofs.abnf_explain.hopeless_lines.Goals as goal

pub returns : goal.returns
returns c =
    let reported = c.in_ok-push_expected.ensures in (
      reported.0,
      reported.1,
      six-pieces _ _ _ _ _ _ _ _ _ _ _ c.new-out.ensures.items c.in_ok-push_token_position.ensures
          c.in_ok-extend_from_slice.ensures.items reported.2 c.in_ok-extend_from_slice-2.ensures.items
          c.in_ok-push_token_facts.ensures,
    )
