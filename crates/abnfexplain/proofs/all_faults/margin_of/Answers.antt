use Rattle.abnfread.specs.MarkedTokens.{marked_of}
use Rattle.abnfexplain.proofs.AbnfAllFaultLemmas.{first-there}
use Rattle.abnfexplain.proofs.AbnfExplainedLemmas.{start-within}
use Rattle.abnfexplain.proofs.all_faults.margin_of.Goals as goal

pub indent_of-requires : goal.indent_of-requires
indent_of-requires c =
    start-within c.args.text.now (λ ts are. c.tokens_make_up.ensures.slices c.args.text.now ts are)
    (marked_of c.in-Some.first) _
    (first-there c.args.text.now c.abnf_tokens-tokens.result c.next.new.self c.in-Some.first c.have_tokens.ensures
    c.abnf_tokens-tokens.ensures.left c.in-Some.ensures.steps)
