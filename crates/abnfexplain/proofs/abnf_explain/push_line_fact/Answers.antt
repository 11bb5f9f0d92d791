use Rattle.std.proofs.Common.{List, ℕ, ◌++◌, sym, ap, ◌∙◌}
use Rattle.std.specs.Option.{option_map}
use Rattle.lexer.specs.TokenLists as lexing
use Rattle.abnfread.specs.MarkedTokens.{marked_of}
use Rattle.abnfexplain.proofs.AbnfExplainedLemmas.{five-pieces, line-is}
use Rattle.abnfexplain.proofs.abnf_explain.push_line_fact.Goals as goal

pub returns : goal.returns
returns c =
    five-pieces _ _ _ _ _ _ _ _ _ _ _ c.in_ok-extend_from_slice.ensures.items c.in_ok-push_number.ensures
    c.in_ok-extend_from_slice-2.ensures.items c.in_ok-push_number-2.ensures c.in_ok-extend_from_slice-3.ensures.items
    ∙ ap (λ (t : List ℕ). c.args.out.now.items ++ t)
    (sym (line-is c.args.text.now (option_map marked_of c.args.origin) (marked_of c.in-Some.origin)
    (lexing.tok_of c.args.token.token) c.args.token.gap c.args.token.first _ _
    (ap (option_map marked_of) c.in-Some.is) c.if-not-token.false c.indent_of.ensures c.indent_of-2.ensures))
