use Rattle.std.proofs.Common.{List, ℕ, ◌++◌, sym, ap, ◌∙◌}
use Rattle.std.specs.Option.{option_map}
use Rattle.abnfread.specs.MarkedTokens.{marked_of}
use Rattle.abnfexplain.proofs.AbnfExplainedLemmas.{three-pieces, name-is}
use Rattle.abnfexplain.proofs.abnf_explain.push_name_fact.Goals as goal

pub returns : goal.returns
returns c =
    three-pieces _ _ _ _ _ _ _ c.in_ok-extend_from_slice.ensures.items c.in_ok-push_number.ensures
    c.in_ok-extend_from_slice-2.ensures.items
    ∙ ap (λ (t : List ℕ). c.args.out.now.items ++ t)
    (sym (name-is c.args.text.now (option_map marked_of c.args.origin) (option_map marked_of c.args.before)
    (marked_of c.in-Some.origin) (marked_of c.in-Some-before.before) (marked_of c.args.token) _
    (ap (option_map marked_of) c.in-Some.is) (ap (option_map marked_of) c.in-Some-before.is)
    (sym c.defines_later_name.ensures ∙ c.if-not-defines_later_name.false) c.indent_of.ensures))
