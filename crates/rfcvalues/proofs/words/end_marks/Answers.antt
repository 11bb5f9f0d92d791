use Rattle.std.proofs.Common.{◌∙◌, map}
use Rattle.lexer.specs.TokenLists.{kind_of, tok_of}
use Rattle.rfcvalues.specs.RuleSketches.{is_opening}
use Rattle.rfcvalues.proofs.RuleSketchLemmas.{any-toks}
use Rattle.rfcvalues.proofs.words.end_marks.Goals as goal

pub returns-else-has_list : goal.returns-else-has_list
returns-else-has_list c =
    rw (c.in-Whole.is, c.if-has_list.false)
    (c.has_opening.ensures ∙ any-toks (λ x. is_opening (kind_of x)) c.args.words.now)
