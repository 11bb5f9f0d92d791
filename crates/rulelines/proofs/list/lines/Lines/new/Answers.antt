use Rattle.std.proofs.Common.{subst, sym}
use Rattle.std.proofs.lemmas.Option.{IfSome_then}
use Rattle.std.proofs.lemmas.Result.{IfOk-weaker}
use Rattle.abnfread.specs.AbnfViews.{rules_of}
use Rattle.rulelines.specs.LineSets.{AreRuleLines, LineSet}
use Rattle.rulelines.proofs.LineSetLemmas.{derives_reached, rule_lines}
use Rattle.rulelines.proofs.list.lines.Lines.new.Goals as goal

pub returns : goal.returns
returns c =
    let g = c.args.grammar.now in
    let rules = rules_of g.rules in
    let flat = c.in_ok-flat.flat in
    let limit = c.args.limit in
    IfOk-weaker c.lines_of.result _ _ (λ reported h. IfSome_then reported h (λ lines is.
    subst (λ (v : LineSet). AreRuleLines c.args.alphabet c.args.terminator limit rules g.judged v) (sym is)
    (rule_lines flat c.args.alphabet c.args.terminator limit rules g.judged
    (derives_reached g c.in_ok-kept.kept flat limit c.in_ok-kept.ensures c.in_ok-flat.ensures.derives))))
    c.lines_of.ensures
