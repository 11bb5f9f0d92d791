use Rattle.std.proofs.Common.{◌∙◌, List, ℕ, Some, subst, sym}
use Rattle.std.proofs.lemmas.Option.{IfSome_then}
use Rattle.std.proofs.lemmas.Result.{IfOk-weaker}
use Rattle.abnfread.specs.AbnfViews.{rules_of}
use Rattle.rulelines.specs.LineSets.{LineSet}
use Rattle.rulelines.specs.SampleLines.{AreSampleLines}
use Rattle.rulelines.proofs.LineSetLemmas.{derives_reached}
use Rattle.rulelines.proofs.SampleLinesLemmas.{keys_start, sample_lines}
use Rattle.rulelines.proofs.list.lines.Lines.of_samples.Goals as goal

pub returns : goal.returns
returns c =
    let g = c.args.grammar.now in
    let rules = rules_of g.rules in
    let kept = c.in_ok-kept.kept in
    let flat = c.in_ok-flat.flat in
    let limit = c.args.limit in
    let lowered = c.in_ok-flat.ensures.lowered in
    let firsts = rw c.rules.ensures.rules at c.in_ok-starts.ensures.firsts in
    IfOk-weaker c.lines_of.result _ _ (λ reported h. IfSome_then reported h (λ lines is.
    subst (λ (v : LineSet). AreSampleLines c.args.alphabet c.args.terminator limit rules g.judged v) (sym is)
    (subst (λ (v : List ℕ). AreSampleLines c.args.alphabet c.args.terminator limit rules g.judged (record {
      flat = flat;
      symbols = record { alphabet = c.args.alphabet; terminator = c.args.terminator; only = Some v };
      limit = limit;
    })) (sym (c.in_ok-from_slice.ensures.items ∙ c.deref.ensures.value))
    (sample_lines c.args.alphabet c.args.terminator limit rules g.judged (rules_of kept.rules)
    c.in_ok-kept.ensures.rules c.in_ok-starts.starts.items
    (firsts kept.judged lowered) flat
    (derives_reached g kept flat limit c.in_ok-kept.ensures c.in_ok-flat.ensures.derives)))))
    c.lines_of.ensures

pub lines_of-requires-clause-starts : goal.lines_of-requires-clause-starts
lines_of-requires-clause-starts c =
    keys_start c.in_ok-flat.flat c.args.alphabet c.args.terminator c.in_ok-from_slice.field-0.items
    c.in_ok-starts.starts.items (c.in_ok-from_slice.ensures.items ∙ c.deref.ensures.value)
