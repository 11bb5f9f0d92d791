use Rattle.std.proofs.Common.{◌∙◌, ap, option_map}
use Rattle.std.proofs.lemmas.Result.{IfOk-weaker}
use Rattle.refusedlines.proofs.RefusalLemmas.{expected_pushed}
use Rattle.refusedlines.specs.RefusedText.{at_text, end_text, line_picture}
use Rattle.ruletable.specs.Rules.{names_of}
use Rattle.refusedlines.proofs.refusal.push_lines.Goals as goal

pub returns : goal.returns
returns c = IfOk-weaker c.push_part_lines.result _ _
    (λ _ put. expected_pushed c.args.refusal.now.alphabet c.as_slice-runs.result.now
    c.args.refusal.now.following.runs.items (names_of c.args.refusal.now.parts) c.as_slice-symbols.result.now
    (option_map (λ part. part.now) c.only_part-only.result) c.end_words.result.now
    (end_text c.args.refusal.now.following.runs.items c.args.refusal.now.following.ends)
    (at_text c.args.line.number c.args.refusal.now.at)
    (line_picture c.args.line.bytes.now c.args.refusal.now.position) c.args.out.now.items c.push_at.new.out.items
    c.push_expected.new.out.items c.push_line_picture.new.out.items c.push_part_lines.new.out.items
    c.as_slice-runs.ensures.value (c.as_slice-symbols.ensures.value ∙ c.in_ok-text.ensures)
    c.only_part-only.ensures
    (c.end_words.ensures
    ∙ ap (λ runs. end_text runs c.args.refusal.now.following.ends) c.as_slice-runs.ensures.value)
    c.in_ok-push_at.ensures c.in_ok-push_expected.ensures c.in_ok-push_line_picture.ensures put)
    c.push_part_lines.ensures
