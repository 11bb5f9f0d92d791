use Rattle.std.proofs.Common.{◌∙◌, ap, option_map, take}
use Rattle.std.proofs.lemmas.Result.{IfOk-weaker}
use Rattle.diagnostics.specs.LinesAround.{bytes_before}
use Rattle.refusedlines.proofs.RefusalLemmas.{expected_pushed}
use Rattle.refusedlines.specs.RefusedText.{at_record, line_in_record, line_picture, record_end}
use Rattle.ruletable.specs.Rules.{names_of}
use Rattle.ruletable.specs.declared.lines.LineRule.TheVariants.{Lf}
use Rattle.refusedlines.proofs.refusal.push_record.Goals as goal

pub returns : goal.returns
returns c = IfOk-weaker c.push_part_lines.result _ _
    (λ _ put. expected_pushed c.args.refusal.now.alphabet c.as_slice-runs.result.now
    c.args.refusal.now.following.runs.items (names_of c.args.refusal.now.parts) c.as_slice-symbols.result.now
    (option_map (λ part. part.now) c.only_part-only.result) c.record_end_words.result.now
    (record_end c.args.refusal.now.following.runs.items c.args.refusal.now.following.ends)
    (at_record c.args.line.number (take c.args.refusal.now.position c.args.line.bytes.now) c.args.refusal.now.column
    c.args.refusal.now.at)
    (line_picture (line_in_record c.args.line.bytes.now c.args.refusal.now.position)
    (bytes_before Lf (take c.args.refusal.now.position c.args.line.bytes.now)))
    c.args.out.now.items c.push_at_record.new.out.items c.push_expected.new.out.items
    c.push_record_picture.new.out.items c.push_part_lines.new.out.items
    c.as_slice-runs.ensures.value (c.as_slice-symbols.ensures.value ∙ c.in_ok-text.ensures)
    c.only_part-only.ensures
    (c.record_end_words.ensures
    ∙ ap (λ runs. record_end runs c.args.refusal.now.following.ends) c.as_slice-runs.ensures.value)
    c.in_ok-push_at_record.ensures c.in_ok-push_expected.ensures c.in_ok-push_record_picture.ensures put)
    c.push_part_lines.ensures
