use Rattle.std.proofs.Common.{◌++◌, ◌-◌, ◌∙◌, ap, min, sym}
use Rattle.std.proofs.lemmas.List.{length-map}
use Rattle.std.proofs.lemmas.Result.{IfOk-weaker}
use Rattle.diagnostics.specs.NoteLines.{more_reported}
use Rattle.ruletable.specs.Rules.{names_of}
use Rattle.refusedlines.proofs.PartLinesLemmas.{lines_shown}
use Rattle.refusedlines.proofs.part_lines.push_shown.Goals as goal

pub returns : goal.returns
returns c =
    let names = names_of c.args.parts.now in
    let count = sym (length-map c.args.parts.now.rules (λ rule. rule.name)) in
    let shown = c.min-shown.result in
    let front = c.push_first.new.out.items in
    IfOk-weaker c.push_more.result _ _
    (λ _ put. lines_shown names shown c.args.out.now.items front c.push_more.new.out.items
    (c.min-shown.ensures ∙ ap (λ n. min n 16) (c.len.ensures.len ∙ count)) c.in_ok-push_first.ensures
    (put ∙ ap (λ n. front ++ more_reported (n - shown)) (c.len-2.ensures.len ∙ count)))
    c.push_more.ensures
