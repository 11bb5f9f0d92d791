use Rattle.std.proofs.Common.{◌∙◌, arith, ap, length, map, refl, sym}
use Rattle.std.proofs.lemmas.List.{length-map}
use Rattle.refusedlines.proofs.PartLinesLemmas.{several_parts, single_part}
use Rattle.ruletable.specs.Rules.{names_of}
use Rattle.refusedlines.proofs.part_lines.only_part.Goals as goal

pub returns-then-len-ne1 : goal.returns-then-len-ne1
returns-then-len-ne1 c =
    let count = length-map c.args.parts.now.rules (λ rule. rule.name) in
    let size = c.len.ensures.len in
    sym (several_parts c.args.symbols.now (names_of c.args.parts.now)
    (λ one. c.if-len-ne1.true (size ∙ sym count ∙ one)))
