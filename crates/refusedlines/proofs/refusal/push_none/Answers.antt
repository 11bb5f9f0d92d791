use Rattle.std.proofs.Common.{◌∙◌, ◌++◌, ap, codes, decimal}
use Rattle.diagnostics.specs.ShownBytes.{cut}
use Rattle.refusedlines.proofs.RefusalLemmas.{five_pushed}
use Rattle.refusedlines.specs.RefusedText.{unit_word}
use Rattle.refusedlines.proofs.refusal.push_none.Goals as goal

pub returns : goal.returns
returns c =
    five_pushed c.args.out.now.items (unit_word c.args.line.unit) (decimal c.args.line.number) (codes ": rule '")
    (cut c.args.name.now) (codes "' derives nothing\n") _ _ _ _ _
    (c.in_ok-extend_from_slice.ensures.items ∙ ap (λ u. c.args.out.now.items ++ u) c.unit_word.ensures)
    c.in_ok-push_number.ensures c.in_ok-extend_from_slice-2.ensures.items c.in_ok-push_cut.ensures
    c.in_ok-extend_from_slice-3.ensures.items
