use Rattle.std.proofs.Common.{◌∙◌, ap}
use Rattle.std.proofs.lemmas.Result.{IfOk-weaker}
use Rattle.refusedlines.specs.RefusedText.{symbols_text}
use Rattle.refusedlines.proofs.part_texts.set_text.Goals as goal

pub returns : goal.returns
returns c = IfOk-weaker c.symbols_text.result _ _
    (λ text is. record {
      runs = c.in_ok-runs.runs.items;
      apart = c.in_ok-runs.ensures.apart;
      letters = c.in_ok-runs.ensures.letters;
      is = is ∙ ap (symbols_text c.args.alphabet) c.deref.ensures.value;
    })
    c.symbols_text.ensures
