use Rattle.std.proofs.lemmas.Result.{IfOk-weaker}
use Rattle.abnfd.proofs.compared.compare_texts.Goals as goal

pub returns : goal.returns
returns c = IfOk-weaker c.compare_with.result _ _
    (λ r is. record {
      old_reported = c.in_ok-old.old.reported.items;
      old_grammar = c.in_ok-old.old.grammar;
      is_old = c.in_ok-old.ensures;
      rest = is;
    }) c.compare_with.ensures
