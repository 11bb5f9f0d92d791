use Rattle.std.proofs.lemmas.Result.{IfOk-weaker}
use Rattle.abnfd.proofs.compared.compare_with.Goals as goal

pub returns : goal.returns
returns c = IfOk-weaker c.report_on.result _ _
    (λ r is. record {
      new_reported = c.in_ok-new.new.reported.items;
      new_grammar = c.in_ok-new.new.grammar;
      is_new = c.in_ok-new.ensures;
      all = is.0;
      answer = is.1;
    }) c.report_on.ensures
