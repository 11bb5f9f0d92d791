-- Both texts are opened, and the report is on them.
use Rattle.std.proofs.lemmas.Result.{IfOk-weaker}
use Rattle.capi.proofs.compared.compare_texts.Goals as goal

pub returns : goal.returns
returns c = IfOk-weaker c.report_on.result _ _
    (λ r is. record {
      old_reported = c.in_ok-old.old.reported.items;
      new_reported = c.in_ok-new.new.reported.items;
      old_grammar = c.in_ok-old.old.grammar;
      new_grammar = c.in_ok-new.new.grammar;
      found = c.in_ok-lines.lines.found;
      status = c.in_ok-lines.lines.status;
      old_is = c.in_ok-old.ensures;
      new_is = c.in_ok-new.ensures;
      are_found = c.in_ok-lines.ensures;
      report_is = rw (c.as_slice.ensures.value, c.as_slice-2.ensures.value) at is;
    }) c.report_on.ensures
