use Rattle.abnftexts.proofs.JoinedReplyLemmas.{joined-same, stated-same}
use Rattle.abnftexts.proofs.TextRulesLemmas.{OneReading}
use Rattle.abnftexts.proofs.laws.one_joining.Goals as goal

pub returns-clause-joined : goal.returns-clause-joined
returns-clause-joined c = λ lists texts a b x y.
    let one : OneReading = record {
      definitions = c.one_reading.ensures.definitions;
      no_fault = c.one_reading.ensures.no_fault;
      one_fault = c.one_reading.ensures.one_fault;
      kept = c.one_masking.ensures;
      found = c.one_finding.ensures.one;
      tokens = c.one_list.ensures;
      expanded = c.one_expansion.ensures.expanded;
      lines = c.one_expansion.ensures.lines;
    } in
    joined-same one lists texts a b x y

pub returns-clause-stated : goal.returns-clause-stated
returns-clause-stated c = λ texts lists form explains input notes others a b x y p q.
    let one : OneReading = record {
      definitions = c.one_reading.ensures.definitions;
      no_fault = c.one_reading.ensures.no_fault;
      one_fault = c.one_reading.ensures.one_fault;
      kept = c.one_masking.ensures;
      found = c.one_finding.ensures.one;
      tokens = c.one_list.ensures;
      expanded = c.one_expansion.ensures.expanded;
      lines = c.one_expansion.ensures.lines;
    } in
    stated-same one c.one_explanation_of_abnf.ensures lists texts x y p q
