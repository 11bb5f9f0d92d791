use Rattle.std.proofs.Common.{List, ℕ, [], ◌++◌, ap, append_assoc, append-nil, arith, subst, sym, ◌∙◌}
use Rattle.pegread.specs.Reading.{Reads}
use Rattle.pegprint.specs.PegAllFaults.{AreOthers}
use Rattle.pegprint.specs.PegDecisions.{token_of}
use Rattle.pegprint.proofs.PegAllFaultLemmas.{all-read, none-faulty, none-left, one-further, rest-whole}
use Rattle.pegprint.proofs.faults.all_faults.push_others.Goals as goal

pub loop-fault-init : goal.loop-fault-init
loop-fault-init c = record {
  said = [];
  out_is = sym (append-nil c.args.out.now.items);
  within = omega arith;
  goes = λ others later. record {
    token = token_of c.in-Some.decided.decision;
    ahead = c.name_from-ahead.result;
    decides = record {
      before = c.in-Some.decided.before;
      is_after = c.in-Some.ensures.1;
      is = c.name_from-ahead.ensures;
    };
    are = later;
  };
}

pub loop-fault-preserved : goal.loop-fault-preserved
loop-fault-preserved c =
    let text : List ℕ = c.args.text.now in
    let h = c.loop-fault.invariant in
    let w = c.in_ok-ahead-in-Err.ensures in
    let first = c.in-Some-next_rule_line.ensures in
    record {
      said = h.said ++ w.0;
      out_is = w.2 ∙ ap (λ (z : List ℕ). z ++ w.0) h.out_is ∙ append_assoc c.args.out.now.items h.said w.0;
      within = (let high = first.high in omega (arith, high));
      goes = λ others later. subst (AreOthers text) (sym (append_assoc h.said w.0 others)) (h.goes (w.0 ++ others)
          (one-further text c.greatest_indent-most.result c.greatest_indent-most.ensures c.loop-fault._fault
          c.loop-fault.start c.loop-fault.ahead c.loop-fault-test.true c.in-Some-next_rule_line.next
          c.in_ok-ahead-in-Err.ahead w.0 others first w.1 later));
    }

pub returns-in_default-next_rule_line : goal.returns-in_default-next_rule_line
returns-in_default-next_rule_line c =
    let h = c.loop-fault.invariant in (
      h.said ++ [],
      h.goes [] (none-left c.args.text.now c.greatest_indent-most.result c.greatest_indent-most.ensures
          c.loop-fault._fault c.loop-fault.start c.loop-fault.ahead c.loop-fault-test.true
          c.in_default-next_rule_line.ensures),
      h.out_is ∙ ap (λ (z : List ℕ). c.args.out.now.items ++ z) (sym (append-nil h.said)),
    )

pub returns-in-Ok : goal.returns-in-Ok
returns-in-Ok c =
    let text : List ℕ = c.args.text.now in
    let h = c.loop-fault.invariant in
    let found = c.in-Ok.ensures.found in
    let next = c.in-Some-next_rule_line.next in (
      h.said ++ [],
      h.goes [] (none-faulty text c.greatest_indent-most.result c.greatest_indent-most.ensures
          c.loop-fault._fault c.loop-fault.start c.loop-fault.ahead c.loop-fault-test.true next found.0
          c.in-Some-next_rule_line.ensures
          (subst (λ (t : List ℕ). Reads t found.0) (rest-whole next text) found.1)),
      h.out_is ∙ ap (λ (z : List ℕ). c.args.out.now.items ++ z) (sym (append-nil h.said)),
    )

pub returns : goal.returns
returns c =
    let h = c.loop-fault.invariant in (
      h.said ++ [],
      h.goes [] (all-read c.args.text.now c.loop-fault._fault c.loop-fault.start c.loop-fault.ahead
          c.loop-fault-test.false),
      h.out_is ∙ ap (λ (z : List ℕ). c.args.out.now.items ++ z) (sym (append-nil h.said)),
    )
