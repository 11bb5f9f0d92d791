use Rattle.std.proofs.Common.{List, ℕ, [], ◌++◌, ap, append-nil, arith, sym, ◌∙◌}
use Rattle.lexer.specs.TokenLists.{tok_of}
use Rattle.abnfexplain.proofs.AbnfAllFaultLemmas.{all-read, none-faulty, none-left, one-further, others-more}
use Rattle.abnfexplain.proofs.AbnfAllFaultLemmas.{said-more}
use Rattle.abnfexplain.proofs.all_faults.push_others.Goals as goal

pub loop-fault-init : goal.loop-fault-init
loop-fault-init c = record {
  said = [];
  out_is = sym (append-nil c.args.out.now.items);
  within = omega arith;
  goes = λ others later. record {
    token = tok_of c.in-Some.token;
    decides = (let h = c.in_ok-token.ensures in rw (c.in-Some.is, c.in-Some.token-is) at h);
    are = later;
  };
}

pub loop-fault-preserved : goal.loop-fault-preserved
loop-fault-preserved c =
    let text : List ℕ = c.args.text.now in
    let h = c.loop-fault.invariant in
    let w = (let r = c.in_ok-further.ensures in rw c.in-Some-2.is at r) in
    let first = c.in-Some-next_rule_line.ensures in
    record {
      said = h.said ++ w.0;
      out_is = said-more c.args.out.now.items c.loop-fault.out.items c.push_fault.new.out.items h.said w.0 h.out_is w.2;
      within = (let high = first.high in omega (arith, high));
      goes = λ others later. others-more text h.said w.0 others (h.goes (w.0 ++ others)
          (one-further text c.margin_of-margin.result c.margin_of-margin.ensures c.loop-fault._fault
          c.loop-fault.start c.loop-fault.ahead c.loop-fault-test.true c.in-Some-next_rule_line.next
          c.in-Some-2.further w.0 others first w.1 later));
    }

pub returns-in_default-next_rule_line : goal.returns-in_default-next_rule_line
returns-in_default-next_rule_line c =
    let h = c.loop-fault.invariant in (
      h.said ++ [],
      h.goes [] (none-left c.args.text.now c.margin_of-margin.result c.margin_of-margin.ensures
          c.loop-fault._fault c.loop-fault.start c.loop-fault.ahead c.loop-fault-test.true
          c.in_default-next_rule_line.ensures),
      h.out_is ∙ ap (λ (z : List ℕ). c.args.out.now.items ++ z) (sym (append-nil h.said)),
    )

pub returns-in_default-2 : goal.returns-in_default-2
returns-in_default-2 c =
    let h = c.loop-fault.invariant in
    let none = (let r = c.in_ok-further.ensures in rw c.in_default-2.is at r) in (
      h.said ++ [],
      h.goes [] (none-faulty c.args.text.now c.margin_of-margin.result c.margin_of-margin.ensures
          c.loop-fault._fault c.loop-fault.start c.loop-fault.ahead c.loop-fault-test.true
          c.in-Some-next_rule_line.next c.in-Some-next_rule_line.ensures none.0),
      none.1 ∙ h.out_is ∙ ap (λ (z : List ℕ). c.args.out.now.items ++ z) (sym (append-nil h.said)),
    )

pub returns : goal.returns
returns c =
    let h = c.loop-fault.invariant in (
      h.said ++ [],
      h.goes [] (all-read c.args.text.now c.loop-fault._fault c.loop-fault.start c.loop-fault.ahead
          c.loop-fault-test.false),
      h.out_is ∙ ap (λ (z : List ℕ). c.args.out.now.items ++ z) (sym (append-nil h.said)),
    )
