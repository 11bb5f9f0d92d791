use Rattle.std.proofs.Common.{rules, arith}
use Rattle.ruletable.proofs.LeavesLemmas.{leaves-all, leaves-rest, leaves-part, leaves-none, leaves-at}
use Rattle.pegprint.proofs.LeftOfLemmas.{rule-left, rules-end}
use Rattle.pegprint.proofs.ReadBackLemmas.{table-back}
use Rattle.pegprint.proofs.print.print_peg.Goals as goal

pub loop-id-init : goal.loop-id-init
loop-id-init g c = record { left = leaves-all _ _; flag = search rules }

pub loop-id-preserved : goal.loop-id-preserved
loop-id-preserved g c = record {
  left = leaves-rest _ _ (leaves-at (rule-left c.args.peg.now.rules.rules c.loop-id.id c.name.result.now
      c.body.result.now c.name.ensures c.body.ensures) c.loop-id.invariant.left) c.in-Ok.ensures.bytes;
  flag = search rules;
}

pub returns-in-Err-clause-bytes : goal.returns-in-Err-clause-bytes
returns-in-Err-clause-bytes g c = leaves-part _ _ _
    (leaves-at (rule-left c.args.peg.now.rules.rules c.loop-id.id c.name.result.now c.body.result.now c.name.ensures
    c.body.ensures) c.loop-id.invariant.left) c.in-Err.ensures.bytes

pub returns-in-Err-clause-read_back : goal.returns-in-Err-clause-read_back
returns-in-Err-clause-read_back g c = λ source h le. table-back source _ _ h le

pub returns : goal.returns
returns g c = record {
  bytes = leaves-none (leaves-at (rules-end c.args.peg.now.rules.rules c.loop-id.id
      (let e = c.len-id-end.ensures.len in let f = c.loop-id-test.false in omega arith)) c.loop-id.invariant.left);
  flag = search rules;
  read_back = λ source h le. table-back source _ _ h le;
}
