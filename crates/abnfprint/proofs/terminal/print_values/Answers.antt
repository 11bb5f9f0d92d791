use Rattle.std.proofs.Common.{rules, codes}
use Rattle.ruletable.proofs.AppendsLemmas.{AppendsPart-first}
use Rattle.abnfprint.specs.CanonicalAbnf.{values_text}
use Rattle.ruletable.proofs.LeavesLemmas.{leaves-all, leaves-rest, leaves-part, leaves-none, leaves-at}
use Rattle.abnfprint.proofs.LeftTextLemmas.{value-left, values-end}
use Rattle.abnfprint.proofs.terminal.print_values.Goals as goal

pub returns-in-Err-clause-bytes : goal.returns-in-Err-clause-bytes
returns-in-Err-clause-bytes g c = AppendsPart-first _ _ (codes "%x") (values_text c.args.values.now)
    c.in-Err.ensures.bytes

pub loop-i-init : goal.loop-i-init
loop-i-init g c = record {
  left = leaves-rest (codes "%x") (values_text c.args.values.now) (leaves-all _
      _) c.in-Ok.ensures.bytes;
  flag = search rules;
}

pub loop-i-preserved : goal.loop-i-preserved
loop-i-preserved g c =
    let dot = c.dot_at.ensures in
    let here = leaves-at (value-left c.args.values.now c.loop-i.i 0 c.loop-i-test.true) c.loop-i.invariant.left in
    record { left = leaves-rest _ _ here (rw dot at c.in-Ok-print_marked.ensures.bytes); flag = search rules }

pub returns-in-Err-print_marked-clause-bytes : goal.returns-in-Err-print_marked-clause-bytes
returns-in-Err-print_marked-clause-bytes g c =
    let dot = c.dot_at.ensures in
    let here = leaves-at (value-left c.args.values.now c.loop-i.i 0 c.loop-i-test.true) c.loop-i.invariant.left in
    leaves-part _ _ _ here (rw dot at c.in-Err-print_marked.ensures.bytes)

pub returns : goal.returns
returns g c = record {
  bytes = leaves-none (leaves-at (values-end c.args.values.now c.loop-i.i c.loop-i-test.false)
      c.loop-i.invariant.left);
  flag = search rules;
}
