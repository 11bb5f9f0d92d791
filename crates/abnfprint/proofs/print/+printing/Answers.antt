use Rattle.std.proofs.Common.{rules}
use Rattle.ruletable.proofs.AppendsLemmas.{AppendsPart-first, Writes-then}
use Rattle.ruletable.proofs.LeavesLemmas.{leaves-all, leaves-rest, leaves-part, leaves-none, leaves-at, leaves-last}
use Rattle.abnfprint.proofs.LeftTextLemmas.{item-left, end-left}
use Rattle.abnfprint.proofs.print.+printing.Goals as goal

pub print_repeated-returns-in-Ok-clause-bytes : goal.print_repeated-returns-in-Ok-clause-bytes
print_repeated-returns-in-Ok-clause-bytes g t c = Writes-then _ _ _ _ _ c.print_at.result c.in-Ok.ensures.bytes
    c.print_at.ensures.bytes

pub print_repeated-returns-in-Err-clause-bytes : goal.print_repeated-returns-in-Err-clause-bytes
print_repeated-returns-in-Err-clause-bytes g t c = AppendsPart-first _ _ _ _ c.in-Err.ensures.bytes

pub print_between-returns-in-Err-clause-bytes : goal.print_between-returns-in-Err-clause-bytes
print_between-returns-in-Err-clause-bytes g t c = leaves-part _ _ _ (leaves-all _ _) c.in-Err.ensures.bytes

pub print_between-returns-in-Ok-print_elem-clause-bytes : goal.print_between-returns-in-Ok-print_elem-clause-bytes
print_between-returns-in-Ok-print_elem-clause-bytes g t c =
    leaves-last _ _ c.write_whole-in-Ok-print_elem.result
    (leaves-rest _ _ (leaves-rest _ _ (leaves-all _ _) c.in-Ok.ensures.bytes) c.in-Ok-print_elem.ensures.bytes)
    c.write_whole-in-Ok-print_elem.ensures.bytes

pub print_between-returns-in-Err-print_elem-clause-bytes : goal.print_between-returns-in-Err-print_elem-clause-bytes
print_between-returns-in-Err-print_elem-clause-bytes g t c =
    leaves-part _ _ _ (leaves-rest _ _ (leaves-all _ _) c.in-Ok.ensures.bytes) c.in-Err-print_elem.ensures.bytes

pub print_all-loop-i-init : goal.print_all-loop-i-init
print_all-loop-i-init g t c = record { left = leaves-all _ _; flag = search rules }

pub print_all-loop-i-preserved : goal.print_all-loop-i-preserved
print_all-loop-i-preserved g t c =
    let here = leaves-at (item-left _ _ c.args.es.now c.loop-i.i c.index-es-i.result c.index-es-i.is c.loop-i-test.true)
    c.loop-i.invariant.left in
    record {
      left = leaves-rest _ _ (leaves-rest _ _ here c.in-Ok.ensures.bytes) c.in-Ok-print_at.ensures.bytes;
      flag = search rules;
    }

pub print_all-returns-in-Err-clause-bytes : goal.print_all-returns-in-Err-clause-bytes
print_all-returns-in-Err-clause-bytes g t c =
    let here = leaves-at (item-left _ _ c.args.es.now c.loop-i.i c.index-es-i.result c.index-es-i.is c.loop-i-test.true)
    c.loop-i.invariant.left in
    leaves-part _ _ _ here c.in-Err.ensures.bytes

pub print_all-returns-in-Err-print_at-clause-bytes : goal.print_all-returns-in-Err-print_at-clause-bytes
print_all-returns-in-Err-print_at-clause-bytes g t c =
    let here = leaves-at (item-left _ _ c.args.es.now c.loop-i.i c.index-es-i.result c.index-es-i.is c.loop-i-test.true)
    c.loop-i.invariant.left in
    leaves-part _ _ _ (leaves-rest _ _ here c.in-Ok.ensures.bytes) c.in-Err-print_at.ensures.bytes

pub print_all-returns : goal.print_all-returns
print_all-returns g t c = record {
  bytes = leaves-none (leaves-at
      (end-left _ _ c.args.es.now c.loop-i.i c.loop-i-test.false) c.loop-i.invariant.left);
  flag = search rules;
}
