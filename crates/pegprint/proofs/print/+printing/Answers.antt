use Rattle.std.proofs.Common.{rules}
use Rattle.ruletable.proofs.AppendsLemmas.{AppendsPart-first, Writes-then}
use Rattle.pegprint.specs.Brackets.{wraps}
use Rattle.pegprint.specs.Canon.{text_of}
use Rattle.pegread.specs.PegViews.{pattern_of}
use Rattle.ruletable.proofs.LeavesLemmas.{leaves-all, leaves-rest, leaves-part, leaves-none, leaves-at, leaves-last}
use Rattle.pegprint.proofs.LeftOfLemmas.{leaves-around, item-left, end-left}
use Rattle.pegprint.proofs.print.+printing.Goals as goal

pub print_prefixed-returns-in-Err-clause-bytes : goal.print_prefixed-returns-in-Err-clause-bytes
print_prefixed-returns-in-Err-clause-bytes g t c = AppendsPart-first _ _ _ _ c.in-Err.ensures.bytes

pub print_suffixed-returns-in-Ok-clause-bytes : goal.print_suffixed-returns-in-Ok-clause-bytes
print_suffixed-returns-in-Ok-clause-bytes g t c = Writes-then _ _ _ _ _ c.write_whole.result c.in-Ok.ensures.bytes
    c.write_whole.ensures.bytes

pub print_suffixed-returns-in-Err-clause-bytes : goal.print_suffixed-returns-in-Err-clause-bytes
print_suffixed-returns-in-Err-clause-bytes g t c = AppendsPart-first _ _ _ _ c.in-Err.ensures.bytes

pub print_at-returns-in-Err-clause-bytes : goal.print_at-returns-in-Err-clause-bytes
print_at-returns-in-Err-clause-bytes g t c = leaves-part _ _ _
    (leaves-around _ (wraps c.args.position (pattern_of c.args.e.now)) (text_of (pattern_of c.args.e.now))
    (let e = c.is_wrapped.ensures in let f = c.if-not-is_wrapped.false in cc)) c.in-Err.ensures.bytes

pub print_at-returns-in-Ok-print_expr-clause-bytes :
    goal.print_at-returns-in-Ok-print_expr-clause-bytes
print_at-returns-in-Ok-print_expr-clause-bytes g t c =
    let front = leaves-around (g.W.Sink.contents c.args.w.now) (wraps c.args.position (pattern_of c.args.e.now))
    (text_of (pattern_of c.args.e.now)) (let e = c.is_wrapped.ensures in let f = c.if-not-is_wrapped.false in cc) in
    leaves-last _ _ c.write_whole-in-Ok-print_expr.result
    (leaves-rest _ _ (leaves-rest _ _ front c.in-Ok.ensures.bytes) c.in-Ok-print_expr.ensures.bytes)
    c.write_whole-in-Ok-print_expr.ensures.bytes

pub print_at-returns-in-Err-print_expr-clause-bytes :
    goal.print_at-returns-in-Err-print_expr-clause-bytes
print_at-returns-in-Err-print_expr-clause-bytes g t c =
    let front = leaves-around (g.W.Sink.contents c.args.w.now) (wraps c.args.position (pattern_of c.args.e.now))
    (text_of (pattern_of c.args.e.now)) (let e = c.is_wrapped.ensures in let f = c.if-not-is_wrapped.false in cc) in
    leaves-part _ _ _ (leaves-rest _ _ front c.in-Ok.ensures.bytes) c.in-Err-print_expr.ensures.bytes

pub print_all-loop-i-init : goal.print_all-loop-i-init
print_all-loop-i-init g t c = record { left = leaves-all _ _; flag = search rules }

pub print_all-loop-i-preserved : goal.print_all-loop-i-preserved
print_all-loop-i-preserved g t c =
    let here = leaves-at (item-left _ _ c.args.es.now c.loop-i.i c.index-es-i.result c.index-es-i.is c.loop-i-test.true)
    c.loop-i.invariant.left in
    record {
      left = leaves-rest _ _ (leaves-rest _ _ here c.in-Ok.ensures.bytes) c.in-Ok-print_at.ensures.bytes;
      flag = search rules;
    }

pub print_all-returns-in-Err-clause-bytes : goal.print_all-returns-in-Err-clause-bytes
print_all-returns-in-Err-clause-bytes g t c =
    let here = leaves-at (item-left _ _ c.args.es.now c.loop-i.i c.index-es-i.result c.index-es-i.is c.loop-i-test.true)
    c.loop-i.invariant.left in
    leaves-part _ _ _ here c.in-Err.ensures.bytes

pub print_all-returns-in-Err-print_at-clause-bytes : goal.print_all-returns-in-Err-print_at-clause-bytes
print_all-returns-in-Err-print_at-clause-bytes g t c =
    let here = leaves-at (item-left _ _ c.args.es.now c.loop-i.i c.index-es-i.result c.index-es-i.is c.loop-i-test.true)
    c.loop-i.invariant.left in
    leaves-part _ _ _ (leaves-rest _ _ here c.in-Ok.ensures.bytes) c.in-Err-print_at.ensures.bytes

pub print_all-returns : goal.print_all-returns
print_all-returns g t c = record {
  bytes = leaves-none (leaves-at
      (end-left _ _ c.args.es.now c.loop-i.i c.loop-i-test.false) c.loop-i.invariant.left);
  flag = search rules;
}
