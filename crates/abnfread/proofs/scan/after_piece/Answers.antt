use Rattle.std.proofs.Common.{rules, arith}
use Rattle.abnfread.proofs.AbnfFirstLemmas.{piece-blank, piece-crlf, piece-comment}
use Rattle.abnfread.proofs.ByteRunLemmas.{run-shorter, shorter-crlf}
use Rattle.abnfread.proofs.scan.after_piece.Goals as goal

pub returns-then-is_white : goal.returns-then-is_white
returns-then-is_white c = let e = c.in_ok-first.ensures.cases.1 in
    (piece-blank c.in_ok-first.ensures.cases.0 (search rules), omega arith)

pub returns-in-Some : goal.returns-in-Some
returns-in-Some c = let e = c.in_ok-first.ensures.cases.1 in let l = shorter-crlf c.in-Some.ensures in
    (piece-crlf c.in_ok-first.ensures.cases.0 (search rules) c.in-Some.ensures, omega arith)

pub returns-then-first-eq59 : goal.returns-then-first-eq59
returns-then-first-eq59 c = let e = c.in_ok-first.ensures.cases.1 in let l = run-shorter c.after_run.ensures.run in (
  piece-comment c.in_ok-first.ensures.cases.0 c.if-first-eq59.true c.after_run.ensures.run c.after_run.ensures.all,
  omega arith,
)
