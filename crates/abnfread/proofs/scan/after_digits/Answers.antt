use Rattle.std.proofs.Common.{rules}
use Rattle.abnfread.proofs.ByteRunLemmas.{digits-first}
use Rattle.abnfread.proofs.scan.after_digits.Goals as goal

pub returns-then-is_in : goal.returns-then-is_in
returns-then-is_in c = (
  digits-first c.in_ok-first.ensures.cases.0 (search rules) c.after_run.ensures.run,
  c.after_run.ensures.all,
)
