use Rattle.lexer.proofs.TokenListLemmas.{cut-front}
use Rattle.abnfread.proofs.ByteRunLemmas.{run-shorter}
use Rattle.abnfread.proofs.AbnfSliceLemmas.{run-end}
use Rattle.abnfread.proofs.NumeralLemmas.{run-front}
use Rattle.abnfread.proofs.number.split_digits.Goals as goal

pub slice_bounds-result-count : goal.slice_bounds-result-count
slice_bounds-result-count c = run-shorter c.after_run-rest.ensures.run

pub returns-clause-cut : goal.returns-clause-cut
returns-clause-cut c = cut-front (run-end c.after_run-rest.ensures.run)

pub returns-clause-digits : goal.returns-clause-digits
returns-clause-digits c = run-front c.after_run-rest.ensures.run
