use Rattle.ruletable.proofs.AppendsLemmas.{AppendsPart-first, Writes-then}
use Rattle.abnfprint.proofs.PrintedNumberLemmas.{upper-one, upper-more}
use Rattle.abnfprint.proofs.terminal.+digits.Goals as goal

pub returns-then-value-lt16-clause-bytes : goal.returns-then-value-lt16-clause-bytes
returns-then-value-lt16-clause-bytes g t c = rw (
  upper-one c.args.value c.requires.some c.if-value-lt16.true,
  ← c.glyph.ensures,
) c.write_whole.ensures.bytes

pub returns-in-Ok-clause-bytes : goal.returns-in-Ok-clause-bytes
returns-in-Ok-clause-bytes g t c = rw (upper-more c.args.value c.requires.some, ← c.glyph-in-Ok.ensures)
    (Writes-then _ _ _ _ _ c.write_whole-in-Ok.result c.in-Ok.ensures.bytes c.write_whole-in-Ok.ensures.bytes)

pub returns-in-Err-clause-bytes : goal.returns-in-Err-clause-bytes
returns-in-Err-clause-bytes g t c = rw (upper-more c.args.value c.requires.some)
    (AppendsPart-first _ _ _ _ c.in-Err.ensures.bytes)
