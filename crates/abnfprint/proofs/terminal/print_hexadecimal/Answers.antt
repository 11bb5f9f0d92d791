use Rattle.abnfprint.proofs.PrintedNumberLemmas.{hexadecimal-two, hexadecimal-more}
use Rattle.abnfprint.proofs.terminal.print_hexadecimal.Goals as goal

pub returns-then-value-lt16-clause-bytes : goal.returns-then-value-lt16-clause-bytes
returns-then-value-lt16-clause-bytes g c = rw (hexadecimal-two c.args.value c.if-value-lt16.true, ← c.glyph.ensures)
    c.write_whole.ensures.bytes

pub returns-clause-bytes : goal.returns-clause-bytes
returns-clause-bytes g c = rw (hexadecimal-more c.args.value c.if-value-lt16.false) c.print_digits.ensures.bytes
