-- Classes of bytes.
use Rattle.std.specs.Prelude.{ℕ, Bool}
use Rattle.abnfread.specs.declared.scan.Class.{Class}
use Rattle.abnfread.specs.declared.scan.Class.TheVariants.{Inner, Quotable, Prose, Inside, Digit}
use Rattle.abnfread.specs.BaseDigits.{is_digit}
use Rattle.abnfread.specs.AbnfSlices.{continues_name, is_quotable, is_prose, is_inside}

-- whether the byte is of the class
abbrev pub test_of : Class → ℕ → Bool
test_of Inner b = continues_name b
test_of Quotable b = is_quotable b
test_of Prose b = is_prose b
test_of Inside b = is_inside b
test_of (Digit base) b = is_digit base b
