-- The bytes that end lines.
use Prim.Native.Char.{code}
use Rattle.std.specs.Prelude.{ℕ}
use Rattle.abnfhints.specs.declared.line_end.LineEnd.{LineEnd}
use Rattle.abnfhints.specs.declared.line_end.LineEnd.TheVariants.{Lf, Nul}

abbrev pub end_byte : LineEnd → ℕ
end_byte Lf = code "\n"
end_byte Nul = 0
