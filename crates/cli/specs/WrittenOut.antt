-- What the output of a program holds back.
use Rattle.std.specs.Prelude.{◌≡◌, false, true, []}
use Rattle.std.specs.Io.Buffered.{writer_buffer}
use Rattle.cli.specs.declared.output.Output.{Output}

-- an output that writes through holds nothing back, unless writing out failed
abbrev pub IsWrittenOut : {W : Type 0} → Output W → Type 0
IsWrittenOut out = out.through ≡ true → out.late ≡ false → writer_buffer out.inner ≡ []
