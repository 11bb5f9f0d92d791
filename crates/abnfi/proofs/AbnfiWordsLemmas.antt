-- The command of the program, from that of the tools.
-- Serves: Abnfi::command
use Rattle.std.proofs.Common.{◌≡◌, refl}
use Rattle.std.specs.Prelude.{IfOk, Result}
use Rattle.abnfi.specs.AbnfiCommand.{ArePrinted, IsAbnfiApp, abnfi_app}
use Rattle.clap.specs.Words.{App, app_of}
use Rattle.clap.specs.declared.builder.command.Command.{Command}
use Rattle.cli.specs.Command.{AreAlphabets, AreFormats, AreModes, Names}

pub app_made : {E : Type 0} (r : Result Command E) (modes alphabets printed formats : Names) → AreModes modes
    → IfOk r (λ c. app_of c ≡ abnfi_app modes alphabets printed formats) → AreAlphabets alphabets → ArePrinted printed
    → AreFormats formats
    → (app : App) × IsAbnfiApp app × IfOk r (λ c. app_of c ≡ app)
app_made r modes alphabets printed formats named is letters what form = (
  abnfi_app modes alphabets printed formats,
  (modes, named, alphabets, letters, printed, what, formats, form, refl),
  is,
)
