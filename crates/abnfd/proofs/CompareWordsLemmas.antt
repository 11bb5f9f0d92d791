-- The command of the program, from that of its parameters.
-- Serves: abnfd_command
use Rattle.std.proofs.Common.{◌≡◌, refl}
use Rattle.std.specs.Prelude.{IfOk, Result}
use Rattle.clap.specs.Words.{App, app_of}
use Rattle.clap.specs.declared.builder.command.Command.{Command}
use Rattle.abnfd.specs.CompareWords.{IsAbnfdApp, abnfd_app}
use Rattle.cli.specs.Command.{AreAlphabets, Names}

pub app_made : {E : Type 0} (r : Result Command E) (names : Names) → IfOk r (λ c. app_of c ≡ abnfd_app names)
    → AreAlphabets names → (app : App) × IsAbnfdApp app × IfOk r (λ c. app_of c ≡ app)
app_made r names is are = (abnfd_app names, (names, are, refl), is)
