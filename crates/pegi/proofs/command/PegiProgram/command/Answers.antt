-- The command of both tools has six more options.
use Rattle.std.proofs.Common.{◌≡◌, refl}
use Rattle.std.specs.Prelude.{IfOk, Result}
use Rattle.clap.specs.Words.{App, app_of}
use Rattle.clap.specs.declared.builder.command.Command.{Command}
use Rattle.cli.specs.Command.{AreFormats, AreModes, Names}
use Rattle.pegi.specs.PegiCommand.{IsPegiApp, pegi_app}
use Rattle.pegi.proofs.command.PegiProgram.command.Goals as goal

pegi_app_made : {E : Type 0} (r : Result Command E) (modes formats : Names) → AreModes modes
    → IfOk r (λ c. app_of c ≡ pegi_app modes formats) → AreFormats formats
    → (app : App) × IsPegiApp app × IfOk r (λ c. app_of c ≡ app)
pegi_app_made r modes formats named is form = (pegi_app modes formats, (modes, named, formats, form, refl), is)

pub returns : goal.returns
returns c =
    let made = rw c.as_slice.ensures at c.tool_command.ensures in
    record { app = pegi_app_made c.tool_command.result made.0 _ made.1 made.2 refl }
