use Rattle.clap.specs.declared.error.kind.ErrorKind.TheVariants.{ValueValidation}
use Rattle.cli.proofs.fault.refuse_invalid_utf8.Goals as goal

pub returns : goal.returns
returns g c = record { refused = c.end_error.ensures ValueValidation c.error_of-error.ensures.kind }
