use Rattle.std.proofs.Common.{◌≡◌, map, take}
use Rattle.clap.specs.Words.{app_of}
use Rattle.cli.specs.Command.{parameter_rule, with_rules}
use Rattle.cli.proofs.command.add_parameters.Given as goal

abbrev pub invariant-loop-parameter : goal.invariant-loop-parameter
invariant-loop-parameter l = app_of l.command ≡
    with_rules (app_of l.fn.command) (map parameter_rule (take l.parameter-index l.parameters))
