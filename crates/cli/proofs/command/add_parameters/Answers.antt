-- Each parameter has its rule, one after the other.
use Rattle.clap.specs.Words.{app_of}
use Rattle.cli.proofs.AddedLemmas.{rules_more, rules_none}
use Rattle.cli.specs.Command.{parameter_rule}
use Rattle.cli.proofs.command.add_parameters.Goals as goal

pub loop-parameter-init : goal.loop-parameter-init
loop-parameter-init c = rules_none (app_of c.args.command)

pub loop-parameter-preserved : goal.loop-parameter-preserved
loop-parameter-preserved c =
    rules_more parameter_rule (app_of c.args.command) c.args.parameters.now c.loop-parameter.parameter-index _
    c.loop-parameter.command c.in_ok-command.command c.loop-parameter-test.true c.in_ok-command.ensures
    c.loop-parameter.invariant
