use Rattle.std.proofs.lemmas.Result.{IfOk-weaker}
use Rattle.cli.specs.Command.{parameter_rule}
use Rattle.cli.proofs.AddedLemmas.{arg_made}
use Rattle.cli.proofs.command.add_parameter.Goals as goal

pub returns : goal.returns
returns c = IfOk-weaker c.arg.result _ _ (λ r added. arg_made c.args.command r c.in_ok-arg.arg
    (parameter_rule c.args.parameter) c.in_ok-arg.ensures.0 c.in_ok-arg.ensures.1 added) c.arg.ensures
