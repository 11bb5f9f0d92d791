-- The parameters of a tool come after those of both.
use Rattle.std.proofs.Common.{◌∙◌, ap, map, refl}
use Rattle.std.proofs.lemmas.Result.{IfOk-weaker, err_from_is_err_and}
use Rattle.clap.specs.Words.{App}
use Rattle.cli.proofs.AddedLemmas.{tool_made}
use Rattle.cli.specs.Command.{parameter_rule, with_rules}
use Rattle.cli.proofs.command.tool_command.Goals as goal

pub returns-in_err-command : goal.returns-in_err-command
returns-in_err-command c =
    let fault = err_from_is_err_and c.from_residual.result c.from_residual.ensures.1 in
    tool_made c.program_command.result c.from_residual.result _ c.args.name.now (map parameter_rule c.args.own.now)
    (rw c.as_slice.ensures at c.program_command.ensures) refl (rw fault.1 tt)

pub returns : goal.returns
returns c =
    let rules = map parameter_rule c.args.own.now in
    let both = rw c.as_slice.ensures at c.in_ok-command.ensures in
    tool_made c.program_command.result c.add_parameters.result _ c.args.name.now rules
    (rw c.as_slice.ensures at c.program_command.ensures) refl
    (IfOk-weaker c.add_parameters.result _ _ (λ r is. is ∙ ap (λ (app : App). with_rules app rules) both)
    c.add_parameters.ensures)
