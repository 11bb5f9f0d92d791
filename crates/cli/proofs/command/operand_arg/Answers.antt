use Rattle.std.proofs.Common.{◌∙◌, Some, ap}
use Rattle.clap.specs.Words.{Rule, rule_of}
use Rattle.clap.specs.declared.builder.action.ArgAction.TheVariants.{Set}
use Rattle.clap.specs.declared.builder.arg.Arg.{Arg}
use Rattle.cli.proofs.command.operand_arg.Goals as goal

pub returns-clause-rule : goal.returns-clause-rule
returns-clause-rule c =
    ap rule_of (c.required.ensures ∙ ap (λ (v : Arg). record v { required = c.args.is_required }) (c.action.ensures
    ∙ ap (λ (v : Arg). record v { action = Some Set }) c.value_name.ensures))
    ∙ ap (λ (r : Rule). record r { value_names = 1; action = Some Set; required = c.args.is_required })
    c.new.ensures.rule
