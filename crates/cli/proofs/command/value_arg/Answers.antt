use Rattle.std.proofs.Common.{◌∙◌, ap}
use Rattle.clap.specs.Words.{Rule, rule_of}
use Rattle.clap.specs.declared.builder.arg.Arg.{Arg}
use Rattle.cli.proofs.command.value_arg.Goals as goal

pub returns : goal.returns
returns c = (
  ap rule_of c.value_name.ensures ∙ ap (λ (r : Rule). record r { value_names = 1 }) c.in_ok-arg.ensures.0,
  ap (λ (v : Arg). v.global) c.value_name.ensures ∙ c.in_ok-arg.ensures.1,
)
