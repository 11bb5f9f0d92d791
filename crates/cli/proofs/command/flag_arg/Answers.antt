use Rattle.std.proofs.Common.{◌≡◌, ◌∙◌, Some, ap}
use Rattle.clap.specs.Words.{Rule, rule_of}
use Rattle.clap.specs.declared.builder.action.ArgAction.TheVariants.{SetTrue}
use Rattle.clap.specs.declared.builder.arg.Arg.{Arg}
use Rattle.clap.specs.declared.builder.value_parser.ValueParser.TheVariants as vp
use Rattle.cli.proofs.AddedLemmas.{parsed_by}
use Rattle.cli.proofs.command.flag_arg.Goals as goal

pub returns : goal.returns
returns c =
    let a = c.in_ok-arg.arg in
    let is : c.value_parser.result ≡ record a { action = Some SetTrue; value_parser = Some vp.Bool } =
    parsed_by c.action.result c.value_parser.result vp.Bool c.value_parser.ensures.others c.value_parser.ensures.given
    ∙ ap (λ (v : Arg). record v { value_parser = Some vp.Bool }) c.action.ensures in (
      ap rule_of is
          ∙ ap (λ (r : Rule). record r { action = Some SetTrue; parser = Some vp.Bool }) c.in_ok-arg.ensures.0,
      ap (λ (v : Arg). v.global) is ∙ c.in_ok-arg.ensures.1,
    )
