use Rattle.std.proofs.Common.{◌∙◌, Some, ap}
use Rattle.clap.specs.Words.{Rule, rule_of}
use Rattle.clap.specs.declared.builder.action.ArgAction.TheVariants.{SetTrue}
use Rattle.clap.specs.declared.builder.arg.Arg.{Arg}
use Rattle.clap.specs.declared.builder.value_parser.ValueParser.TheVariants as vp
use Rattle.cli.proofs.AddedLemmas.{parsed_by}
use Rattle.cli.proofs.command.long_flag_arg.Goals as goal

pub returns-clause-rule : goal.returns-clause-rule
returns-clause-rule c =
    ap rule_of (parsed_by c.action.result c.value_parser.result vp.Bool c.value_parser.ensures.others
    c.value_parser.ensures.given
    ∙ ap (λ (v : Arg). record v { value_parser = Some vp.Bool }) (c.action.ensures
    ∙ ap (λ (v : Arg). record v { action = Some SetTrue }) c.long.ensures))
    ∙ ap (λ (r : Rule). record r { long = Some c.args.id.now; action = Some SetTrue; parser = Some vp.Bool })
    c.new.ensures.rule
