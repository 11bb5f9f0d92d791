use Rattle.std.proofs.Common.{◌≡◌, ◌∙◌, ◌∷◌, [], Some, ap}
use Rattle.clap.specs.Words.{Rule, rule_of}
use Rattle.clap.specs.declared.builder.arg.Arg.{Arg}
use Rattle.clap.specs.declared.builder.value_parser.ValueParser.TheVariants as vp
use Rattle.cli.proofs.AddedLemmas.{parsed_by}
use Rattle.cli.proofs.command.choice_arg.Goals as goal

pub returns : goal.returns
returns c =
    let a = c.in_ok-arg.arg in
    let names = vp.Names c.args.names in
    let parsed : c.value_parser.result ≡ record a { value_parser = Some names } =
    parsed_by a c.value_parser.result names c.value_parser.ensures.others c.value_parser.ensures.given in (
      ap rule_of c.default_value.ensures
          ∙ ap (λ (v : Arg). record (rule_of v) { defaults = c.args.default.now ∷ [] }) parsed
          ∙ ap (λ (r : Rule). record r { parser = Some names; defaults = c.args.default.now ∷ [] })
          c.in_ok-arg.ensures.0,
      ap (λ (v : Arg). v.global) c.default_value.ensures ∙ ap (λ (v : Arg). v.global) parsed
          ∙ c.in_ok-arg.ensures.1,
    )
