use Rattle.std.proofs.Common.{◌≡◌, ◌∙◌, ◌∷◌, ◌<◌, ◌^◌, ℤ, [], Some, ap, arith, pos}
use Rattle.std.proofs.lemmas.Int.{to_z_pos}
use Rattle.std.specs.Int.{w64}
use Rattle.clap.specs.Words.{Rule, rule_of}
use Rattle.clap.specs.declared.builder.action.ArgAction.TheVariants.{Set}
use Rattle.clap.specs.declared.builder.arg.Arg.{Arg}
use Rattle.clap.specs.declared.builder.value_parser.ValueParser.TheVariants as vp
use Rattle.cli.proofs.AddedLemmas.{parsed_by}
use Rattle.cli.proofs.command.number_arg.Goals as goal

pub returns : goal.returns
returns c =
    let a = c.in_ok-arg.arg in
    let low : c.args.greatest < 2 ^ 63 = omega arith in
    let given = c.value_parser.ensures.given in
    let numbers = vp.Signed (pos 1) (pos c.args.greatest) in
    let parsed : c.value_parser.result ≡ record a { action = Some Set; value_parser = Some numbers } =
    parsed_by c.action.result c.value_parser.result numbers c.value_parser.ensures.others (
      given.0,
      given.1,
      given.2 ∙ ap (λ (z : ℤ). vp.Signed (pos 1) z) (to_z_pos w64 c.args.greatest low),
    )
    ∙ ap (λ (v : Arg). record v { value_parser = Some numbers }) c.action.ensures in (
      ap rule_of c.default_value.ensures
          ∙ ap (λ (v : Arg). record (rule_of v) { defaults = c.args.default.now ∷ [] }) parsed
          ∙ ap (λ (r : Rule). record r {
            action = Some Set;
            parser = Some numbers;
            defaults = c.args.default.now ∷ [];
          }) c.in_ok-arg.ensures.0,
      ap (λ (v : Arg). v.global) c.default_value.ensures ∙ ap (λ (v : Arg). v.global) parsed
          ∙ c.in_ok-arg.ensures.1,
    )
