use Rattle.std.proofs.Common.{◌∙◌, ap}
use Rattle.std.proofs.lemmas.Result.{IfOk-weaker}
use Rattle.clap.specs.declared.builder.arg.Arg.{Arg}
use Rattle.cli.proofs.AddedLemmas.{option_made}
use Rattle.cli.proofs.command.option_arg.Goals as goal

pub returns : goal.returns
returns c = IfOk-weaker c.alias.result _ _ (λ a added. (
  option_made c.args.id c.args.letter c.new.result c.short.result a c.new.ensures.rule c.short.ensures added,
  ap (λ (v : Arg). v.global) added.0 ∙ ap (λ (v : Arg). v.global) c.short.ensures ∙ c.new.ensures.optional.1,
)) c.alias.ensures
