-- The number is read of the text that the rows give.
use Rattle.std.proofs.Common.{rules, subst, Option}
use Rattle.clap.specs.Words.{Text, found_of}
use Rattle.clap.proofs.WalkLemmas.{one_text-rows}
use Rattle.cli.specs.Asked.{IsNumberOf}
use Rattle.cli.proofs.values.number_of.Goals as goal

pub returns : goal.returns
returns c =
    subst (λ (o : Option Text). IsNumberOf c.args.default o c.unwrap_or.result)
    (one_text-rows (found_of c.args.matches.now) c.args.id.now) (search rules)
