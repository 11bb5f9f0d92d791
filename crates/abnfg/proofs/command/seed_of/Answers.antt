-- The number is read of the text that the rows give.
use Rattle.std.proofs.Common.{codes, rules, subst, Option}
use Rattle.clap.specs.Words.{Text, found_of}
use Rattle.clap.proofs.WalkLemmas.{one_text-rows}
use Rattle.abnfg.specs.ListWords.{IsSeedOf}
use Rattle.abnfg.proofs.command.seed_of.Goals as goal

pub returns : goal.returns
returns c =
    subst (λ (o : Option Text). IsSeedOf o c.unwrap_or.result)
    (one_text-rows (found_of c.args.matches.now) (codes "seed")) (search rules)
