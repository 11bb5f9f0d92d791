use Rattle.std.proofs.Common.{rules}
use Rattle.lexer.specs.SliceEnds.{NoToken}
use Rattle.std.proofs.Common.{◌∷◌}
use Rattle.abnfread.specs.AbnfSlices.{Stands}
use Rattle.abnfread.proofs.AbnfFirstLemmas.{longest-num, no-num, no-base}
use Rattle.abnfread.proofs.scan.based_token.Goals as goal

pub returns-in_err-base : goal.returns-in_err-base
returns-in_err-base c = let h : NoToken Stands (37 ∷ c.args.c ∷ c.args.tail.now) =
    no-base c.requires c.in_err-base.ensures in search (rules, h)

pub returns-in_err-rest : goal.returns-in_err-rest
returns-in_err-rest c = let h : NoToken Stands (37 ∷ c.args.c ∷ c.args.tail.now) =
    no-num c.requires c.in_ok-base.ensures.0 c.in_err-rest.ensures in search (rules, h)

pub returns : goal.returns
returns c = longest-num c.requires c.in_ok-base.ensures.0 c.in_ok-rest.ensures.0 c.in_ok-rest.ensures.1
