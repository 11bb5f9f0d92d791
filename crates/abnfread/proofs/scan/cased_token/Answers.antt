use Rattle.std.proofs.Common.{rules}
use Rattle.lexer.specs.SliceEnds.{NoToken}
use Rattle.std.proofs.Common.{◌∷◌}
use Rattle.abnfread.specs.AbnfSlices.{Stands}
use Rattle.abnfread.proofs.AbnfFirstLemmas.{longest-cased, no-cased, no-quote}
use Rattle.abnfread.proofs.scan.cased_token.Goals as goal

pub returns-in_err-rest : goal.returns-in_err-rest
returns-in_err-rest c = λ letter is. let h : NoToken Stands (37 ∷ letter ∷ c.args.tail.now) =
    no-cased is c.in_ok-quoted.ensures c.in_err-rest.ensures in search (rules, h)

pub returns-in_err-quoted : goal.returns-in_err-quoted
returns-in_err-quoted c = λ letter is. let h : NoToken Stands (37 ∷ letter ∷ c.args.tail.now) =
    no-quote is c.in_err-quoted.ensures in search (rules, h)

pub returns : goal.returns
returns c = λ letter is. longest-cased is c.in_ok-quoted.ensures c.in_ok-rest.ensures
