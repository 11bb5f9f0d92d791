-- Letters in lower case stand for the same symbols.
use Rattle.abnfrun.proofs.FactoredChoicesLemmas.{lower_spelled}
use Rattle.abnfrun.proofs.factored.key_of.Goals as goal

pub returns-in_ok-to_ascii_lowercase : goal.returns-in_ok-to_ascii_lowercase
returns-in_ok-to_ascii_lowercase c = λ w.
    rw (c.if-folds.true, c.in_ok-to_ascii_lowercase.ensures.ok) (lower_spelled c.args.text.now w)
