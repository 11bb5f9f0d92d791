use Rattle.lexer.proofs.ViabilityLemmas.{one-words}
use Rattle.abnfread.specs.AbnfSays.{Says}
use Rattle.abnfread.proofs.AbnfMachineLemmas.{one-grammar}
use Rattle.abnfread.proofs.SaysKindLemmas.{bad-silent, token-says, one-word}
use Rattle.abnfread.proofs.read.one_tree.Goals as goal

pub returns-clause-silent : goal.returns-clause-silent
returns-clause-silent c = bad-silent

pub returns-clause-says : goal.returns-clause-says
returns-clause-says c = token-says

pub returns-clause-words : goal.returns-clause-words
returns-clause-words c = λ ms vs ws h k. one-words Says one-word h k

pub returns-clause-tree : goal.returns-clause-tree
returns-clause-tree c = λ ws a b h k. one-grammar h k
