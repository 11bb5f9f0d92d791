use Rattle.pegread.specs.Steps.{config_of, word_of}
use Rattle.lexer.specs.TokenLists.{tok_of}
use Rattle.pegread.proofs.ReadDefinitionsLemmas.{taken-word}
use Rattle.pegread.proofs.read.take_token.Goals as goal

pub returns-in-Ok-Some : goal.returns-in-Ok-Some
returns-in-Ok-Some c = taken-word (config_of c.args.reader.now) (tok_of c.args.token) (word_of c.in-Ok-Some.word) _
    c.take.new.self (rw c.in-Ok-Some.field-0-is at c.in-Ok-Some.ensures) c.take.ensures
