use Rattle.std.proofs.Common.{◌≡◌, map, take}
use Rattle.lexer.specs.TokenLists.{tok_of}
use Rattle.rfcvalues.specs.RuleSketches.{names_among}
use Rattle.rfcvalues.proofs.words.names_among.Given as goal

abbrev pub invariant-loop-word : goal.invariant-loop-word
invariant-loop-word l = map (λ name. name.items) l.names.items ≡ names_among (map tok_of (take l.word-index l.words))
