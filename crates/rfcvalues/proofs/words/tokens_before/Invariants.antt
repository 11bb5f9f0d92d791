use Rattle.std.proofs.Common.{◌≡◌, map}
use Rattle.lexer.specs.TokenLists.{LeadsTo, tok_of}
use Rattle.abnfread.specs.AbnfKinds.{ends_list}
use Rattle.abnfread.specs.AbnfSlices.{First, White}
use Rattle.rfcvalues.specs.RuleSketches.{tokens_before}
use Rattle.rfcvalues.proofs.words.tokens_before.Given as goal

-- the tokens so far lead to those that are left
abbrev pub invariant-loop-token : goal.invariant-loop-token
invariant-loop-token l = record {
  leads : LeadsTo White First ends_list l.text (map tok_of l.yielded) l.token-iterator;
  found : map tok_of l.found.items ≡ tokens_before l.end (map tok_of l.yielded);
}
