use Rattle.std.proofs.Common.{◌≡◌, map}
use Rattle.lexer.specs.TokenLists.{LeadsTo, tok_of}
use Rattle.abnfread.specs.AbnfKinds.{ends_list}
use Rattle.abnfread.specs.AbnfSlices.{First, White}
use Rattle.abnfblocks.specs.RuleEnds.{stands_after}
use Rattle.abnfblocks.proofs.ends.after_text.Given as goal

-- the tokens so far lead to those that are left
abbrev pub invariant-loop-token : goal.invariant-loop-token
invariant-loop-token l = record {
  leads : LeadsTo White First ends_list l.text (map tok_of l.yielded) l.token-iterator;
  stand : l.stand ≡ stands_after l.fn.before (map tok_of l.yielded);
}
