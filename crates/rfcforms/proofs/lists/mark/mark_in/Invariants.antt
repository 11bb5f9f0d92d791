use Rattle.std.proofs.Common.{◌≡◌, map}
use Rattle.lexer.specs.TokenLists.{LeadsTo, tok_of}
use Rattle.abnfread.specs.AbnfKinds.{ends_list}
use Rattle.abnfread.specs.AbnfSlices.{First, White}
use Rattle.rfcforms.specs.ListSearches.{marks_after}
use Rattle.rfcforms.specs.declared.lists.mark.MarkSearch.TheVariants.{Before}
use Rattle.rfcforms.proofs.lists.mark.mark_in.Given as goal

-- the tokens so far lead to those that are left
abbrev pub invariant-loop-token : goal.invariant-loop-token
invariant-loop-token l = record {
  leads : LeadsTo White First ends_list l.text (map tok_of l.yielded) l.token-iterator;
  search : l.search ≡ marks_after (Before 0 0) (map tok_of l.yielded);
}
