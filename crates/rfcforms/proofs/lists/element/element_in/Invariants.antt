use Rattle.std.proofs.Common.{◌≡◌, map}
use Rattle.lexer.specs.TokenLists.{LeadsTo, tok_of}
use Rattle.abnfread.specs.AbnfKinds.{ends_list}
use Rattle.abnfread.specs.AbnfSlices.{First, White}
use Rattle.rfcforms.specs.ListSearches.{elements_after}
use Rattle.rfcforms.specs.declared.lists.element.ElementSearch.TheVariants.{Awaited}
use Rattle.rfcforms.proofs.lists.element.element_in.Given as goal

-- the tokens so far lead to those that are left
abbrev pub invariant-loop-token : goal.invariant-loop-token
invariant-loop-token l = record {
  leads : LeadsTo White First ends_list l.text (map tok_of l.yielded) l.token-iterator;
  search : l.search ≡ elements_after Awaited (map tok_of l.yielded);
}
