use Rattle.std.proofs.Common.{◌≡◌, ◌++◌, List, map}
use Rattle.lexer.specs.TokenLists.{LeadsTo, Tok, tok_of}
use Rattle.abnfread.specs.AbnfKinds.{ends_list}
use Rattle.abnfread.specs.AbnfSlices.{First, White}
use Rattle.abnfread.specs.declared.kind.AbnfKind.{AbnfKind}
use Rattle.rfcforms.specs.ListSearches.{tokens_joined}
use Rattle.rfcforms.proofs.lists.element.on_one_line.Given as goal

-- the tokens so far lead to those that are left, and these complete the line
abbrev pub invariant-loop-token : goal.invariant-loop-token
invariant-loop-token l = record {
  leads : LeadsTo White First ends_list l.text (map tok_of l.yielded) l.token-iterator;
  so_far : (items : List (Tok AbnfKind)) → l.line.items ++ tokens_joined l.at items
      ≡ tokens_joined 0 (map tok_of l.yielded ++ items);
}
