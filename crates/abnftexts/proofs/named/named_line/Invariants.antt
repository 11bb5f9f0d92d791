use Rattle.std.proofs.Common.{◌≡◌, ◌++◌, List, map}
use Rattle.lexer.specs.TokenLists.{LeadsTo, Tok, tok_of}
use Rattle.abnfread.specs.AbnfKinds.{ends_list}
use Rattle.abnfread.specs.AbnfSlices.{First, White}
use Rattle.abnfread.specs.declared.kind.AbnfKind.{AbnfKind}
use Rattle.abnftexts.specs.CodeUses.{is_defined}
use Rattle.abnftexts.specs.NamedRules.{tokens_named}
use Rattle.abnftexts.proofs.named.named_line.Given as goal

-- the tokens so far lead to those that are left, and these complete what is written
abbrev pub invariant-loop-token : goal.invariant-loop-token
invariant-loop-token l = record {
  leads : LeadsTo White First ends_list l.line (map tok_of l.yielded) l.token-iterator;
  so_far : (items : List (Tok AbnfKind)) → l.new.items ++ tokens_named (is_defined l.names) l.own l.line l.at items
      ≡ tokens_named (is_defined l.names) l.own l.line 0 (map tok_of l.yielded ++ items);
}
