use Rattle.std.proofs.Common.{◌≡◌, map}
use Rattle.lexer.specs.TokenLists.{LeadsTo, tok_of}
use Rattle.diagnostics.proofs.noteplaces.kept.kept_tokens.Given as goal

abbrev pub invariant-loop-token : goal.invariant-loop-token
invariant-loop-token g l = record {
  leads : LeadsTo g.K.Kind.white g.K.Kind.first g.K.Kind.is_end l.text (map tok_of l.yielded) l.token-iterator;
  kept : l.kept.items ≡ l.yielded;
}
