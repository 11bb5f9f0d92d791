use Rattle.std.proofs.Common.{map, [], ◌∷◌}
use Rattle.std.proofs.lemmas.List.{map-append}
use Rattle.lexer.specs.TokenLists.{tok_of}
use Rattle.lexer.proofs.TokenListLemmas.{leads-first, leads-snoc, leads-end}
use Rattle.lexer.proofs.token_lists.have_tokens.Goals as goal

pub loop-token-init : goal.loop-token-init
loop-token-init g c = rw c.into_iter-token-iterator.ensures.into_iter_gives
    (leads-first g.K.Kind.white g.K.Kind.first g.K.Kind.is_end c.tokens-token-items.result c.tokens-token-items.ensures)

pub loop-token-preserved : goal.loop-token-preserved
loop-token-preserved g c = rw (map-append tok_of c.loop-token.yielded (c.in-Some._token ∷ []))
    (leads-snoc g.K.Kind.white g.K.Kind.first g.K.Kind.is_end c.loop-token._token-iterator c.next.new.self
    c.loop-token.invariant c.in-Some._token c.in-Some.ensures.steps)

pub returns : goal.returns
returns g c = (
  map tok_of c.loop-token.yielded,
  leads-end g.K.Kind.white g.K.Kind.first g.K.Kind.is_end c.loop-token._token-iterator c.next.new.self
      c.loop-token.invariant c.in-None.ensures.steps,
)
