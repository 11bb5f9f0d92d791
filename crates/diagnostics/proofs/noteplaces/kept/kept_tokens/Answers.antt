use Rattle.std.proofs.Common.{[], ◌∷◌, ◌++◌, ap, ◌∙◌}
use Rattle.std.proofs.lemmas.List.{map-append}
use Rattle.lexer.specs.TokenLists.{tok_of}
use Rattle.lexer.proofs.TokenListLemmas.{leads-first, leads-snoc, leads-end}
use Rattle.diagnostics.proofs.noteplaces.kept.kept_tokens.Goals as goal

pub loop-token-init : goal.loop-token-init
loop-token-init g c = record {
  leads = rw c.into_iter-token-iterator.ensures.into_iter_gives
      (leads-first g.K.Kind.white g.K.Kind.first g.K.Kind.is_end c.tokens-token-items.result
      c.tokens-token-items.ensures);
  kept = c.new-kept.ensures.items;
}

pub loop-token-preserved : goal.loop-token-preserved
loop-token-preserved g c = record {
  leads = rw (map-append tok_of c.loop-token.yielded (c.in-Some.token ∷ []))
      (leads-snoc g.K.Kind.white g.K.Kind.first g.K.Kind.is_end c.loop-token.token-iterator c.next.new.self
      c.loop-token.invariant.leads c.in-Some.token c.in-Some.ensures.steps);
  kept = c.in_ok-push.ensures.items ∙ ap (λ z. z ++ c.in-Some.token ∷ []) c.loop-token.invariant.kept;
}

pub returns : goal.returns
returns g c = rw c.loop-token.invariant.kept
    (leads-end g.K.Kind.white g.K.Kind.first g.K.Kind.is_end c.loop-token.token-iterator c.next.new.self
    c.loop-token.invariant.leads c.in-None.ensures.steps)
