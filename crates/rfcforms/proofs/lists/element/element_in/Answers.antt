use Rattle.std.proofs.Common.{[], ◌∷◌, ◌∙◌, ap, refl, map, sym}
use Rattle.std.proofs.lemmas.List.{map-append}
use Rattle.lexer.proofs.TokenListLemmas.{leads-first, leads-snoc, leads-end}
use Rattle.lexer.specs.TokenLists.{tok_of}
use Rattle.abnfread.specs.AbnfKinds.{ends_list}
use Rattle.abnfread.specs.AbnfSlices.{First, White}
use Rattle.rfcforms.specs.ListSearches.{element_after}
use Rattle.rfcforms.specs.declared.lists.element.ElementSearch.{ElementSearch}
use Rattle.rfcforms.specs.declared.lists.element.ElementSearch.TheVariants.{Awaited}
use Rattle.rfcforms.proofs.ListSearchLemmas.{elements-snoc}
use Rattle.rfcforms.proofs.lists.element.element_in.Goals as goal

pub loop-token-init : goal.loop-token-init
loop-token-init c = record {
  leads = rw c.into_iter-token-iterator.ensures.into_iter_gives
      (leads-first White First ends_list c.tokens-token-items.result c.tokens-token-items.ensures);
  search = refl;
}

pub loop-token-preserved : goal.loop-token-preserved
loop-token-preserved c = record {
  leads = rw (map-append tok_of c.loop-token.yielded (c.in-Some.token ∷ []))
      (leads-snoc White First ends_list c.loop-token.token-iterator c.next.new.self c.loop-token.invariant.leads
      c.in-Some.token c.in-Some.ensures.steps);
  search = rw (map-append tok_of c.loop-token.yielded (c.in-Some.token ∷ []))
      (c.after_token-search.ensures
      ∙ ap (λ (s : ElementSearch). element_after s (tok_of c.in-Some.token)) c.loop-token.invariant.search
      ∙ sym (elements-snoc (map tok_of c.loop-token.yielded) (tok_of c.in-Some.token) Awaited));
}

pub returns : goal.returns
returns c = (
  map tok_of c.loop-token.yielded,
  leads-end White First ends_list c.loop-token.token-iterator c.next.new.self c.loop-token.invariant.leads
      c.in-None.ensures.steps,
  c.loop-token.invariant.search,
)
