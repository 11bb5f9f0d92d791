use Rattle.std.proofs.Common.{[], ◌∷◌, ◌++◌, ◌∙◌, List, ap, map, refl, sym}
use Rattle.std.proofs.lemmas.List.{map-append}
use Rattle.lexer.proofs.TokenListLemmas.{leads-first, leads-snoc, leads-end}
use Rattle.lexer.specs.TokenLists.{tok_of}
use Rattle.abnfread.specs.AbnfKinds.{ends_list}
use Rattle.abnfread.specs.AbnfSlices.{First, White}
use Rattle.lexer.specs.TokenLists.{Tok}
use Rattle.abnfread.specs.declared.kind.AbnfKind.{AbnfKind}
use Rattle.rfcvalues.specs.RuleSketches.{tokens_before}
use Rattle.rfcvalues.proofs.RuleSketchLemmas.{ltb-no, ltb-yes, tokens-more, tokens-same}
use Rattle.rfcvalues.proofs.words.tokens_before.Goals as goal

pub loop-token-init : goal.loop-token-init
loop-token-init c = record {
  leads = rw c.into_iter-token-iterator.ensures.into_iter_gives
      (leads-first White First ends_list c.tokens-token-items.result c.tokens-token-items.ensures);
  found = rw c.new-found.ensures.items refl;
}

pub loop-token-preserved-in-Continue-1 : goal.loop-token-preserved-in-Continue-1
loop-token-preserved-in-Continue-1 c = record {
  leads = rw (map-append tok_of c.loop-token.yielded (c.in-Some.token ∷ []))
      (leads-snoc White First ends_list c.loop-token.token-iterator c.next.new.self c.loop-token.invariant.leads
      c.in-Some.token c.in-Some.ensures.steps);
  found = ap (map tok_of) (rw c.in_ok-push.ensures.items refl)
      ∙ map-append tok_of c.loop-token.found.items (c.in-Some.token ∷ [])
      ∙ ap (λ (ts : List (Tok AbnfKind)). ts ++ tok_of c.in-Some.token ∷ []) c.loop-token.invariant.found
      ∙ sym (tokens-more c.args.end (map tok_of c.loop-token.yielded) (tok_of c.in-Some.token)
      (ltb-yes c.in-Some.token.span.start c.args.end c.if-token-end.true))
      ∙ ap (tokens_before c.args.end) (sym (map-append tok_of c.loop-token.yielded (c.in-Some.token ∷ [])));
}

pub loop-token-preserved : goal.loop-token-preserved
loop-token-preserved c = record {
  leads = rw (map-append tok_of c.loop-token.yielded (c.in-Some.token ∷ []))
      (leads-snoc White First ends_list c.loop-token.token-iterator c.next.new.self c.loop-token.invariant.leads
      c.in-Some.token c.in-Some.ensures.steps);
  found = c.loop-token.invariant.found
      ∙ sym (tokens-same c.args.end (map tok_of c.loop-token.yielded) (tok_of c.in-Some.token)
      (ltb-no c.in-Some.token.span.start c.args.end c.if-token-end.false))
      ∙ ap (tokens_before c.args.end) (sym (map-append tok_of c.loop-token.yielded (c.in-Some.token ∷ [])));
}

pub returns : goal.returns
returns c = (
  map tok_of c.loop-token.yielded,
  leads-end White First ends_list c.loop-token.token-iterator c.next.new.self c.loop-token.invariant.leads
      c.in-None.ensures.steps,
  c.loop-token.invariant.found,
)
