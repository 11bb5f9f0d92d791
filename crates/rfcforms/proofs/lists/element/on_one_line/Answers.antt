use Rattle.std.proofs.Common.{[], ◌∷◌, refl, map}
use Rattle.std.proofs.lemmas.List.{map-append}
use Rattle.lexer.proofs.TokenListLemmas.{leads-first, leads-snoc, leads-end}
use Rattle.lexer.specs.TokenLists.{tok_of}
use Rattle.abnfread.specs.AbnfKinds.{ends_list}
use Rattle.abnfread.specs.AbnfSlices.{First, White}
use Rattle.rfcforms.proofs.ListSearchLemmas.{joined-all, joined-more}
use Rattle.rfcforms.proofs.lists.element.on_one_line.Goals as goal

pub loop-token-init : goal.loop-token-init
loop-token-init c = record {
  leads = rw c.into_iter-token-iterator.ensures.into_iter_gives
      (leads-first White First ends_list c.tokens-token-items.result c.tokens-token-items.ensures);
  so_far = λ items. rw c.new-line.ensures.items refl;
}

pub loop-token-preserved : goal.loop-token-preserved
loop-token-preserved c =
    let h = c.loop-token.invariant in
    record {
      leads = rw (map-append tok_of c.loop-token.yielded (c.in-Some.token ∷ []))
          (leads-snoc White First ends_list c.loop-token.token-iterator c.next.new.self h.leads c.in-Some.token
          c.in-Some.ensures.steps);
      so_far = joined-more c.loop-token.at c.loop-token.yielded c.in-Some.token c.loop-token.line.items
          c.push_token.new.line.items c.in_ok-push_token.ensures h.so_far;
    }

pub returns : goal.returns
returns c = (
  map tok_of c.loop-token.yielded,
  leads-end White First ends_list c.loop-token.token-iterator c.next.new.self c.loop-token.invariant.leads
      c.in-None.ensures.steps,
  joined-all c.loop-token.at (map tok_of c.loop-token.yielded) c.loop-token.line.items
      c.loop-token.invariant.so_far,
)
