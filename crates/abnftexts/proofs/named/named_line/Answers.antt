use Rattle.std.proofs.Common.{[], ◌∷◌, ◌∙◌, List, ap, drop, refl, map, ℕ}
use Rattle.std.proofs.lemmas.List.{map-append}
use Rattle.lexer.proofs.TokenListLemmas.{leads-first, leads-snoc, leads-end}
use Rattle.lexer.specs.TokenLists.{tok_of}
use Rattle.abnfread.specs.AbnfKinds.{ends_list}
use Rattle.abnfread.specs.AbnfSlices.{First, White}
use Rattle.abnftexts.specs.CodeUses.{is_defined}
use Rattle.abnftexts.proofs.NamedRulesLemmas.{token-more, tokens-all}
use Rattle.abnftexts.proofs.named.named_line.Goals as goal

pub loop-token-init : goal.loop-token-init
loop-token-init c = record {
  leads = rw c.into_iter-token-iterator.ensures.into_iter_gives
      (leads-first White First ends_list c.tokens-token-items.result c.tokens-token-items.ensures);
  so_far = λ items. rw c.new-new.ensures.items refl;
}

pub loop-token-preserved : goal.loop-token-preserved
loop-token-preserved c =
    let h = c.loop-token.invariant in
    record {
      leads = rw (map-append tok_of c.loop-token.yielded (c.in-Some.token ∷ []))
          (leads-snoc White First ends_list c.loop-token.token-iterator c.next.new.self h.leads c.in-Some.token
          c.in-Some.ensures.steps);
      so_far = token-more (is_defined c.args.names.now) c.args.own.now c.args.line.now c.loop-token.at
          c.loop-token.yielded c.in-Some.token c.loop-token.new.items c.extend_from_slice.new.self.items
          c.extend_from_slice-in-loop-token.new.self.items c.items_after-gap.result.now c.in_ok-text.text.now
          (c.items_after-gap.ensures ∙ ap (λ (z : List ℕ). drop c.loop-token.at z) c.items_before.ensures)
          c.in_ok-text.ensures
          c.in_ok-extend_from_slice.ensures.items c.in_ok-extend_from_slice-2.ensures.items h.so_far;
    }

pub returns : goal.returns
returns c = record {
  tokens = map tok_of c.loop-token.yielded;
  are_tokens = leads-end White First ends_list c.loop-token.token-iterator c.next.new.self
      c.loop-token.invariant.leads c.in-None.ensures.steps;
  is = tokens-all (is_defined c.args.names.now) c.args.own.now c.args.line.now c.loop-token.at
      (map tok_of c.loop-token.yielded) c.loop-token.new.items c.loop-token.invariant.so_far;
}
