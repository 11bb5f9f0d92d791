use Rattle.std.proofs.Common.{◌∷◌, [], sym, ◌∙◌, map, refl}
use Rattle.std.proofs.lemmas.List.{map-append}
use Rattle.lexer.specs.TokenLists.{tok_of}
use Rattle.lexer.proofs.TokenListLemmas.{left-at_start}
use Rattle.pegread.specs.Kinds.{is_end}
use Rattle.pegread.specs.Slices.{White, First}
use Rattle.pegprint.proofs.TakenTokensLemmas.{AreLeft, none-taken, hopeless-there, deep-there, one-taken, none-decide}
use Rattle.pegprint.proofs.TakenTokensLemmas.{hopeless-after, deep-after, last_start-snoc}
use Rattle.pegprint.proofs.faults.deciding_token.deciding_token.Goals as goal

pub loop-token-init : goal.loop-token-init
loop-token-init c =
    let all = c.have_tokens.ensures in
    record {
      taken = none-taken c.args.text.now (AreLeft c.into_iter-token-iterator.result) all.0
          (rw c.into_iter-token-iterator.ensures.into_iter_gives
          (left-at_start White First is_end c.tokens-token-items.result c.tokens-token-items.ensures all.1)) all.1 _
          c.start-position.ensures;
      before = refl;
    }

pub returns-in_default : goal.returns-in_default
returns-in_default c =
    let h = c.loop-token.invariant.taken in
    let given = c.in-Some.ensures.steps.first h.rest h.are_left in
    let none = sym c.after.ensures ∙ c.in_default.is in (
      hopeless-there h (tok_of c.in-Some.token) given.0 given.1 none,
      hopeless-after h (tok_of c.in-Some.token) given.0 given.1 c.loop-token.before c.loop-token.invariant.before none,
    )

pub returns-then-next-gt-MAX_OPEN : goal.returns-then-next-gt-MAX_OPEN
returns-then-next-gt-MAX_OPEN c =
    let h = c.loop-token.invariant.taken in
    let given = c.in-Some.ensures.steps.first h.rest h.are_left in
    let some = sym c.after.ensures ∙ c.in-Some-after.is in (
      deep-there h (tok_of c.in-Some.token) given.0 given.1 c.in-Some.ensures.steps.step.1.1
          c.in-Some-after.next some c.if-next-gt-MAX_OPEN.true,
      deep-after h (tok_of c.in-Some.token) given.0 given.1 c.in-Some.ensures.steps.step.1.1 c.in-Some-after.next some
          c.loop-token.before c.loop-token.invariant.before c.if-next-gt-MAX_OPEN.true,
    )

pub loop-token-preserved : goal.loop-token-preserved
loop-token-preserved c =
    let h = c.loop-token.invariant.taken in
    let given = c.in-Some.ensures.steps.first h.rest h.are_left in
    let next = one-taken h (tok_of c.in-Some.token) given.0 given.1 c.in-Some.ensures.steps.step.1.1
    c.in-Some-after.next (sym c.after.ensures ∙ c.in-Some-after.is) (AreLeft c.next.new.self) given.2
    c.if-next-gt-MAX_OPEN.false in
    record {
      taken = rw (map-append tok_of c.loop-token.yielded (c.in-Some.token ∷ [])) next;
      before = rw (map-append tok_of c.loop-token.yielded (c.in-Some.token ∷ []))
          (sym (last_start-snoc (map tok_of c.loop-token.yielded) (tok_of c.in-Some.token)));
    }

pub returns : goal.returns
returns c =
    let h = c.loop-token.invariant.taken in
    none-decide h (c.in-None.ensures.steps.first h.rest h.are_left)
