use Rattle.std.proofs.Common.{◌∷◌, [], refl, sym, ◌∙◌, arith, Some}
use Rattle.std.specs.Option.{unwrap_or}
use Rattle.std.proofs.lemmas.List.{map-append}
use Rattle.abnfread.specs.AbnfMachine.{start}
use Rattle.abnfread.specs.MarkedIteration.{AreLeft}
use Rattle.abnfread.specs.MarkedTokens.{marked_of}
use Rattle.abnfread.proofs.HasTakenLemmas as reading
use Rattle.abnfexplain.proofs.TakenMarksLemmas.{none-taken, refused-there, large-there}
use Rattle.abnfexplain.proofs.TakenMarksLemmas.{deep-there, one-more, none-decide}
use Rattle.abnfexplain.proofs.TakenMarksLemmas.{first-kept}
use Rattle.abnfexplain.proofs.abnf_decide.deciding_token.Goals as goal

pub loop-token-init : goal.loop-token-init
loop-token-init c =
    let made = c.abnf_tokens-token-items.ensures in
    rw c.into_iter-token-iterator.ensures.into_iter_gives
    (none-taken c.args.text.now (AreLeft c.abnf_tokens-token-items.result) c.start-position.result
    (reading.none-taken c.args.text.now (AreLeft c.abnf_tokens-token-items.result) start made.left made.all refl)
    c.start-position.ensures)

pub returns-then-not-allows : goal.returns-then-not-allows
returns-then-not-allows c =
    let t = c.loop-token.invariant in
    let m = c.in-Some.token in
    let there = reading.one-there t.taken (marked_of m) (AreLeft c.next.new.self) c.in-Some.ensures.steps.first
    c.requires in
    refused-there t m.token.kind m.token.slice.now m.token.span m.gap m.first there.0 there.1 _ refl refl refl refl
    (let a = c.allows.ensures in sym (rw c.form_of-form.ensures at a) ∙ c.if-not-allows.true)

pub returns-then-is_large : goal.returns-then-is_large
returns-then-is_large c =
    let t = c.loop-token.invariant in
    let m = c.in-Some.token in
    let there = reading.one-there t.taken (marked_of m) (AreLeft c.next.new.self) c.in-Some.ensures.steps.first
    c.requires in
    large-there t m.token.kind m.token.slice.now m.token.span m.gap m.first there.0 there.1
    (let a = c.allows.ensures in sym (rw c.form_of-form.ensures at a) ∙ c.if-not-allows.false)
    (λ s says. c.if-is_large.ensures s says)

pub returns-then-len-gt-MAX_OPEN : goal.returns-then-len-gt-MAX_OPEN
returns-then-len-gt-MAX_OPEN c =
    let t = c.loop-token.invariant in
    let m = c.in-Some.token in
    let there = reading.one-there t.taken (marked_of m) (AreLeft c.next.new.self) c.in-Some.ensures.steps.first
    c.requires in
    deep-there t m.token.kind m.token.slice.now m.token.span m.gap m.first there.0 there.1
    (let a = c.allows.ensures in sym (rw c.form_of-form.ensures at a) ∙ c.if-not-allows.false) c.advance.new.self
    (let a = c.in_ok-advance.ensures in rw c.form_of-form.ensures at a)
    (omega (arith, c.len.ensures, c.if-len-gt-MAX_OPEN.true))

pub loop-token-preserved : goal.loop-token-preserved
loop-token-preserved c =
    let t = c.loop-token.invariant in
    let m = c.in-Some.token in
    let gives = c.in-Some.ensures.steps in
    let there = reading.one-there t.taken (marked_of m) (AreLeft c.next.new.self) gives.first c.requires in
    let next = one-more t m.token.kind m.token.slice.now m.token.span m.gap m.first there.0 there.1
    (let a = c.allows.ensures in sym (rw c.form_of-form.ensures at a) ∙ c.if-not-allows.false) c.advance.new.self
    (let a = c.in_ok-advance.ensures in rw c.form_of-form.ensures at a) (AreLeft c.next.new.self)
    (Some (unwrap_or c.loop-token.origin m)) (Some m) gives.first gives.step.1
    (λ s says. c.if-is_large.ensures s says) (omega (arith, c.len.ensures, c.if-len-gt-MAX_OPEN.false))
    (first-kept c.loop-token.origin m _ t.origin_is) refl in
    rw (c.unwrap_or.ensures, map-append marked_of c.loop-token.yielded (m ∷ [])) next

pub returns : goal.returns
returns c = none-decide c.loop-token.invariant c.in-None.ensures.steps.step
