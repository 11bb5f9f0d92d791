use Rattle.std.proofs.Common.{◌∷◌, [], ◌++◌, ap, ◌∙◌, sym, arith}
use Rattle.std.proofs.lemmas.List.{map-append}
use Rattle.abnfread.specs.AbnfReader.{config_of}
use Rattle.abnfread.specs.MarkedIteration.{AreLeft}
use Rattle.abnfread.specs.MarkedTokens.{marked_of}
use Rattle.abnfread.proofs.HasTakenLemmas.{none-taken, one-there, one-taken, too-deep, too-large, hopeless-there}
use Rattle.abnfread.proofs.HasTakenLemmas.{says-kind, all-done, all-kept, all-read, plain_of}
use Rattle.abnfread.proofs.SaysKindLemmas.{next-said}
use Rattle.abnfread.proofs.read.definitions_keeping.Goals as goal

pub loop-token-init : goal.loop-token-init
loop-token-init c =
    let made = c.abnf_tokens-token-items.ensures in
    record {
      taken = rw c.into_iter-token-iterator.ensures.into_iter_gives
          (none-taken c.args.text.now (AreLeft c.abnf_tokens-token-items.result) (config_of c.new-reader.result)
          made.left made.all c.new-reader.ensures);
      kept = λ _. c.requires.empty;
    }

pub take_token-requires : goal.take_token-requires
take_token-requires c =
    let t = c.in-Some.token in
    next-said t.token.kind t.token.slice.now t.token.span c.in-Some.ensures.steps.step.0

pub returns-then-open_brackets-gt-MAX_OPEN-clause-fault : goal.returns-then-open_brackets-gt-MAX_OPEN-clause-fault
returns-then-open_brackets-gt-MAX_OPEN-clause-fault c =
    let h = c.loop-token.invariant.taken in
    let t = c.in-Some.token in
    let there = one-there h (marked_of t) (AreLeft c.next.new.self) c.in-Some.ensures.steps.first
    c.line_in.ensures.tokens in
    let took = c.in-Ok.ensures in
    too-deep h t.token.kind t.token.slice.now t.token.span t.gap t.first there.0 there.1 c.line_in.result
    c.if-text-gt-MAX_GRAMMAR.false c.line_in.ensures.line
    (config_of c.take_token.new.reader) took.0 took.1 took.2 (says-kind took.3) took.3 took.5
    (omega (arith, c.open_brackets.ensures, c.if-open_brackets-gt-MAX_OPEN.true))

pub loop-token-preserved : goal.loop-token-preserved
loop-token-preserved c =
    let t = c.in-Some.token in
    let gives = c.in-Some.ensures.steps in
    let took = c.in-Ok.ensures in
    let next = one-taken c.loop-token.invariant.taken (marked_of t) (AreLeft c.next.new.self) gives.first gives.step.1
    (config_of c.take_token.new.reader) took.0 took.1 took.2 took.3 took.4 took.5
    (omega (arith, c.open_brackets.ensures, c.if-open_brackets-gt-MAX_OPEN.false)) in
    record {
      taken = rw (map-append marked_of c.loop-token.yielded (c.in-Some.token ∷ [])) next;
      kept = λ keeps. c.in_ok-keep.ensures.added keeps
          ∙ (ap (λ z. z ++ t.token ∷ []) (c.loop-token.invariant.kept keeps)
          ∙ sym (map-append plain_of c.loop-token.yielded (c.in-Some.token ∷ [])));
    }

pub returns-in-Err-Hopeless-clause-fault : goal.returns-in-Err-Hopeless-clause-fault
returns-in-Err-Hopeless-clause-fault c =
    let h = c.loop-token.invariant.taken in
    let t = c.in-Some.token in
    let there = one-there h (marked_of t) (AreLeft c.next.new.self) c.in-Some.ensures.steps.first
    c.line_in-in-Err-Hopeless.ensures.tokens in
    let stops = rw c.in-Err-Hopeless.field-0-is at c.in-Err-Hopeless.ensures in
    hopeless-there h t.token.kind t.token.slice.now t.token.span t.gap t.first there.0 there.1
    c.line_in-in-Err-Hopeless.result c.if-text-gt-MAX_GRAMMAR.false c.line_in-in-Err-Hopeless.ensures.line stops

pub returns-in-Err-TooLarge-clause-fault : goal.returns-in-Err-TooLarge-clause-fault
returns-in-Err-TooLarge-clause-fault c =
    let h = c.loop-token.invariant.taken in
    let t = c.in-Some.token in
    let there = one-there h (marked_of t) (AreLeft c.next.new.self) c.in-Some.ensures.steps.first
    c.line_in-in-Err-TooLarge.ensures.tokens in
    let over = rw c.in-Err-TooLarge.field-0-is at c.in-Err-TooLarge.ensures in
    too-large h t.token.kind t.token.slice.now t.token.span t.gap t.first there.0 there.1
    c.line_in-in-Err-TooLarge.result c.if-text-gt-MAX_GRAMMAR.false c.line_in-in-Err-TooLarge.ensures.line
    over.0 over.1 over.2 over.3 (says-kind over.4) over.4 over.5 over.6

pub unreachable-requires : goal.unreachable-requires
unreachable-requires c =
    let ended = all-done c.loop-token.invariant.taken c.in-None.ensures.steps.step in
    c.in-None-into_definitions.ensures.done ended.0 ended.1

pub returns-clause-found : goal.returns-clause-found
returns-clause-found c =
    let h = c.loop-token.invariant.taken in
    let none = c.in-None.ensures.steps.step in
    let ended = all-done h none in
    let same = c.in-Some-into_definitions.ensures.done ended.0 ended.1 in
    rw same (all-read h none ended.0 ended.1 c.if-text-gt-MAX_GRAMMAR.false)

pub returns-clause-kept : goal.returns-clause-kept
returns-clause-kept c = λ keeps. rw (c.loop-token.invariant.kept keeps)
    (all-kept c.loop-token.yielded c.loop-token.invariant.taken c.in-None.ensures.steps.step)
