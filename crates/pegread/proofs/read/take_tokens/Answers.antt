use Rattle.std.proofs.Common.{◌∷◌, [], ◌++◌, ap, ◌∙◌, arith}
use Rattle.std.proofs.lemmas.List.{map-append}
use Rattle.pegread.specs.Kinds.{is_end}
use Rattle.pegread.specs.Slices.{White, First}
use Rattle.pegread.specs.Steps.{config_of}
use Rattle.lexer.specs.TokenLists.{tok_of}
use Rattle.lexer.proofs.TokenListLemmas.{leads-next, leads-end}
use Rattle.pegread.proofs.ReadDefinitionsLemmas.{none-taken, one-taken, too-deep, hopeless-there, all-done, all-read}
use Rattle.pegread.proofs.ReadDefinitionsLemmas.{cut-of}
use Rattle.pegread.proofs.read.take_tokens.Goals as goal

pub loop-token-init : goal.loop-token-init
loop-token-init c = record {
  taken = rw c.into_iter-token-iterator.ensures.into_iter_gives
      (none-taken c.tokens-token-items.result (config_of c.args.reader.now) c.tokens-token-items.ensures
      c.requires.fresh);
  kept = λ _. c.requires.empty;
}

pub take_token-requires : goal.take_token-requires
take_token-requires c = cut-of c.are_marked.ensures.literal c.are_marked.ensures.class c.are_marked.ensures.action _ _ _
    c.in-Some.token c.in-Some.ensures.steps.step.1.1

pub returns-then-open_brackets-gt-MAX_OPEN-clause-fault :
    goal.returns-then-open_brackets-gt-MAX_OPEN-clause-fault
returns-then-open_brackets-gt-MAX_OPEN-clause-fault c =
    let h = c.loop-token.invariant.taken in
    let all = c.have_tokens.ensures in
    let there = leads-next White First is_end c.loop-token.token-iterator c.next.new.self h.leads c.in-Some.token
    c.in-Some.ensures.steps all.0 all.1 in
    let took = c.in-Ok.ensures in
    too-deep h (tok_of c.in-Some.token) there.0 there.1 c.line_of.result c.requires.within c.line_of.ensures
    (config_of c.take_token.new.reader) took.0 took.1 took.2
    (omega (arith, c.open_brackets.ensures, c.if-open_brackets-gt-MAX_OPEN.true))

pub loop-token-preserved : goal.loop-token-preserved
loop-token-preserved c =
    let took = c.in-Ok.ensures in
    let next = one-taken c.loop-token.invariant.taken c.next.new.self c.in-Some.token
    (config_of c.take_token.new.reader) c.in-Some.ensures.steps took.0 took.1 took.2
    (omega (arith, c.open_brackets.ensures, c.if-open_brackets-gt-MAX_OPEN.false)) in
    record {
      taken = rw (map-append tok_of c.loop-token.yielded (c.in-Some.token ∷ [])) next;
      kept = λ keeps. c.in_ok-keep.ensures.added keeps
          ∙ ap (λ z. z ++ c.in-Some.token ∷ []) (c.loop-token.invariant.kept keeps);
    }

pub returns-in-Err-Hopeless-clause-fault : goal.returns-in-Err-Hopeless-clause-fault
returns-in-Err-Hopeless-clause-fault c =
    let h = c.loop-token.invariant.taken in
    let all = c.have_tokens-in-Err-Hopeless.ensures in
    let there = leads-next White First is_end c.loop-token.token-iterator c.next.new.self h.leads c.in-Some.token
    c.in-Some.ensures.steps all.0 all.1 in
    let stops = rw c.in-Err-Hopeless.field-0-is at c.in-Err-Hopeless.ensures in
    rw c.hopeless.ensures (hopeless-there h (tok_of c.in-Some.token) there.0 there.1 c.line_of-in-Err-Hopeless.result
    c.requires.within c.line_of-in-Err-Hopeless.ensures stops)

pub returns-clause-found : goal.returns-clause-found
returns-clause-found c =
    let h = c.loop-token.invariant.taken in
    let none = c.in-None.ensures.steps in
    let ended = all-done h none in
    (ended.0, all-read h none ended.0 ended.1 c.requires.within, ended.1)

pub returns-clause-kept : goal.returns-clause-kept
returns-clause-kept c = λ keeps. rw (c.loop-token.invariant.kept keeps)
    (leads-end White First is_end c.loop-token.token-iterator c.next.new.self c.loop-token.invariant.taken.leads
    c.in-None.ensures.steps)
