use Rattle.std.proofs.Common.{◌≤◌, List, ℕ, ◌++◌, ap, append_assoc, arith, drop, length, subst, ◌∙◌}
use Rattle.std.proofs.lemmas.List.{length-drop}
use Rattle.lexer.specs.TokenLists.{tok_of}
use Rattle.pegprint.specs.PegAllFaults.{DecidesAfter}
use Rattle.pegprint.specs.PegDecisions.{token_of}
use Rattle.pegprint.specs.PegExplained.{Explains}
use Rattle.pegprint.proofs.PegAllFaultLemmas.{fault-reported, rest-whole}
use Rattle.pegprint.proofs.PegExplainedLemmas.{start-within}
use Rattle.pegprint.proofs.faults.all_faults.push_fault.Goals as goal

pub overflow_add-start : goal.overflow_add-start
overflow_add-start c =
    let text : List ℕ = c.args.text.now in
    let rest : List ℕ = drop c.args.start text in
    let token = token_of c.in-Some.decided.decision in
    let after = subst (λ (t : List ℕ). DecidesAfter t token c.in-Some.decided.before) (rest-whole c.args.start text)
    c.in-Some.ensures.1 in
    let at = start-within rest token _ (λ all are. c.tokens_make_up.ensures.slices rest all are) after.decides in
    let here : c.token-token.result.span.start ≤ length rest = rw (← c.token-token.ensures) at at in
    record { fits = omega (arith, here, length-drop c.args.start text, c.requires.start, c.requires.size) }

pub returns : goal.returns
returns c =
    let text : List ℕ = c.args.text.now in
    let token = token_of c.in-Some.decided.decision in
    let whole = rest-whole c.args.start text in
    let message : List ℕ = c.in_ok-message.message.items in
    let why : List ℕ = c.in_ok-why.why.items in
    let out : List ℕ = c.args.out.now.items in (
      message ++ why,
      fault-reported text c.args.start c.line_of-line.result c.in-Some.decided.before c.name_from.result token
          (tok_of c.token-token.result) c.args.fault c.on_line.result message why c.requires.fault c.requires.named
          (subst (λ (t : List ℕ). Explains t c.args.fault why) whole c.in_ok-why.ensures)
          (subst (λ (t : List ℕ). DecidesAfter t token c.in-Some.decided.before) whole c.in-Some.ensures.1)
          c.name_from.ensures c.token-token.ensures c.line_of-line.ensures c.on_line.ensures c.in_ok-message.ensures,
      c.in_ok-extend_from_slice-2.ensures.items
          ∙ ap (λ (z : List ℕ). z ++ c.deref-2.result.now) c.in_ok-extend_from_slice.ensures.items
          ∙ ap (λ (z : List ℕ). (out ++ z) ++ c.deref-2.result.now) c.deref.ensures.value
          ∙ ap (λ (z : List ℕ). (out ++ message) ++ z) c.deref-2.ensures.value
          ∙ append_assoc out message why,
    )
