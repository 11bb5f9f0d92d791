use Rattle.std.proofs.Common.{◌≤◌, List, ℕ, ◌++◌, ap, append_assoc, arith, drop, length, subst, ◌∙◌}
use Rattle.std.proofs.lemmas.List.{length-drop}
use Rattle.lexer.specs.GrammarLimits.{max_grammar}
use Rattle.lexer.specs.TokenLists.{start_of}
use Rattle.abnfread.specs.MarkedTokens.{Marked, tok_of}
use Rattle.abnfexplain.specs.AbnfDecisions.{Decides}
use Rattle.abnfexplain.specs.AbnfExplained.{Why}
use Rattle.abnfexplain.proofs.AbnfAllFaultLemmas.{decided-within, fault-reported, rest-whole}
use Rattle.abnfexplain.proofs.all_faults.push_fault.Goals as goal

pub overflow_add-start : goal.overflow_add-start
overflow_add-start c =
    let text : List ℕ = c.args.text.now in
    let rest : List ℕ = drop c.args.start text in
    let given = (let h = c.in_ok-decision.ensures in rw c.in-Some.is at h) in
    let at = decided-within rest c.in-Some.decision (λ ts are. c.tokens_make_up.ensures.slices rest ts are)
    (subst (λ (t : List ℕ). Decides t c.in-Some.decision) (rest-whole c.args.start text) given) in
    let here : c.token-ahead.result.token.span.start ≤ length rest = rw (← c.token-ahead.ensures) at at in
    record { fits = omega (arith, here, length-drop c.args.start text, c.requires.start, c.requires.size) }

pub returns : goal.returns
returns c =
    let text : List ℕ = c.args.text.now in
    let rest : List ℕ = drop c.args.start text in
    let whole = rest-whole c.args.start text in
    let given = (let h = c.in_ok-decision.ensures in rw c.in-Some.is at h) in
    let message : List ℕ = c.in_ok-message.message.items in
    let why : List ℕ = c.in_ok-why.why.items in
    let out : List ℕ = c.args.out.now.items in
    let size : length rest ≤ max_grammar = omega (arith, length-drop c.args.start text, c.requires.size) in (
      message ++ why,
      fault-reported text c.args.start c.line_of-line.result c.token-ahead.result.token.span.start c.in-Some.decision
          c.fault.result message why size (subst (λ (t : List ℕ). Decides t c.in-Some.decision) whole given)
          (subst (λ (t : List ℕ). Why t why) whole c.in_ok-why.ensures)
          (ap (λ (m : Marked). start_of (tok_of m)) c.token-ahead.ensures) c.line_of-line.ensures c.fault.ensures
          c.in_ok-message.ensures,
      c.in_ok-extend_from_slice-2.ensures.items
          ∙ ap (λ (z : List ℕ). z ++ c.deref-2.result.now) c.in_ok-extend_from_slice.ensures.items
          ∙ ap (λ (z : List ℕ). (out ++ z) ++ c.deref-2.result.now) c.deref.ensures.value
          ∙ ap (λ (z : List ℕ). (out ++ message) ++ z) c.deref-2.ensures.value
          ∙ append_assoc out message why,
    )
