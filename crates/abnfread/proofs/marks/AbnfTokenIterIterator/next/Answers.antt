use Rattle.std.proofs.Common.{◌≡◌, not, refl, sym, ap, ◌∙◌}
use Rattle.lexer.specs.TokenLists.{tok_of}
use Rattle.abnfread.specs.MarkedTokens.{is_first, begins_rule}
use Rattle.abnfread.proofs.MarkedIterationLemmas.{gives-first, not-first, maybe-first}
use Rattle.abnfread.proofs.marks.AbnfTokenIterIterator.next.Goals as goal
use Rattle.abnfread.proofs.marks.AbnfTokenIterIterator.next.Goals.{then-not-is_last, else-not-is_last}

pub returns-clause-steps : goal.returns-clause-steps
returns-clause-steps c =
    let s = c.args.self.now in
    let t = c.in_ok-token.token in
    let first : c.if-not-is_last.first ≡ is_first s.text.now s.margin (tok_of t) = elim c.if-not-is_last.branch [
      | then-not-is_last w ↦ w.first-is ∙ w.begins_rule-first.ensures ∙ ap (begins_rule s.margin) w.indent_at.ensures
          ∙ sym (maybe-first t s.text.now s.margin (sym c.is_last.ensures ∙ w.if-not-is_last.true))
      | else-not-is_last w ↦ w.first-is ∙ ap not w.if-not-is_last.false
          ∙ sym (not-first t s.text.now s.margin (sym c.is_last.ensures ∙ w.if-not-is_last.false))
    ] in
    gives-first s _ _ (record { text = refl; margin = refl; end = refl; gap = refl; first = first })
    c.in_ok-token.ensures.steps
