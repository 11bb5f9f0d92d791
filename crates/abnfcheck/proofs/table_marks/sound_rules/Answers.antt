-- The marks on the names of the rules.
use Rattle.std.proofs.Common.{◌≡◌, ◌∙◌, ap, length, sym}
use Rattle.std.proofs.lemmas.List.{length-map}
use Rattle.std.proofs.lemmas.Result.{MatchResult-weaker}
use Rattle.fixpoint.specs.Demands.{demands_of}
use Rattle.fixpoint.specs.StepRows.{rows_of}
use Rattle.fixpoint.proofs.RowsOfLemmas.{length-demands}
use Rattle.abnfread.specs.AbnfViews.{rule_of, rules_of}
use Rattle.abnfcheck.proofs.BrokenNeedsLemmas.{needs_within, others_refused, sound_marks}
use Rattle.abnfcheck.proofs.GraphLemmas.{steps_within}
use Rattle.abnfcheck.proofs.table_marks.sound_rules.Goals as goal

pub least-requires : goal.least-requires
least-requires c = rw c.deref-3.ensures.value
    (needs_within _ _ _ c.in_ok-needs.ensures
    (rw c.deref.ensures.value (steps_within _ _ _ _ _ c.in_ok-ids.ensures.graph)))

pub returns-clause-sound : goal.returns-clause-sound
returns-clause-sound c =
    let rules = rules_of c.args.rules.now in
    let prose = c.deref-2.ensures.value ∙ c.in_ok-prose.ensures in
    let count : c.len.result ≡ length rules = c.len.ensures.len
    ∙ sym (length-map c.args.rules.now.rules rule_of) in
    MatchResult-weaker c.opposites.result c.opposites.ensures (λ sound are. rw (are, c.deref-4.ensures.value)
    (sound_marks rules _ _ (rows_of c.in_ok-ids.ids.rows.items) _ c.in_ok-ids.ensures.graph
    (demands_of c.in_ok-needs.needs.items) c.in_ok-broken.broken.items c.len.result
    (rw (prose, c.deref.ensures.value) at c.in_ok-needs.ensures)
    (rw c.deref-3.ensures.value at c.in_ok-broken.ensures.marks)
    (c.in_ok-broken.ensures.count ∙ ap length c.deref-3.ensures.value ∙ sym (length-demands c.in_ok-needs.needs.items))
    count)) (λ _ _. tt)

pub returns-clause-others : goal.returns-clause-others
returns-clause-others c =
    let rules = rules_of c.args.rules.now in
    let prose = c.deref-2.ensures.value ∙ c.in_ok-prose.ensures in
    let count : c.len.result ≡ length rules = c.len.ensures.len
    ∙ sym (length-map c.args.rules.now.rules rule_of) in
    MatchResult-weaker c.opposites.result c.opposites.ensures (λ sound are. rw (are, c.deref-4.ensures.value)
    (others_refused rules _ _ (rows_of c.in_ok-ids.ids.rows.items) _ c.in_ok-ids.ensures.graph
    (demands_of c.in_ok-needs.needs.items) c.in_ok-broken.broken.items c.len.result
    (rw (prose, c.deref.ensures.value) at c.in_ok-needs.ensures)
    (rw c.deref-3.ensures.value at c.in_ok-broken.ensures.marks)
    (c.in_ok-broken.ensures.count ∙ ap length c.deref-3.ensures.value ∙ sym (length-demands c.in_ok-needs.needs.items))
    count)) (λ _ _. tt)
