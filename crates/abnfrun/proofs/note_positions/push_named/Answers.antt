use Rattle.std.proofs.Common.{◌≡◌, List, ℕ, [], Bool, true, false, ◌++◌, ap, sym, ◌∙◌, append-nil, arith}
use Rattle.std.proofs.lemmas.Grind.{common_steps}
use Rattle.std.specs.Prelude.{codes, if◌then◌else◌, is_some}
use Rattle.ruletable.specs.Rules.{find_in}
use Rattle.abnfrun.specs.AbnfExplainedNotes.{between_brackets}
use Rattle.abnfrun.proofs.AbnfExplainedNotesLemmas.{line_found}
use Rattle.abnfrun.proofs.note_positions.push_named.Goals as goal

pub returns-in_default : goal.returns-in_default
returns-in_default c = rw c.in_default.is (sym (append-nil c.args.out.now.items))

pub returns-then-not-is_rule : goal.returns-then-not-is_rule
returns-then-not-is_rule c =
    let out : List ℕ = c.args.out.now.items in
    let none : c.is_some-is_rule.result ≡ false = grind (arith, common_steps) in
    let found = c.is_some-is_rule.ensures
    ∙ ap is_some (c.in_ok-find.ensures.found ∙ ap (λ (z : List ℕ). find_in c.args.rules.now z)
    (c.between_brackets.ensures ∙ ap between_brackets c.deref.ensures.value)) in
    let line = line_found c.args.rules.now c.in-Some.prose.now.text.items c.is_some-is_rule.result c.requires found in
    rw c.in-Some.is (sym (append-nil out) ∙ ap (λ (z : List ℕ). out ++ z) (sym (line
    ∙ ap (λ (b : Bool). if b then codes "  without < and > this is the rule of that name\n" else []) none)))

pub returns : goal.returns
returns c =
    let out : List ℕ = c.args.out.now.items in
    let some : c.is_some-is_rule.result ≡ true = grind (arith, common_steps) in
    let found = c.is_some-is_rule.ensures
    ∙ ap is_some (c.in_ok-find.ensures.found ∙ ap (λ (z : List ℕ). find_in c.args.rules.now z)
    (c.between_brackets.ensures ∙ ap between_brackets c.deref.ensures.value)) in
    let line = line_found c.args.rules.now c.in-Some.prose.now.text.items c.is_some-is_rule.result c.requires found in
    rw c.in-Some.is (c.in_ok-extend_from_slice.ensures.items ∙ ap (λ (z : List ℕ). out ++ z) (sym (line
    ∙ ap (λ (b : Bool). if b then codes "  without < and > this is the rule of that name\n" else []) some)))
