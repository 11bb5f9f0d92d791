-- The marks of each kind are exact.
use Rattle.std.proofs.Common.{◌≤◌, ◌∙◌, ap, arith, length, map, not, subst, sym, take}
use Rattle.std.proofs.lemmas.List.{length-map}
use Rattle.fixpoint.proofs.RowsOfLemmas.{length-rows}
use Rattle.fixpoint.specs.IdMarks.{AreMarks}
use Rattle.abnfread.specs.Element.{Rule}
use Rattle.abnfcheck.specs.AbnfNotes.{judged_in, IsUnused}
use Rattle.abnfcheck.specs.AbnfUses.{HoldsProse}
use Rattle.abnfcheck.specs.ProseIn.{prose_in}
use Rattle.abnfcheck.proofs.AbnfNotesLemmas.{prose_exact, unused_marks}
use Rattle.abnfcheck.proofs.abnf_notes.note_marks.Goals as goal

pub returns : goal.returns
returns c = λ rules given graph prose.
    let fits : c.args.count ≤ length rules = (let few = c.requires.prose in let l = ap length prose in let k =
    length-map rules (λ (rule : Rule). prose_in rule.body) in omega (arith, few, l, k)) in
    let rows = length-rows c.args.ids.now.rows.items in
    record {
      redefined_are = c.in_ok-redefined.ensures;
      extended_are = c.in_ok-extended.ensures;
      prose_are = subst (λ v. AreMarks (HoldsProse rules) c.args.count v)
          (sym (c.in_ok-prose.ensures.items ∙ ap (take c.args.count) prose))
          (prose_exact rules given _ _ _ graph c.args.count fits);
      unused_are = subst (λ v. AreMarks (IsUnused rules (judged_in given rules)) c.args.count v)
          (sym (c.in_ok-unused.ensures ∙ ap (λ l. map not (take c.args.count l)) c.deref-2.ensures.value))
          (unused_marks rules given _ _ _ graph c.args.count c.in_ok-used.used.items fits
          (let few = c.requires.rows in let n = c.in_ok-used.ensures.count in let l = c.deref.ensures.len in
          omega (arith, few, n, l, ap length c.deref.ensures.value))
          (c.in_ok-used.ensures.count ∙ ap length c.deref.ensures.value ∙ sym rows)
          (λ id lt. rw c.deref.ensures.value at (c.in_ok-used.ensures.marks id
          (let n = ap length c.deref.ensures.value in omega (arith, lt, rows, n)))));
    }
