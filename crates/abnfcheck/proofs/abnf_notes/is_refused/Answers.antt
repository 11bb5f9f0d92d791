-- By a mark, by the judged name, or by what is reached.
use Rattle.std.proofs.Common.{ap, arith, length, refl}
use Rattle.std.proofs.lemmas.List.{length-map}
use Rattle.std.proofs.lemmas.Result.{IfOk-weaker}
use Rattle.abnfread.specs.Element.{Rule}
use Rattle.abnfcheck.specs.ProseIn.{prose_in}
use Rattle.abnfcheck.proofs.AbnfNotesLemmas.{refused_again, refused_no_rule, refused_broken, broken_refused}
use Rattle.abnfcheck.proofs.abnf_notes.is_refused.Goals as goal

pub returns-then-some_set : goal.returns-then-some_set
returns-then-some_set c = λ file rules given again graph prose marks. (
  (λ _. let s = c.some_set.ensures.0 c.if-some_set.true in refused_again rules given _ _ _ graph file again _ marks s.0
      s.1),
  (λ _. refl),
)

pub returns-then-ids-prose : goal.returns-then-ids-prose
returns-then-ids-prose c = λ file rules given again graph prose marks. (
  (λ _.
      let past = c.if-ids-prose.true in
      let l = ap length prose in
      let k = length-map rules (λ (rule : Rule). prose_in rule.body) in
      refused_no_rule rules given _ _ _ graph file again _ marks (omega (arith, past, l, k))),
  (λ _. refl),
)

pub returns : goal.returns
returns c = IfOk-weaker c.reaches_broken.result _ _ (λ _ reported file rules given again graph prose marks.
    let reports = rw (c.deref.ensures.value, prose) at reported in (
      (λ is. let b = reports.0 is in refused_broken rules given _ _ _ graph file again _ marks b.0 b.1),
      (λ h. reports.1 (broken_refused rules given _ _ _ graph file again _ marks
          (λ id on. let yes = c.some_set.ensures.1 (id, on) in let no = c.if-some_set.false in cc (yes, no)) h)),
    )) c.reaches_broken.ensures
