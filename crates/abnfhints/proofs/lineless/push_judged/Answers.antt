-- What is reported of it, or nothing.
use Rattle.std.proofs.Common.{[], arith, sym, subst, Some}
use Rattle.std.proofs.lemmas.List.{append-nil, length-map}
use Rattle.abnfread.specs.AbnfViews.{rule_of, rules_of}
use Rattle.ruletable.specs.Letters.{has}
use Rattle.abnfhints.specs.AbnfHints.{no_rule, no_line, some_line, IsReportedOfJudged, lineless_reported}
use Rattle.abnfhints.proofs.DerivesOnlyWithLemmas.{name_reported}
use Rattle.abnfhints.proofs.lineless.push_judged.Goals as goal
use Rattle.abnfhints.proofs.lineless.push_judged.Goals.{else-id-len-via-then-id-len+in_ok-is_lineless+else-branch}
use Rattle.abnfhints.proofs.lineless.push_judged.Goals.{else-id-len-via-else-id-len}

pub returns-in_default : goal.returns-in_default
returns-in_default c = ([], rw c.in_default.is no_rule, sym (append-nil c.args.out.now.items))

pub returns-in_ok-push_lineless : goal.returns-in_ok-push_lineless
returns-in_ok-push_lineless c = (
  lineless_reported c.args.hinted.now.end c.name.result.now,
  rw c.in-Some.is (subst (λ v. IsReportedOfJudged (has c.args.hinted.now.letters) (rules_of c.args.hinted.now.rules.now)
      c.args.hinted.now.end (Some c.in-Some.id) (lineless_reported c.args.hinted.now.end v))
      (name_reported c.args.hinted.now.rules.now.rules c.in-Some.id c.name.result.now c.name.ensures)
      (no_line (c.in_ok-is_lineless.ensures.0 c.if-branch.true))),
  c.in_ok-push_lineless.ensures,
)

pub returns-else-id-len : goal.returns-else-id-len
returns-else-id-len c = (
  [],
  rw c.in-Some.is (some_line (λ d. elim c.else-id-len.branch [
    | else-id-len-via-then-id-len+in_ok-is_lineless+else-branch w ↦
        (let yes = w.in_ok-is_lineless.ensures.1 d in let off = w.if-branch.false in absurd (cc (yes, off)))
    | else-id-len-via-else-id-len w ↦
        (let lt = d.sound.judged_is_rule in let le = w.if-id-len.false in let l = c.len.ensures.len in
        let k = length-map c.args.hinted.now.rules.now.rules rule_of in omega (arith, lt, le, l, k))
  ])),
  sym (append-nil c.args.out.now.items),
)
