use Rattle.std.proofs.Common.{◌-◌, ◌<◌, length, arith, refl, sym, subst, ◌∙◌}
use Rattle.std.proofs.lemmas.Option.{slice_get_read}
use Rattle.fixpoint.specs.UserLists.{Chain}
use Rattle.fixpoint.specs.StepRows.{row_at}
use Rattle.fixpoint.proofs.AreListsLemmas as l
use Rattle.fixpoint.proofs.ReportedLemmas.{other_default}
use Rattle.fixpoint.proofs.needs.report.Goals as goal

pub loop-at-init : goal.loop-at-init
loop-at-init c = λ rows a.
    let first = c.index-at.ensures ∙ other_default _ _ _ 0 c.requires.m in
    l.reporting_none _ _ _ _ _ (subst (λ v. Chain c.args.users.now.links.items v (row_at rows c.args.m)) (sym first)
    (a.list c.args.m)) c.requires.queue

pub index-link-requires : goal.index-link-requires
index-link-requires c =
    let le = l.reporting_within (c.loop-at.invariant c.requires.lists.rows c.requires.lists.lists) in
    let ok = c.args.users.now.links.ok.0 in
    let more = c.loop-at-test.true in
    omega (arith, le, ok, more)

pub lower-requires-clause-within : goal.lower-requires-clause-within
lower-requires-clause-within c =
    let t = c.loop-at.invariant c.requires.lists.rows c.requires.lists.lists in
    let le = l.reporting_within t in
    let more = c.loop-at-test.true in
    let there : c.loop-at.at - 1 < length c.args.users.now.links.items = omega (arith, le, more) in
    let at = slice_get_read _ _ _ _ refl there c.index-link.ensures in
    let lt = c.requires.lists.within c.args.m _ (l.reporting_user more at t) in
    let k = t.reported.count in
    omega (arith, lt, k)

pub loop-at-smaller : goal.loop-at-smaller
loop-at-smaller c =
    let t = c.loop-at.invariant c.requires.lists.rows c.requires.lists.lists in
    let le = l.reporting_within t in
    let more = c.loop-at-test.true in
    let there : c.loop-at.at - 1 < length c.args.users.now.links.items = omega (arith, le, more) in
    let at = slice_get_read _ _ _ _ refl there c.index-link.ensures in
    l.reporting_falls more at t

pub loop-at-preserved : goal.loop-at-preserved
loop-at-preserved c = λ rows a.
    let t = c.loop-at.invariant rows a in
    let le = l.reporting_within t in
    let more = c.loop-at-test.true in
    let there : c.loop-at.at - 1 < length c.args.users.now.links.items = omega (arith, le, more) in
    let at = slice_get_read _ _ _ _ refl there c.index-link.ensures in
    l.reporting_next more at t c.in_ok-lower.ensures

pub returns : goal.returns
returns c = λ rows a. l.reporting_done c.loop-at-test.false (c.loop-at.invariant rows a)
