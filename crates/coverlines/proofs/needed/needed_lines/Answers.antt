-- One line more, which is left out or kept.
use Rattle.std.proofs.Common.{◌∙◌, inl, inr, ⊎_elim, ℕ, Bor, Vec, Global, List, length, ap, arith, refl}
use Rattle.std.proofs.Common.{subst}
use Rattle.std.proofs.lemmas.List.{length-map}
use Rattle.fixpoint.specs.NumberMarks.{IsMarked}
use Rattle.fixpoint.proofs.IsMarkedLemmas.{none_set}
use Rattle.coverlines.proofs.RuleBasesLemmas as b
use Rattle.coverlines.proofs.needed.needed_lines.Goals as goal

pub loop-line-init : goal.loop-line-init
loop-line-init c = rw c.new-kept.ensures.items (b.none_needed c.args.words.now c.args.sites.now c.args.contexts.now
    c.in_ok-marks.marks.items (λ id h. none_set _ id (subst (λ v. IsMarked v id)
    (c.in_ok-marks.ensures.items_if_clones_equal (λ y e. e)) h)))

pub loop-line-preserved-then-branch : goal.loop-line-preserved-then-branch
loop-line-preserved-then-branch c = b.left_out c.args.words.now c.args.sites.now c.args.contexts.now c.args.lines.now
    c.loop-line.line-index c.line-item.result c.loop-line-test.true c.line-item.is c.loop-line.kept.items
    c.loop-line.marks.items (rw (c.deref-in-loop-line.ensures.value, c.deref-in-loop-line-2.ensures.value) at
    (c.in_ok-is_reached.ensures.yes c.if-branch.true)) c.loop-line.invariant

pub mark_rules-requires-clause-steps : goal.mark_rules-requires-clause-steps
mark_rules-requires-clause-steps c = rw (
  c.deref-in-loop-line-4.ensures.value,
  c.in_ok-steps.ensures,
  c.deref.ensures.value,
) (b.steps_within c.args.words.now c.args.sites.now c.args.contexts.now c.in_ok-bases.bases
    (let n = c.requires.sites in let k = c.requires.words.count in omega (arith, n, k)) c.in_ok-bases.ensures)

pub mark_rules-requires-clause-lines : goal.mark_rules-requires-clause-lines
mark_rules-requires-clause-lines c = λ l among.
    let are = c.in_ok-bases.ensures in
    let lt = are.within l (rw c.deref-in-loop-line-3.ensures.value at among) in
    let count = are.count in
    let steps = ap length c.deref-in-loop-line-4.ensures.value in
    let rows = ap length c.in_ok-steps.ensures in
    let own = ap length c.deref.ensures.value in
    let n = length-map c.in_ok-steps.steps.items (λ (x : Bor (List ℕ)). x.now) in
    let m = length-map c.deref.result.now (λ (v : Vec ℕ Global). v.items) in
    let o = c.requires.sites in
    let k = c.requires.words.count in
    omega (arith, lt, count, steps, rows, own, n, m, o, k)

pub loop-line-preserved : goal.loop-line-preserved
loop-line-preserved c = b.one_kept c.args.words.now c.args.sites.now c.args.contexts.now c.args.lines.now
    c.loop-line.line-index c.line-item.result c.loop-line-test.true c.line-item.is c.loop-line.kept.items
    c.push.new.self.items (record { goal = c.line-item.result.goal; line = c.in_ok-copy.copy })
    c.in_ok-push.ensures.items refl (c.in_ok-copy.ensures.items ∙ c.deref-in-loop-line-6.ensures.value)
    c.loop-line.marks.items c.mark_rules.new.marks.items c.requires.order
    (rw (c.deref-in-loop-line-2.ensures.value) at (c.in_ok-is_reached.ensures.no c.if-branch.false))
    (λ id at. ⊎_elim (λ old. inl old)
    (λ r. inr (b.line_has c.args.words.now c.args.sites.now c.args.contexts.now c.in_ok-bases.bases
    c.line-item.result.line.items id c.in_ok-bases.ensures (rw (
      c.deref-in-loop-line-3.ensures.value,
      c.deref-in-loop-line-4.ensures.value,
      c.in_ok-steps.ensures,
      c.deref.ensures.value,
      c.deref-in-loop-line-5.ensures.value,
    ) at r))) (c.in_ok-mark_rules.ensures.marks id at)) c.loop-line.invariant

pub returns-clause-order : goal.returns-clause-order
returns-clause-order c = c.loop-line.invariant.order

pub returns-clause-kept : goal.returns-clause-kept
returns-clause-kept c = b.all_needed c.args.words.now c.args.sites.now c.args.contexts.now c.args.lines.now
    c.loop-line.kept.items c.loop-line.marks.items c.loop-line.line-index c.loop-line-test.false c.loop-line.invariant
