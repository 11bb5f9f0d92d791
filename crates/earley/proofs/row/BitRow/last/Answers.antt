-- The highest bit of the last word that has one.
use Rattle.std.proofs.Common.{◌+◌, ◌-◌, ◌*◌, ◌≤◌, ap, sym, ◌∙◌, subst, arith, Contains, length}
use Rattle.std.specs.Int.{bit_at}
use Rattle.earley.specs.RowMembers.{word_in}
use Rattle.earley.proofs.RowMembersLemmas.{highest_last, none_highest, lowest_is, members_from, members_within}
use Rattle.earley.proofs.row.BitRow.last.Goals as goal

pub loop-end-init : goal.loop-end-init
loop-end-init c =
    let size = c.len.ensures in
    let same = c.self.inside.words.ok.0 in
    let short : c.self.inside.first + length c.self.inside.words.items ≤ 144115188075855872 = c.self.invariant in
    record {
      short = omega (arith, size, same, short);
      earlier = λ x h. let end = members_within c.self.inside.first c.self.inside.words.items x
          (subst (λ v. Contains v x) (sym c.self.view_is) h) in omega (arith, size, same, end);
    }

pub returns-in-Some-clause-found : goal.returns-in-Some-clause-found
returns-in-Some-clause-found c =
    let at = c.in-Some.ensures.found in
    let same = c.word.ensures ∙ ap (λ v. word_in c.self.inside.first v (c.loop-end.end - 1)) c.deref.ensures.value in
    subst (λ v. Contains v ((c.loop-end.end - 1) * 64 + c.in-Some.bit)) c.self.view_is
    (lowest_is c.self.inside.first c.self.inside.words.items (c.loop-end.end - 1) c.in-Some.bit at.0
    (sym (ap (λ w. bit_at w c.in-Some.bit) same) ∙ at.1))

pub returns-in-Some-clause-last : goal.returns-in-Some-clause-last
returns-in-Some-clause-last c x h =
    let same = c.word.ensures ∙ ap (λ v. word_in c.self.inside.first v (c.loop-end.end - 1)) c.deref.ensures.value in
    let before = c.loop-end.invariant.earlier x h in
    let some = c.loop-end-test.true in
    highest_last c.self.inside.first c.self.inside.words.items (c.loop-end.end - 1) c.in-Some.bit x
    (λ i lt. sym (ap (λ w. bit_at w i) same) ∙ c.in-Some.ensures.last i lt)
    (subst (λ v. Contains v x) (sym c.self.view_is) h) (omega (arith, before, some))

pub loop-end-preserved : goal.loop-end-preserved
loop-end-preserved c =
    let same = c.word.ensures ∙ ap (λ v. word_in c.self.inside.first v (c.loop-end.end - 1)) c.deref.ensures.value in
    let short = c.loop-end.invariant.short in
    let some = c.loop-end-test.true in
    record {
      short = omega (arith, short);
      earlier = λ x h. let before = c.loop-end.invariant.earlier x h in
          none_highest c.self.inside.first c.self.inside.words.items (c.loop-end.end - 1) x
          (λ i. sym (ap (λ w. bit_at w i) same) ∙ c.in_default.ensures.none i)
          (subst (λ v. Contains v x) (sym c.self.view_is) h) (omega (arith, before, some));
    }

pub returns-clause-none : goal.returns-clause-none
returns-clause-none c x h =
    let before = c.loop-end.invariant.earlier x h in
    let low = members_from c.self.inside.first c.self.inside.words.items x
    (subst (λ v. Contains v x) (sym c.self.view_is) h) in
    let none = c.loop-end-test.false in
    absurd (omega (arith, before, low, none))
