-- The lowest bit of the first word that has one.
use Rattle.std.proofs.Common.{
  ◌≡◌,
  ◌+◌,
  ◌*◌,
  ◌/◌,
  ◌%◌,
  ◌<◌,
  ◌≤◌,
  ap,
  sym,
  ◌∙◌,
  subst,
  arith,
  Contains,
  Bool,
  true,
  false,
}
use Rattle.std.proofs.Common.{refl, nat_le}
use Rattle.std.specs.Int.{bit_at}
use Rattle.std.proofs.lemmas.Bool.Decides.{nat_tests}
use Rattle.earley.specs.RowMembers.{word_in}
use Rattle.earley.proofs.RowMembersLemmas.{lowest_first, none_lowest, lowest_is, members_from, members_within}
use Rattle.earley.proofs.row.BitRow.next.Goals as goal

pub returns-in-Some-clause-found : goal.returns-in-Some-clause-found
returns-in-Some-clause-found c =
    let at = c.in-Some.ensures.found in
    let same = c.word.ensures ∙ ap (λ v. word_in c.self.inside.first v (c.args.from / 64)) c.deref.ensures.value in
    let low = at.0 in (
      omega (arith, low),
      subst (λ v. Contains v (c.args.from / 64 * 64 + c.in-Some.bit)) c.self.view_is
          (lowest_is c.self.inside.first c.self.inside.words.items (c.args.from / 64) c.in-Some.bit at.1
          (sym (ap (λ w. bit_at w c.in-Some.bit) same) ∙ at.2)),
    )

pub returns-in-Some-clause-first : goal.returns-in-Some-clause-first
returns-in-Some-clause-first c x h le =
    let same = c.word.ensures ∙ ap (λ v. word_in c.self.inside.first v (c.args.from / 64)) c.deref.ensures.value in
    lowest_first c.self.inside.first c.self.inside.words.items (c.args.from / 64) (c.args.from % 64) c.in-Some.bit x
    (λ i low lt. sym (ap (λ w. bit_at w i) same) ∙ c.in-Some.ensures.first i low lt) c.in-Some.ensures.found.1
    (subst (λ v. Contains v x) (sym c.self.view_is) h) (omega (arith, le))

pub loop-i-init : goal.loop-i-init
loop-i-init c =
    let same = c.word.ensures ∙ ap (λ v. word_in c.self.inside.first v (c.args.from / 64)) c.deref.ensures.value in
    let most = c.max-i.ensures in
    record {
      beyond = omega (arith, most);
      later = λ x h le. let there = subst (λ v. Contains v x) (sym c.self.view_is) h in
          let past = none_lowest c.self.inside.first c.self.inside.words.items (c.args.from / 64) (c.args.from % 64) x
          (λ i low. sym (ap (λ w. bit_at w i) same) ∙ c.in_default.ensures.none i low) there (omega (arith, le)) in
          let low = members_from c.self.inside.first c.self.inside.words.items x there in
          omega (arith, most, past, low);
    }

pub loop-i-preserved : goal.loop-i-preserved
loop-i-preserved c =
    let same = c.word-in-loop-i.ensures
    ∙ ap (λ v. word_in c.self.inside.first v c.loop-i.i) c.deref-in-loop-i.ensures.value in
    let before = c.loop-i.invariant.beyond in
    record {
      beyond = omega (arith, before);
      later = λ x h le. let there = c.loop-i.invariant.later x h le in
          none_lowest c.self.inside.first c.self.inside.words.items c.loop-i.i 0 x
          (λ i low. sym (ap (λ w. bit_at w i) same) ∙ c.in_default-lowest_bit.ensures.none i low)
          (subst (λ v. Contains v x) (sym c.self.view_is) h) (omega (arith, there));
    }

pub returns-in-Some-lowest_bit-clause-found : goal.returns-in-Some-lowest_bit-clause-found
returns-in-Some-lowest_bit-clause-found c =
    let at = c.in-Some-lowest_bit.ensures.found in
    let same = c.word-in-loop-i.ensures
    ∙ ap (λ v. word_in c.self.inside.first v c.loop-i.i) c.deref-in-loop-i.ensures.value in
    let before = c.loop-i.invariant.beyond in (
      omega (arith, before),
      subst (λ v. Contains v (c.loop-i.i * 64 + c.in-Some-lowest_bit.bit)) c.self.view_is
          (lowest_is c.self.inside.first c.self.inside.words.items c.loop-i.i c.in-Some-lowest_bit.bit at.1
          (sym (ap (λ w. bit_at w c.in-Some-lowest_bit.bit) same) ∙ at.2)),
    )

pub returns-in-Some-lowest_bit-clause-first : goal.returns-in-Some-lowest_bit-clause-first
returns-in-Some-lowest_bit-clause-first c x h le =
    let same = c.word-in-loop-i.ensures
    ∙ ap (λ v. word_in c.self.inside.first v c.loop-i.i) c.deref-in-loop-i.ensures.value in
    let there = c.loop-i.invariant.later x h le in
    lowest_first c.self.inside.first c.self.inside.words.items c.loop-i.i 0 c.in-Some-lowest_bit.bit x
    (λ i low lt. sym (ap (λ w. bit_at w i) same) ∙ c.in-Some-lowest_bit.ensures.first i low lt)
    c.in-Some-lowest_bit.ensures.found.1 (subst (λ v. Contains v x) (sym c.self.view_is) h) (omega (arith, there))

pub returns-clause-none : goal.returns-clause-none
returns-clause-none c x h = by (nat_le c.args.from x) refl
  where
    by : (b : Bool) → nat_le c.args.from x ≡ b → x < c.args.from
    by false is = grind (arith, nat_tests)
    by true is =
        let from : c.args.from ≤ x = grind (arith, nat_tests) in
        let there = c.loop-i.invariant.later x h from in
        let test = c.loop-i-test.false in
        let end = members_within c.self.inside.first c.self.inside.words.items x
        (subst (λ v. Contains v x) (sym c.self.view_is) h) in
        absurd (omega (arith, there, test, end))
