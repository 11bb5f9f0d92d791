-- A bit that is missing shows a member, and each word without one shows none.
use Rattle.std.proofs.Common.{◌≡◌, ◌+◌, ◌*◌, ◌/◌, ◌∙◌, ap, sym, subst, arith, Contains, refl, ⊎_elim}
use Rattle.std.proofs.lemmas.Bool.{cases_lt}
use Rattle.earley.specs.RowMembers.{word_in}
use Rattle.earley.proofs.RowMembersLemmas.{word_missing, word_covered, members_from, members_within}
use Rattle.earley.proofs.row.BitRow.has_all.Goals as goal

pub loop-i-init : goal.loop-i-init
loop-i-init c x h lt =
    let low = members_from c.found.inside.first c.found.inside.words.items x
    (subst (λ v. Contains v x) (sym c.found.view_is) h) in absurd (omega (arith, low, lt))

pub returns-in-Some : goal.returns-in-Some
returns-in-Some c =
    let f = c.self.inside.first in
    let a = c.found.inside.first in
    let i = c.loop-i.i in
    let at = c.in-Some.ensures.found in
    let two = word_missing f a c.self.inside.words.items c.found.inside.words.items i c.word-more.result c.word.result
    (c.word-more.ensures ∙ ap (λ v. word_in a v i) c.deref.ensures.value)
    (c.word.ensures ∙ ap (λ v. word_in f v i) c.deref-in-loop-i.ensures.value) c.word.type_inv c.in-Some._bit at.1 at.2
    in (
      (λ t. absurd (cc t)),
      (λ all. absurd (two.1 (subst (λ v. Contains v (i * 64 + c.in-Some._bit)) (sym c.self.view_is)
          (all (i * 64 + c.in-Some._bit) (subst (λ v. Contains v (i * 64 + c.in-Some._bit)) c.found.view_is two.0))))),
    )

pub loop-i-preserved : goal.loop-i-preserved
loop-i-preserved c x h lt = ⊎_elim (λ low. c.loop-i.invariant x h low)
    (λ past. let word : x / 64 ≡ c.loop-i.i = omega (arith, lt, past) in
    let f = c.self.inside.first in
    let a = c.found.inside.first in
    let i = c.loop-i.i in
    subst (λ v. Contains v x) c.self.view_is
    (word_covered f a c.self.inside.words.items c.found.inside.words.items i c.word-more.result c.word.result
    (c.word-more.ensures ∙ ap (λ v. word_in a v i) c.deref.ensures.value)
    (c.word.ensures ∙ ap (λ v. word_in f v i) c.deref-in-loop-i.ensures.value) c.word.type_inv
    (λ b. c.in_default.ensures.none b (omega arith)) x word (subst (λ v. Contains v x) (sym c.found.view_is) h)))
    (cases_lt x (c.loop-i.i * 64))

pub returns : goal.returns
returns c = (
  (λ t x h. let end = members_within c.found.inside.first c.found.inside.words.items x
      (subst (λ v. Contains v x) (sym c.found.view_is) h) in
      let test = c.loop-i-test.false in
      let size = c.len.ensures in
      let same = c.found.inside.words.ok.0 in
      c.loop-i.invariant x h (omega (arith, end, test, size, same))),
  (λ all. refl),
)
