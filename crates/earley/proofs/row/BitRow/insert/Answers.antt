-- The number's bit is set, and no other changes.
use Rattle.std.proofs.Common.{◌≡◌, ◌+◌, ◌-◌, ◌/◌, ◌≤◌, ◌<◌, sym, ◌∙◌, subst, arith, Contains, length}
use Rattle.std.proofs.Common.{inl, inr, ⊎_elim}
use Rattle.earley.specs.RowMembers.{word_in, members}
use Rattle.earley.proofs.WordInLemmas.{word_from, default_same}
use Rattle.earley.proofs.RowMembersLemmas.{members_set, members_same}
use Rattle.earley.proofs.row.BitRow.insert.Goals as goal

pub returns-clause-members : goal.returns-clause-members
returns-clause-members c x =
    let k = c.args.k in
    let f = c.cover.new.first in
    let words = c.cover.new.words.items in
    let from : f ≤ k / 64 = c.in_ok-cover.ensures.low in
    let end = c.in_ok-cover.ensures.high in
    let short : k / 64 < f + length words = omega (arith, end) in
    let here : c.index_mut.result.now ≡ word_in f words (k / 64) = c.index_mut.ensures.value
    ∙ default_same words (k / 64 - f) c.index_mut.result.now 0 (omega (arith, from, short))
    ∙ sym (word_from f words (k / 64) from) in
    let set = members_set f words k from short c.index_mut.result.now here x in
    let old = c.self.inside in
    let back : Contains (members f words) x → Contains c.args.self.now x = (λ h. subst (λ v. Contains v x)
    c.self.view_is (members_same f old.first words old.words.items c.cover.ensures.same x h)) in
    let to : Contains c.args.self.now x → Contains (members f words) x = (λ h. members_same old.first f
    old.words.items words (λ i. sym (c.cover.ensures.same i)) x (subst (λ v. Contains v x) (sym c.self.view_is) h)) in (
      (λ h. ⊎_elim (λ a. inl (back a)) (λ is. inr is) (set.0 h)),
      (λ h. set.1 (⊎_elim (λ a. inl (to a)) (λ is. inr is) h)),
    )
