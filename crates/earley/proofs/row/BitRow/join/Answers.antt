-- The row holds the words of the other, and each word gets its bits.
use Rattle.std.proofs.Common.{◌≡◌, ◌↔◌, ◌⊎◌, ℕ, ◌-◌, ap, sym, ◌∙◌, subst, Contains, slice_index_or, inl, ⊎_elim, bit_or}
use Rattle.std.proofs.lemmas.List.{with_items_is}
use Rattle.earley.specs.RowMembers.{word_in, members}
use Rattle.earley.proofs.WordInLemmas.{or_in}
use Rattle.earley.proofs.RowMembersLemmas.{members_or, none_found, no_length}
use Rattle.earley.proofs.row.BitRow.join.Goals as goal

pub returns-then-is_empty-clause-members : goal.returns-then-is_empty-clause-members
returns-then-is_empty-clause-members c x =
    let none = none_found c.found.inside.first c.found.inside.words.items c.args.found.now c.found.view_is
    (no_length c.found.inside.words c.is_empty.result c.if-is_empty.true c.is_empty.ensures) x in
    ((λ h. inl h), (λ h. ⊎_elim (λ a. a) (λ a. absurd (none a)) h))

pub returns-clause-members : goal.returns-clause-members
returns-clause-members c x =
    let f = c.cover.new.first in
    let a = c.found.inside.first in
    let more = c.found.inside.words.items in
    let words = c.cover.new.words.items in
    let each : (n : ℕ) → slice_index_or c.or_words.new.words n 0
    ≡ bit_or (slice_index_or words n 0) (word_in (a - f) more n) =
    subst (λ m. (n : ℕ) → slice_index_or c.or_words.new.words n 0
    ≡ bit_or (slice_index_or words n 0) (word_in (a - f) m n)) c.deref.ensures.value
    (subst (λ w. (n : ℕ) → slice_index_or c.or_words.new.words n 0
    ≡ bit_or (slice_index_or w n 0) (word_in (a - f) c.deref.result.now n)) c.deref_mut.ensures.value
    c.or_words.ensures.or) in
    let whole = with_items_is c.cover.new.words c.or_words.new.words
    (c.or_words.ensures.count ∙ c.deref_mut.ensures.len) in
    subst (λ v. Contains (members f v) x ↔ (Contains c.args.self.now x ⊎ Contains c.args.found.now x)) (sym whole)
    (subst (λ v. Contains (members f c.or_words.new.words) x ↔ (Contains c.args.self.now x ⊎ Contains v x))
    c.found.view_is (subst (λ v. Contains (members f c.or_words.new.words) x ↔ (Contains v x
    ⊎ Contains (members a more) x)) c.self.view_is
    (members_or f c.self.inside.first a c.or_words.new.words c.self.inside.words.items more
    (λ q. or_in f a words c.or_words.new.words more c.in_ok-cover.ensures.low each q
    ∙ ap (λ v. bit_or v (word_in a more q)) (c.cover.ensures.same q)) x)))
