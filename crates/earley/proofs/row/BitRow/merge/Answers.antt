-- Both rows hold the words of the third, and each word gets its bits.
use Rattle.std.proofs.Common.{◌≡◌, ◌↔◌, ◌⊎◌, ℕ, ◌+◌, ◌-◌, ◌<◌, ◌^◌, ap, sym, ◌∙◌, subst, Contains}
use Rattle.std.proofs.Common.{slice_index_or, inl, ⊎_elim, bit_and, bit_or}
use Rattle.std.proofs.Common.{Result, Ok, Err, OnErr}
use Rattle.std.specs.Int.{bit_not, w64}
use Rattle.std.proofs.lemmas.List.{with_items_is}
use Rattle.earley.specs.RowMembers.{word_in, members}
use Rattle.earley.proofs.WordInLemmas.{or_in, missing_in, small_words}
use Rattle.earley.proofs.RowMembersLemmas.{members_or, members_missing, members_same, none_found, no_length}
use Rattle.earley.proofs.row.BitRow.merge.Goals as goal

any_err : {T E : Type 0} (P : Type 0) → P → (r : Result T E) → OnErr r P
any_err P p (Ok v) = tt
any_err P p (Err e) = p

pub returns-then-is_empty-clause-members : goal.returns-then-is_empty-clause-members
returns-then-is_empty-clause-members c x =
    let none = none_found c.found.inside.first c.found.inside.words.items c.args.found.now c.found.view_is
    (no_length c.found.inside.words c.is_empty.result c.if-is_empty.true c.is_empty.ensures) x in
    ((λ h. inl h), (λ h. ⊎_elim (λ a. a) (λ a. absurd (none a)) h))

pub returns-then-is_empty-clause-pending : goal.returns-then-is_empty-clause-pending
returns-then-is_empty-clause-pending c x =
    let none = none_found c.found.inside.first c.found.inside.words.items c.args.found.now c.found.view_is
    (no_length c.found.inside.words c.is_empty.result c.if-is_empty.true c.is_empty.ensures) x in
    ((λ h. inl h), (λ h. ⊎_elim (λ a. a) (λ a. absurd (none a.0)) h))

pub returns-in_err-cover-2-clause-err : goal.returns-in_err-cover-2-clause-err
returns-in_err-cover-2-clause-err c =
    let old = c.self.inside in
    let f = c.cover.new.first in
    let words = c.cover.new.words.items in
    any_err ((x : ℕ) → Contains (members f words) x ↔ Contains c.args.self.now x)
    (λ x. (
      (λ h. subst (λ v. Contains v x) c.self.view_is
          (members_same f old.first words old.words.items c.cover.ensures.same x h)),
      (λ h. members_same old.first f old.words.items words (λ i. sym (c.cover.ensures.same i)) x
          (subst (λ v. Contains v x) (sym c.self.view_is) h)),
    )) c.from_residual-in_err-cover-2.result

pub returns-clause-members : goal.returns-clause-members
returns-clause-members c x =
    let f = c.cover.new.first in
    let a = c.found.inside.first in
    let more = c.found.inside.words.items in
    let words = c.cover.new.words.items in
    let each : (n : ℕ) → slice_index_or c.or_words.new.words n 0
    ≡ bit_or (slice_index_or words n 0) (word_in (a - f) more n) =
    subst (λ m. (n : ℕ) → slice_index_or c.or_words.new.words n 0
    ≡ bit_or (slice_index_or words n 0) (word_in (a - f) m n)) c.deref-3.ensures.value
    (subst (λ w. (n : ℕ) → slice_index_or c.or_words.new.words n 0
    ≡ bit_or (slice_index_or w n 0) (word_in (a - f) c.deref-3.result.now n)) c.deref_mut-2.ensures.value
    c.or_words.ensures.or) in
    let whole = with_items_is c.cover.new.words c.or_words.new.words
    (c.or_words.ensures.count ∙ c.deref_mut-2.ensures.len) in
    subst (λ v. Contains (members f v) x ↔ (Contains c.args.self.now x ⊎ Contains c.args.found.now x)) (sym whole)
    (subst (λ v. Contains (members f c.or_words.new.words) x ↔ (Contains c.args.self.now x ⊎ Contains v x))
    c.found.view_is (subst (λ v. Contains (members f c.or_words.new.words) x ↔ (Contains v x
    ⊎ Contains (members a more) x)) c.self.view_is
    (members_or f c.self.inside.first a c.or_words.new.words c.self.inside.words.items more
    (λ q. or_in f a words c.or_words.new.words more c.in_ok-cover.ensures.low each q
    ∙ ap (λ v. bit_or v (word_in a more q)) (c.cover.ensures.same q)) x)))

pub returns-clause-pending : goal.returns-clause-pending
returns-clause-pending c x =
    let f = c.cover-2.new.first in
    let g = c.cover.new.first in
    let a = c.found.inside.first in
    let more = c.found.inside.words.items in
    let words = c.cover-2.new.words.items in
    let known = c.cover.new.words.items in
    let new = c.or_missing.new.words in
    let each : (n : ℕ) → slice_index_or new n 0 ≡ bit_or (slice_index_or words n 0)
    (bit_and (word_in (a - f) more n) (bit_not w64 (slice_index_or known (n - (a - f) + (a - g)) 0))) =
    subst (λ k. (n : ℕ) → slice_index_or new n 0 ≡ bit_or (slice_index_or words n 0)
    (bit_and (word_in (a - f) more n) (bit_not w64 (slice_index_or k (n - (a - f) + (a - g)) 0))))
    c.deref-2.ensures.value
    (subst (λ m. (n : ℕ) → slice_index_or new n 0 ≡ bit_or (slice_index_or words n 0)
    (bit_and (word_in (a - f) m n) (bit_not w64 (slice_index_or c.deref-2.result.now (n - (a - f) + (a - g)) 0))))
    c.deref.ensures.value
    (subst (λ w. (n : ℕ) → slice_index_or new n 0 ≡ bit_or (slice_index_or w n 0)
    (bit_and (word_in (a - f) c.deref.result.now n)
    (bit_not w64 (slice_index_or c.deref-2.result.now (n - (a - f) + (a - g)) 0)))) c.deref_mut.ensures.value
    c.or_missing.ensures.or)) in
    let old = c.self.inside in
    let pending = c.pending.inside in
    let whole = with_items_is c.cover-2.new.words new (c.or_missing.ensures.count ∙ c.deref_mut.ensures.len) in
    subst (λ v. Contains (members f v) x ↔ (Contains c.args.pending.now x
    ⊎ (Contains c.args.found.now x × (Contains c.args.self.now x → ⊥)))) (sym whole)
    (subst (λ v. Contains (members f new) x ↔ (Contains v x
    ⊎ (Contains c.args.found.now x × (Contains c.args.self.now x → ⊥)))) c.pending.view_is
    (subst (λ v. Contains (members f new) x ↔ (Contains (members pending.first pending.words.items) x
    ⊎ (Contains v x × (Contains c.args.self.now x → ⊥)))) c.found.view_is
    (subst (λ v. Contains (members f new) x ↔ (Contains (members pending.first pending.words.items) x
    ⊎ (Contains (members a more) x × (Contains v x → ⊥)))) c.self.view_is
    (members_missing f pending.first a old.first new pending.words.items more old.words.items
    (λ q. subst (λ v. v < 2 ^ 64) (c.cover.ensures.same q) (small_words g known
    (subst (λ k. (n : ℕ) → slice_index_or k n 0 < 2 ^ 64) c.deref-2.ensures.value c.or_missing.ensures.known) q))
    (λ q. missing_in f a g words new more known c.in_ok-cover-2.ensures.low c.in_ok-cover.ensures.low each q
    ∙ ap (λ v. bit_or v (bit_and (word_in a more q) (bit_not w64 (word_in g known q)))) (c.cover-2.ensures.same q)
    ∙ ap (λ v. bit_or (word_in pending.first pending.words.items q) (bit_and (word_in a more q) (bit_not w64 v)))
    (c.cover.ensures.same q)) x))))
