-- The letters that dotted rules read, one after another.
-- Serves: find_following
use Rattle.std.proofs.Common.{◌≡◌, ◌↔◌, ◌⊎◌, inl, inr, ⊎_elim, ℕ, ◌+◌, ◌<◌, ◌≤◌, true, List, length, take, sym}
use Rattle.std.proofs.Common.{subst, arith}
use Rattle.std.proofs.Common.{slice_index_or, suc, [], ◌∷◌}
use Rattle.std.proofs.lemmas.List.{take_more}
use Rattle.flatgrammar.proofs.InLemmas.{among_more, at_end, from_front, in_front, in_left}
use Rattle.flatgrammar.specs.Flat.{Flat}
use Rattle.flatgrammar.specs.Positions.{In}
use Rattle.flatgrammar.specs.declared.closure.DottedRule.{DottedRule}
use Rattle.ruletable.specs.Letters.{has}
use Rattle.ruletable.specs.declared.alphabet.Alphabet.{Alphabet}
use Rattle.refusedlines.specs.LetterRuns.{RunsHave}
use Rattle.refusedlines.specs.declared.letterruns.run.LetterRun.{LetterRun}
use Rattle.refusedlines.specs.ReadLetters.{GainLetters, DotReads, DotsRead}

module _ (alphabet : Alphabet) (flat : Flat) (dots : List DottedRule) where
  -- the letters that the first k dotted rules read
  abbrev Read : ℕ → ℕ → Type 0
  Read k c = (has alphabet c ≡ true) × DotsRead flat (take k dots) c

  read_among : (k : ℕ) (d : DottedRule) (c : ℕ) → k < length dots → DotsRead flat (take (k + 1) dots) c
      → DotsRead flat (take k dots) c ⊎ DotReads flat (slice_index_or dots k d) c
  read_among k d c lt r =
      let one : k + 1 ≡ suc k = omega arith in
      ⊎_elim (λ g. inl (record { dot = r.dot; stands = g; reads = r.reads }))
      (λ same. inr (subst (λ v. DotReads flat v c) same r.reads))
      (among_more r.dot dots k d lt (subst (λ v. In r.dot (take v dots)) one r.stands))

  in_next : (s : DottedRule) (k : ℕ) (d : DottedRule) → k < length dots → In s (take k dots)
      → In s (take (k + 1) dots)
  in_next s k d lt h = subst (λ v. In s v) (sym (take_more dots k d lt))
      (in_left (slice_index_or dots k d ∷ []) h)

  pub dots_read_more : (k : ℕ) (d : DottedRule) (old new : List LetterRun) → k < length dots
      → ((c : ℕ) → RunsHave old c ↔ Read k c)
      → GainLetters (λ c. (has alphabet c ≡ true) × DotReads flat (slice_index_or dots k d) c) old new
      → (c : ℕ) → RunsHave new c ↔ Read (k + 1) c
  dots_read_more k d old new lt before gain c = (
    λ h. ⊎_elim
        (λ g. let r = (before c).0 g in
        (r.0, record { dot = r.1.dot; stands = in_next r.1.dot k d lt r.1.stands; reads = r.1.reads }))
        (λ g. (
          g.0,
          record {
            dot = slice_index_or dots k d;
            stands = subst (λ v. In (slice_index_or dots k d) v) (sym (take_more dots k d lt))
                (at_end (slice_index_or dots k d) (take k dots));
            reads = g.1;
          },
        ))
        ((gain c).0 h),
    λ h. (gain c).1 (⊎_elim (λ g. inl ((before c).1 (h.0, g))) (λ g. inr (h.0, g)) (read_among k d c lt h.1)),
  )

  pub merged_read : (k : ℕ) (old new : List LetterRun) → length dots ≤ k → ((c : ℕ) → RunsHave old c ↔ Read k c)
      → ((c : ℕ) → RunsHave new c ↔ RunsHave old c)
      → (c : ℕ) → RunsHave new c ↔ ((has alphabet c ≡ true) × DotsRead flat dots c)
  merged_read k old new le before same c = (
    λ h. let r = (before c).0 ((same c).0 h) in
        (r.0, record { dot = r.1.dot; stands = from_front r.1.dot dots k r.1.stands; reads = r.1.reads }),
    λ h. (same c).1 ((before c).1
        (h.0, record { dot = h.1.dot; stands = in_front h.1.dot dots k le h.1.stands; reads = h.1.reads })),
  )
