-- Keys that a state of a table takes.
-- Serves: first, after.
use Rattle.std.proofs.Common.{◌≡◌, ◌↔◌, ◌⊎◌, inl, inr, ℕ, ◌+◌, ◌<◌, ◌≤◌, length}
use Rattle.std.proofs.Common.{sym, ◌∙◌}
use Rattle.std.proofs.Common.{ap, subst, arith}
use Rattle.std.proofs.lemmas.Bool.{cases_lt}
use Rattle.std.proofs.lemmas.List.{get_or_default}
use Rattle.std.proofs.lemmas.Option.{get_or_from_slice_get}
use Rattle.std.specs.Option.{is_some}
use Rattle.std.specs.Prelude.{Bool, true, false, Option, None, Some, slice_get, Contains, IsTrue}
use Rattle.flatgrammar.specs.Stacks.{IsNext}
use Rattle.flatgrammar.proofs.AreClassesLemmas.{rising_up}
use Rattle.lazydfa.specs.StateSets.{grammar_of, last_in, StateSet}
use Rattle.lazydfa.proofs.StateSetsLemmas.{got_at}
use Rattle.rulelines.specs.FirstLines.{sort_key}
use Rattle.rulelines.specs.Samples.{symbol_of}
use Rattle.rulelines.specs.declared.list.table.Table.{Table}
use Rattle.rulelines.specs.ListedSets.{listed_in}
use Rattle.rulelines.specs.StateTables.{HasRestIn, IsCan, IsFirstKeyIn, IsStateTable, IsStep}
use Rattle.rulelines.specs.StateTables.{TakesKeyIn}
use Rattle.rulelines.proofs.RestLemmas.{ended_rest, first_from, key_taken, no_key, none_from, rest_ended, some_key}
use Rattle.rulelines.proofs.RestLemmas.{taken_key, taken_symbol}
use Rattle.rulelines.proofs.StateTableLemmas.{one_element}

module _ (table : Table) where
  abbrev pub IsState : ℕ → StateSet → Type 0
  IsState n s = slice_get table.states.states n ≡ Some s

  -- the states of a step
  pub step_leads : (n c t : ℕ) (s to : StateSet) → IsStep table n c t → IsState n s → IsState t to
      → IsNext (grammar_of table.states) (last_in table.states) (Contains s.stacks) c (Contains to.stacks) to.ended
  step_leads n c t s to step s_is to_is =
      let from : step.next.from ≡ s = one_element table.states.states n step.next.from s step.next.from_is s_is in
      let on : step.next.to ≡ to = one_element table.states.states t step.next.to to step.next.to_is to_is in
      subst (λ v. IsNext (grammar_of table.states) (last_in table.states) (Contains s.stacks) c (Contains v.stacks)
      v.ended) on
      (subst (λ v. IsNext (grammar_of table.states) (last_in table.states) (Contains v.stacks) c
      (Contains step.next.to.stacks) step.next.to.ended) from step.next.next)

  pub taken_reported : (n t c key k : ℕ) (can : Bool) → c ≡ symbol_of key → sort_key c ≡ key → IsStep table n c t
      → IsCan table t k can → (s : StateSet) → IsState n s → IsTrue can ↔ TakesKeyIn table s key k
  taken_reported n t c key k can is same step reported s s_is =
      let l = step_leads n c t s reported.state step s_is reported.is in (
        λ h. key_taken (grammar_of table.states) (last_in table.states)
            (listed_in table.symbols) s reported.state c key k
            same step.symbol l (reported.says.0 h),
        λ h. reported.says.1
            (taken_key (grammar_of table.states) (last_in table.states)
            (listed_in table.symbols) s reported.state c key k
            is l h),
      )

  -- a key of no symbol
  pub never_reported : (c key k : ℕ) → c ≡ symbol_of key
      → (listed_in table.symbols c ≡ true → sort_key c ≡ key → ⊥) → (s : StateSet)
      → IsTrue false ↔ TakesKeyIn table s key k
  never_reported c key k is out s = (
    λ h. absurd (cc h),
    λ h. absurd
        (let g = taken_symbol (grammar_of table.states) (last_in table.states) (listed_in table.symbols) s key k h in
        out (subst (λ v. listed_in table.symbols v ≡ true) (sym is) g.0) (ap sort_key is ∙ g.1)),
  )

  -- of the first starts, none after a number is taken
  abbrev pub AreNotTaken : ℕ → ℕ → ℕ → ℕ → Type 0
  AreNotTaken n from k i = (s : StateSet) → IsState n s → (j b : ℕ) → j < i → slice_get table.starts.items j ≡ Some b
      → from < b → TakesKeyIn table s b k → ⊥

  pub one_more_not_taken : (n from k i b : ℕ) → slice_get table.starts.items i ≡ Some b
      → ((s : StateSet) → IsState n s → from < b → TakesKeyIn table s b k → ⊥) → AreNotTaken n from k i
      → AreNotTaken n from k (i + 1)
  one_more_not_taken n from k i b at_i never before s is j other lt at_j more taken = by (cases_lt j i)
    where
      by : (j < i) ⊎ (i ≤ j) → ⊥
      by (inl less) = before s is j other less at_j more taken
      by (inr le) =
          let here : j ≡ i = omega (arith, lt, le) in
          let same : other ≡ b =
          one_element table.starts.items i other b (subst (λ v. slice_get table.starts.items v ≡ Some other) here at_j)
          at_i in
          never s is (subst (λ v. from < v) same more) (subst (λ v. TakesKeyIn table s v k) same taken)

  module _ (is : IsStateTable table) (n from k : ℕ) (s : StateSet) (s_is : IsState n s)
      (never : TakesKeyIn table s from k → ⊥) where
    pub none_reported : (i : ℕ) → length table.starts.items ≤ i → AreNotTaken n from k i
        → IsFirstKeyIn table s from k None
    none_reported i le none =
        none_from (grammar_of table.states) (last_in table.states) (listed_in table.symbols) table.starts.items
        is.starts_are s k from never
        (λ b h more taken. none s s_is h.0 b (let lt = h.1 in omega (arith, lt, le)) (got_at table.starts.items b h)
        more taken)

    pub found_reported : (i b : ℕ) → slice_get table.starts.items i ≡ Some b → from < b → TakesKeyIn table s b k
        → AreNotTaken n from k i → IsFirstKeyIn table s from k (Some b)
    found_reported i b at_i more taken none =
        first_from (grammar_of table.states) (last_in table.states) (listed_in table.symbols) table.starts.items
        is.starts_are s k from b more taken never (λ a h lo hi t. by a h lo hi t (cases_lt h.0 i))
      where
        by : (a : ℕ) (h : Contains table.starts.items a) → from < a → a < b → TakesKeyIn table s a k
            → (h.0 < i) ⊎ (i ≤ h.0) → ⊥
        by a h lo hi t (inl less) = none s s_is h.0 a less (got_at table.starts.items a h) lo t
        by a h lo hi t (inr ge) =
            let up = rising_up table.starts.items is.rise i h.0 0 ge h.1 in
            let one = get_or_from_slice_get table.starts.items i b 0 at_i in
            let other = get_or_default table.starts.items h.0 a 0 h.1 in
            let same = h.2 in
            omega (arith, up, one, other, same, hi)

  pub from_reported : (from k : ℕ) (s : StateSet) → TakesKeyIn table s from k → IsFirstKeyIn table s from k (Some from)
  from_reported from k s taken = (omega arith, taken, λ j le lt h. absurd (omega (arith, le, lt)))

  -- the entries of a level
  pub ended_reported : (n : ℕ) (s : StateSet) (ended : Bool) → ended ≡ s.ended → IsTrue ended ↔ HasRestIn table s 0
  ended_reported n s ended is = (
    λ h. ended_rest (grammar_of table.states) (last_in table.states) (listed_in table.symbols) s (sym is ∙ h),
    λ h. is ∙ rest_ended (grammar_of table.states) (last_in table.states) (listed_in table.symbols) s h,
  )

  pub some_reported : (k count : ℕ) (s : StateSet) (found : Option ℕ) (can : Bool) → count ≡ k + 1
      → IsFirstKeyIn table s 0 k found → can ≡ is_some found → IsTrue can ↔ HasRestIn table s count
  some_reported k count s None can is none reported = (
    λ h. absurd (cc (reported, h)),
    λ h. absurd (no_key (grammar_of table.states) (last_in table.states) (listed_in table.symbols) s k none
        (subst (λ v. HasRestIn table s v) is h)),
  )
  some_reported k count s (Some key) can is found reported = (
    λ h. subst (λ v. HasRestIn table s v) (sym is)
        (some_key (grammar_of table.states) (last_in table.states) (listed_in table.symbols) s k key found.1),
    λ h. reported,
  )
