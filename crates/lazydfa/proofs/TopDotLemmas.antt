-- The dotted rules on top of the stacks of ids.
-- Serves: dots_of.
use Rattle.std.proofs.Common.{◌≡◌, ℕ, ◌+◌, ◌<◌, ◌≤◌, List, [], ◌∷◌, ◌++◌, length, sym, ◌∙◌, ap, subst, arith}
use Rattle.std.proofs.Common.{◌⊎◌, inl, inr}
use Rattle.std.proofs.lemmas.Bool.{cases_lt}
use Rattle.std.proofs.lemmas.Option.{slice_get_within}
use Rattle.std.specs.Prelude.{slice_get, Some, Contains}
use Rattle.flatgrammar.specs.ItemClosures.{dot}
use Rattle.flatgrammar.specs.Flat.{Dot, at}
use Rattle.flatgrammar.specs.Positions.{In}
use Rattle.flatgrammar.specs.declared.closure.DottedRule.{DottedRule}
use Rattle.flatgrammar.proofs.InLemmas.{in_left, at_end, before_end}
use Rattle.lazydfa.specs.declared.conts.Cont.{Cont}
use Rattle.lazydfa.specs.Conts.{stack_of, AreTopsOf}
use Rattle.lazydfa.proofs.ContsLemmas.{stack_none}
use Rattle.lazydfa.proofs.IsClosureLemmas.{contains_at, stands_at}

module _ (conts : List Cont) (ids : List ℕ) where
  -- of the first so many ids
  pub record AreFirstTops (count : ℕ) (dots : List DottedRule) : Type 0 where
    pub sound : (s : DottedRule) → In s dots → (id : ℕ) × Contains ids id × (below : List Dot)
        × (stack_of conts id ≡ at s.node s.step ∷ below)
    pub whole : (s : DottedRule) (k id : ℕ) (below : List Dot) → k < count → slice_get ids k ≡ Some id
        → stack_of conts id ≡ at s.node s.step ∷ below → In s dots

  pub no_tops : (none : List DottedRule) → none ≡ [] → AreFirstTops 0 none
  no_tops none is = record {
    sound = λ s stands. absurd (not_in s (subst (λ v. In s v) is stands));
    whole = λ s k id below lt. absurd (omega (arith, lt));
  }
    where
      not_in : (s : DottedRule) → In s [] → ⊥
      not_in s h = elim h [ ]

  same_at : (count k id other : ℕ) → count ≤ k → k < count + 1 → slice_get ids count ≡ Some id
      → slice_get ids k ≡ Some other → id ≡ other
  same_at count k id other le lt is at_k =
      let here : k ≡ count = omega (arith, le, lt) in
      let both : Some id ≡ Some other = sym is ∙ subst (λ v. slice_get ids v ≡ Some other) here at_k in cc both

  pub top_passed : (count id : ℕ) (dots : List DottedRule) → slice_get ids count ≡ Some id → id ≡ 0
      → AreFirstTops count dots → AreFirstTops (count + 1) dots
  top_passed count id dots is none are = record {
    sound = are.sound;
    whole = λ s k other below lt at_k stack. by s k other below lt at_k stack (cases_lt k count);
  }
    where
      by : (s : DottedRule) (k other : ℕ) (below : List Dot) → k < count + 1 → slice_get ids k ≡ Some other
          → stack_of conts other ≡ at s.node s.step ∷ below → (k < count) ⊎ (count ≤ k) → In s dots
      by s k other below lt at_k stack (inl less) = are.whole s k other below less at_k stack
      by s k other below lt at_k stack (inr le) =
          let same = same_at count k id other le lt is at_k in
          let empty : [] ≡ at s.node s.step ∷ below = sym (stack_none conts other (sym same ∙ none)) ∙ stack in
          absurd (cc empty)

  pub top_added : (count id : ℕ) (dots new : List DottedRule) (one : DottedRule) (under : List Dot)
      → slice_get ids count ≡ Some id → stack_of conts id ≡ at one.node one.step ∷ under → new ≡ dots ++ one ∷ []
      → AreFirstTops count dots → AreFirstTops (count + 1) new
  top_added count id dots new one under is top grown are = record {
    sound = λ s stands. from s (before_end s one dots (subst (λ v. In s v) grown stands));
    whole = λ s k other below lt at_k stack. subst (λ v. In s v) (sym grown)
        (by s k other below lt at_k stack (cases_lt k count));
  }
    where
      from : (s : DottedRule) → In s dots ⊎ (s ≡ one) → (id : ℕ) × Contains ids id × (below : List Dot)
          × (stack_of conts id ≡ at s.node s.step ∷ below)
      from s (inl h) = are.sound s h
      from s (inr same) = (
        id,
        contains_at ids count id is,
        under,
        subst (λ (v : DottedRule). stack_of conts id ≡ at v.node v.step ∷ under)
            (sym same) top,
      )

      by : (s : DottedRule) (k other : ℕ) (below : List Dot) → k < count + 1 → slice_get ids k ≡ Some other
          → stack_of conts other ≡ at s.node s.step ∷ below → (k < count) ⊎ (count ≤ k) → In s (dots ++ one ∷ [])
      by s k other below lt at_k stack (inl less) = in_left (one ∷ []) (are.whole s k other below less at_k stack)
      by s k other below lt at_k stack (inr le) =
          let same = same_at count k id other le lt is at_k in
          let both : at one.node one.step ∷ under ≡ at s.node s.step ∷ below =
          sym top ∙ subst (λ v. stack_of conts v ≡ at s.node s.step ∷ below) (sym same) stack in
          let node : one.node ≡ s.node = cc both in
          let step : one.step ≡ s.step = cc both in
          subst (λ v. In v (dots ++ one ∷ [])) (one_dot one s node step) (at_end one dots)
        where
          one_dot : (a b : DottedRule) → a.node ≡ b.node → a.step ≡ b.step → a ≡ b
          one_dot a b node step = ap (λ v. dot v a.step) node ∙ ap (λ v. dot b.node v) step

  pub tops_done : (count : ℕ) (dots : List DottedRule) → length ids ≤ count → AreFirstTops count dots
      → AreTopsOf conts ids dots
  tops_done count dots le are = record {
    sound = are.sound;
    whole = λ s id below stands stack.
        let t = stands_at ids id stands in
        are.whole s t.position id below
        (let w = slice_get_within ids t.position id t.is in omega (arith, w, le)) t.is stack;
  }
