-- Tops without those that others dominate.
-- Serves: judge, viable, expected.
use Rattle.std.proofs.Common.{◌≡◌, ℕ, zero, suc, ◌+◌, ◌-◌, refl, ◌<◌, ◌≤◌, List, [], ◌∷◌, ◌++◌, length, reverse}
use Rattle.std.proofs.Common.{sym, ◌∙◌, ap, subst}
use Rattle.std.proofs.Common.{arith, ◌⊎◌, inl, inr}
use Rattle.std.proofs.lemmas.Bool.{cases_lt}
use Rattle.std.proofs.lemmas.List.Elements.{Contains-append_left, Contains-push, Contains-push_cases}
use Rattle.std.proofs.lemmas.List.Sorted.{Contains-permutation, IsPermutation-reverse, IsPermutation-sym}
use Rattle.std.proofs.lemmas.Option.{slice_get_within}
use Rattle.std.specs.Prelude.{slice_get, Option, Some, Contains}
use Rattle.flatgrammar.specs.Flat.{Dot, at, Rep, top}
use Rattle.flatgrammar.specs.FlatViews.{node_of}
use Rattle.flatgrammar.specs.declared.flat_node.Node as code_node
use Rattle.flatgrammar.proofs.CallOfLemmas.{get_map}
use Rattle.flatgrammar.specs.NodeSteps.{flat_of}
use Rattle.flatgrammar.specs.declared.tables.Tables as code_flat
use Rattle.lazydfa.specs.declared.conts.Cont.{Cont}
use Rattle.lazydfa.specs.Conts.{stack_of}
use Rattle.lazydfa.specs.Domination.{Dominates, IsAhead, IsPruned, IsTopTaken}
use Rattle.lazydfa.proofs.DominatesLemmas.{dominates_self, dominates_both}
use Rattle.lazydfa.proofs.IsClosureLemmas.{contains_at, stands_at}

module _ (tables : code_flat.Tables) (conts : List Cont) where
  -- some of these dominates that one
  abbrev pub IsUnder : List ℕ → ℕ → Type 0
  IsUnder kept id = (other : ℕ) × Contains kept other
      × Dominates (flat_of tables) (stack_of conts other) (stack_of conts id)

  -- dotted rule by dotted rule
  pub ahead_below : (id other : ℕ) (p q : Dot) (s t : List Dot) → stack_of conts id ≡ p ∷ s
      → stack_of conts other ≡ q ∷ t → IsAhead (flat_of tables) p q → Dominates (flat_of tables) s t
      → Dominates (flat_of tables) (stack_of conts id) (stack_of conts other)
  ahead_below id other p q s t over under ahead h =
      subst (λ v. Dominates (flat_of tables) v (stack_of conts other)) (sym over) (inr (q, t, under, ahead, h))

  pub pruned_self : (tops : List ℕ) → IsPruned tables conts tops tops
  pruned_self tops = record {
    only = λ id h. h;
    rest = λ id h. (id, h, dominates_self (flat_of tables) (stack_of conts id));
  }

  pub pruned_both : (tops mid kept : List ℕ) → IsPruned tables conts tops mid → IsPruned tables conts mid kept
      → IsPruned tables conts tops kept
  pruned_both tops mid kept first second = record {
    only = λ id h. first.only id (second.only id h);
    rest = λ id h.
        let a = first.rest id h in
        let b = second.rest a.0 a.1 in (
          b.0,
          b.1,
          dominates_both (flat_of tables) (stack_of conts b.0) (stack_of conts a.0) (stack_of conts id) b.2 a.2,
        );
  }

  module _ (tops : List ℕ) where
    -- so it is with the first so many
    pub record ArePrunedTo (count : ℕ) (kept : List ℕ) : Type 0 where
      pub only : (id : ℕ) → Contains kept id → Contains tops id
      pub rest : (k id : ℕ) → k < count → slice_get tops k ≡ Some id → IsUnder kept id

    pub pruned_none : (kept : List ℕ) → kept ≡ [] → ArePrunedTo 0 kept
    pruned_none kept none = record {
      only = λ id h. absurd
          (let e = subst (λ v. Contains v id) none h in let lt = e.1 in omega (arith, lt));
      rest = λ k id lt. absurd (omega (arith, lt));
    }

    same_at : (count id k other : ℕ) → slice_get tops count ≡ Some id → slice_get tops k ≡ Some other → count ≤ k
        → k < count + 1 → id ≡ other
    same_at count id k other is at_k le lt =
        let here : k ≡ count = omega (arith, le, lt) in
        let both : Some id ≡ Some other = sym is ∙ subst (λ v. slice_get tops v ≡ Some other) here at_k in
        cc both

    pub pruned_past : (count id : ℕ) (kept : List ℕ) → slice_get tops count ≡ Some id → IsUnder kept id
        → ArePrunedTo count kept → ArePrunedTo (count + 1) kept
    pruned_past count id kept is under h = record {
      only = h.only;
      rest = λ k other lt at_k. by k other lt at_k (cases_lt k count);
    }
      where
        by : (k other : ℕ) → k < count + 1 → slice_get tops k ≡ Some other → (k < count) ⊎ (count ≤ k)
            → IsUnder kept other
        by k other lt at_k (inl less) = h.rest k other less at_k
        by k other lt at_k (inr le) = subst (λ v. IsUnder kept v) (same_at count id k other is at_k le lt) under

    pub pruned_push : (count id : ℕ) (kept new : List ℕ) → slice_get tops count ≡ Some id → new ≡ kept ++ id ∷ []
        → ArePrunedTo count kept → ArePrunedTo (count + 1) new
    pruned_push count id kept new is grown h = record {
      only = λ other stands.
          from other (Contains-push_cases kept id other (subst (λ v. Contains v other) grown stands));
      rest = λ k other lt at_k. by k other lt at_k (cases_lt k count);
    }
      where
        from : (other : ℕ) → Contains kept other ⊎ (id ≡ other) → Contains tops other
        from other (inl old) = h.only other old
        from other (inr same) = subst (λ v. Contains tops v) same (contains_at tops count id is)

        more : (other : ℕ) → Contains kept other → Contains new other
        more other old = subst (λ v. Contains v other) (sym grown) (Contains-append_left kept (id ∷ []) other old)

        by : (k other : ℕ) → k < count + 1 → slice_get tops k ≡ Some other → (k < count) ⊎ (count ≤ k)
            → IsUnder new other
        by k other lt at_k (inl less) = let u = h.rest k other less at_k in (u.0, more u.0 u.1, u.2)
        by k other lt at_k (inr le) =
            subst (λ v. IsUnder new v) (same_at count id k other is at_k le lt) (
              id,
              subst (λ v. Contains v id) (sym grown) (Contains-push kept id),
              dominates_self (flat_of tables) (stack_of conts id),
            )

    pub pruned_next : (count id : ℕ) (kept new : List ℕ) → slice_get tops count ≡ Some id
        → IsTopTaken tables conts kept new id → ArePrunedTo count kept → ArePrunedTo (count + 1) new
    pruned_next count id kept new is (inl grown) h = pruned_push count id kept new is grown h
    pruned_next count id kept new is (inr under) h =
        subst (λ v. ArePrunedTo (count + 1) v) (sym under.0)
        (pruned_past count id kept is under.1 h)

    pub pruned_all : (count : ℕ) (kept new : List ℕ) → length tops ≤ count → new ≡ reverse kept
        → ArePrunedTo count kept → IsPruned tables conts tops new
    pruned_all count kept new le turned h = record {
      only = λ id stands. h.only id (Contains-permutation (reverse kept) kept id
          (IsPermutation-sym kept (reverse kept) (IsPermutation-reverse kept))
          (subst (λ v. Contains v id) turned stands));
      rest = λ id stands.
          let t = stands_at tops id stands in
          let u = h.rest t.position id
          (let w = slice_get_within tops t.position id t.is in omega (arith, w, le)) t.is in (
            u.0,
            subst (λ v. Contains v u.0) (sym turned)
                (Contains-permutation kept (reverse kept) u.0 (IsPermutation-reverse kept) u.1),
            u.2,
          );
    }

-- two counts of a repetition
pub ahead_fewer : (tables : code_flat.Tables) (n m few many : ℕ) (node : code_node.Node) → n ≡ m
    → slice_get tables.nodes.items n ≡ Some node → (least : ℕ) (most : Option ℕ) (operand : ℕ)
    → node_of node ≡ Rep least most operand → least ≤ few → few ≤ many → many ≤ top least most
    → IsAhead (flat_of tables) (at n few) (at m many)
ahead_fewer tables n m few many node same is least most operand rep enough fewer within = inr (record {
  node = n;
  few = few;
  many = many;
  least = least;
  most = most;
  operand = operand;
  p_is = refl;
  q_is = ap (λ v. at v many) (sym same);
  node_is = get_map node_of tables.nodes.items n is ∙ ap (λ v. Some v) rep;
  enough = enough;
  fewer = fewer;
  within = within;
})

pub entry_within : (entry n : ℕ) → (entry ≡ 0 → ⊥) → entry ≤ n → entry - 1 < n
entry_within zero n some le = absurd (some refl)
entry_within (suc k) n some le = omega (arith, le)
