-- Continuations that are taken off what is below them, and put on something else.
-- Serves: judge, viable.
use Rattle.std.proofs.Common.{◌≡◌, ℕ, ◌+◌, ◌<◌, ◌≤◌, List, [], ◌∷◌, ◌++◌, length, refl, sym, ◌∙◌, ap}
use Rattle.std.proofs.Common.{subst, arith, ◌⊎◌, inl, inr, append_assoc}
use Rattle.std.proofs.lemmas.Bool.{cases_lt}
use Rattle.std.proofs.lemmas.List.{append-nil}
use Rattle.std.proofs.lemmas.List.Elements.{Contains-append_left, Contains-push, Contains-push_cases}
use Rattle.std.proofs.lemmas.Option.{slice_get_within}
use Rattle.std.specs.Prelude.{slice_get, Some, Contains}
use Rattle.flatgrammar.specs.Flat.{Dot, at}
use Rattle.lazydfa.specs.declared.conts.Cont.{Cont}
use Rattle.lazydfa.specs.Conts.{stack_of, AreKept}
use Rattle.lazydfa.specs.Spines.{positions_of, IsMoveOn, MovesOn, AreMoved}
use Rattle.lazydfa.proofs.ContsLemmas.{kept_stack, kept_within}
use Rattle.lazydfa.proofs.IsClosureLemmas.{stands_at}

spine_end : (xs : List Cont) (c : Cont) (s : List Dot)
    → positions_of (xs ++ c ∷ []) ++ s ≡ positions_of xs ++ (at c.node c.step ∷ s)
spine_end [] c s = refl
spine_end (x ∷ xs) c s = ap (λ v. at x.node x.step ∷ v) (spine_end xs c s)

-- one dotted rule more was taken
pub spine_taken : (conts : List Cont) (id next : ℕ) (spine new : List Cont) (c : Cont) (whole : List Dot)
    → new ≡ spine ++ c ∷ [] → next ≡ c.next → stack_of conts id ≡ at c.node c.step ∷ stack_of conts c.next
    → whole ≡ positions_of spine ++ stack_of conts id → whole ≡ positions_of new ++ stack_of conts next
spine_taken conts id next spine new c whole grown is_next is before =
    before ∙ (ap (λ v. positions_of spine ++ v) is
    ∙ (sym (spine_end spine c (stack_of conts c.next))
    ∙ (ap (λ v. positions_of v ++ stack_of conts c.next) (sym grown)
    ∙ ap (λ v. positions_of new ++ stack_of conts v) (sym is_next))))

-- one dotted rule more was put
pub spine_put : (conts more : List Cont) (id next : ℕ) (old new : List Cont) (c : Cont) (whole : List Dot)
    → old ≡ new ++ c ∷ [] → stack_of more next ≡ at c.node c.step ∷ stack_of conts id
    → whole ≡ positions_of old ++ stack_of conts id → whole ≡ positions_of new ++ stack_of more next
spine_put conts more id next old new c whole grown is before =
    before ∙ (ap (λ v. positions_of v ++ stack_of conts id) grown
    ∙ (spine_end new c (stack_of conts id) ∙ ap (λ v. positions_of new ++ v) (sym is)))

-- of the first so many
pub record AreMovedTo (first : List Cont) (tops : List ℕ) (off : ℕ) (conts : List Cont) (old new : List ℕ)
    (on count : ℕ) : Type 0 where
  pub added : List ℕ
  pub grown : new ≡ old ++ added
  pub only : (id : ℕ) → Contains added id → (top : ℕ) × Contains tops top × IsMoveOn first top off conts id on
  pub all : (k top : ℕ) → k < count → slice_get tops k ≡ Some top → (id : ℕ) × Contains added id
      × IsMoveOn first top off conts id on

module _ (first now : List Cont) (kept : AreKept first now) (off on : ℕ) (off_in : off ≤ length first)
    (on_in : on ≤ length first) where
  from_first : (next : List Cont) (top id : ℕ) → top ≤ length first → IsMoveOn now top off next id on
      → IsMoveOn first top off next id on
  from_first next top id top_in m = record {
    within = m.within;
    base = m.base;
    was = sym (kept_stack first now kept top top_in) ∙ (m.was
        ∙ ap (λ v. m.base ++ v) (kept_stack first now kept off off_in));
    is = m.is ∙ ap (λ v. m.base ++ v) (kept_stack first now kept on on_in);
  }

pub move_kept : (first now next : List Cont) (top off id on : ℕ) → AreKept now next → IsMoveOn first top off now id on
    → IsMoveOn first top off next id on
move_kept first now next top off id on more m = record {
  within = kept_within now next more id m.within;
  base = m.base;
  was = m.was;
  is = kept_stack now next more id m.within ∙ m.is;
}

module _ (first now next : List Cont) (kept : AreKept first now) (more : AreKept now next) (tops : List ℕ) (off on : ℕ)
    (off_in : off ≤ length first) (on_in : on ≤ length first)
    (within : (id : ℕ) → Contains tops id → id ≤ length first) (old ids new : List ℕ) (count top : ℕ)
    (at_count : slice_get tops count ≡ Some top) (stands : Contains tops top)
    (before : AreMovedTo first tops off now old ids on count) (moved : MovesOn now top off next ids new on) where
  moved_here : IsMoveOn first top off next moved.id on
  moved_here = from_first first now kept off on off_in on_in next top moved.id (within top stands) moved.moved

  pub moved_next : AreMovedTo first tops off next old new on (count + 1)
  moved_next = record {
    added = before.added ++ moved.id ∷ [];
    grown = moved.grown ∙ (ap (λ v. v ++ moved.id ∷ []) before.grown
        ∙ append_assoc old before.added (moved.id ∷ []));
    only = λ id h. only id (Contains-push_cases before.added moved.id id h);
    all = λ k other lt is. all k other is (cases_lt k count) lt;
  }
    where
      only : (id : ℕ) → Contains before.added id ⊎ (moved.id ≡ id) → (t : ℕ) × Contains tops t
          × IsMoveOn first t off next id on
      only id (inl h) = let b = before.only id h in (b.0, b.1, move_kept first now next b.0 off id on more b.2)
      only id (inr same) = (top, stands, subst (λ v. IsMoveOn first top off next v on) same moved_here)

      all : (k other : ℕ) → slice_get tops k ≡ Some other → (k < count) ⊎ (count ≤ k) → k < count + 1 → (id : ℕ)
          × Contains (before.added ++ moved.id ∷ []) id × IsMoveOn first other off next id on
      all k other is (inl less) lt =
          let b = before.all k other less is in (
            b.0,
            Contains-append_left before.added (moved.id ∷ []) b.0 b.1,
            move_kept first now next other off b.0 on more b.2,
          )
      all k other is (inr le) lt =
          let k_is : k ≡ count = omega (arith, le, lt) in
          let both : Some top ≡ Some other = sym at_count ∙ (ap (λ v. slice_get tops v) (sym k_is) ∙ is) in
          let same : top ≡ other = cc both in (
            moved.id,
            Contains-push before.added moved.id,
            subst (λ v. IsMoveOn first v off next moved.id on) same moved_here,
          )

pub moved_none : (first conts : List Cont) (tops : List ℕ) (off on : ℕ) (ids : List ℕ)
    → AreMovedTo first tops off conts ids ids on 0
moved_none first conts tops off on ids = record {
  added = [];
  grown = sym (append-nil ids);
  only = λ id h. absurd (let lt = h.1 in omega (arith, lt));
  all = λ k top lt is. absurd (omega (arith, lt));
}

pub moved_all : (first conts : List Cont) (tops : List ℕ) (off on : ℕ) (old new : List ℕ) (count : ℕ)
    → length tops ≤ count → AreMovedTo first tops off conts old new on count
    → AreMoved first tops off conts old new on
moved_all first conts tops off on old new count le m = record {
  added = m.added;
  grown = m.grown;
  only = m.only;
  all = λ top h.
      let t = stands_at tops top h in
      m.all t.position top (let w = slice_get_within tops t.position top t.is in omega (arith, w, le)) t.is;
}
