-- How a closure comes about.
-- Serves: judge.
use Rattle.std.proofs.Common.{◌≡◌, ℕ, zero, suc, ◌+◌, ◌<◌, ◌≤◌, Bool, true, false, ◌||◌, List, [], ◌∷◌, ◌++◌, length}
use Rattle.std.proofs.Common.{refl, sym, ◌∙◌, ap}
use Rattle.std.proofs.Common.{subst, arith, ◌⊎◌, inl, inr, ◌↔◌}
use Rattle.std.proofs.lemmas.Bool.{cases_lt}
use Rattle.std.proofs.lemmas.List.Elements.{Contains-append_left, Contains-append_cases}
use Rattle.std.proofs.lemmas.Option.{slice_get_within, slice_get-get_or}
use Rattle.std.specs.Prelude.{slice_get, Some, Contains, IsTrue}
use Rattle.flatgrammar.specs.Flat.{Dot}
use Rattle.flatgrammar.specs.declared.tables.Tables as code_flat
use Rattle.lazydfa.specs.declared.conts.Cont.{Cont}
use Rattle.lazydfa.specs.Conts.{stack_of, AreKept, Adds, EndsAlone, LedBy, here, on, IsStackOf, IsClosing}
use Rattle.lazydfa.specs.Conts.{IsClosedBy}
use Rattle.lazydfa.proofs.ContsLemmas.{kept_same, kept_both, kept_stack, kept_within}

get_left : (xs ys : List ℕ) (k : ℕ) → k < length xs → slice_get (xs ++ ys) k ≡ slice_get xs k
get_left [] ys k lt = absurd (omega (arith, lt))
get_left (x ∷ xs) ys zero lt = refl
get_left (x ∷ xs) ys (suc k) lt = get_left xs ys k (omega (arith, lt))

pub contains_at : (xs : List ℕ) (k id : ℕ) → slice_get xs k ≡ Some id → Contains xs id
contains_at [] k id is = absurd (cc is)
contains_at (x ∷ xs) zero id is = (0, omega arith, cc is)
contains_at (x ∷ xs) (suc k) id is =
    let h = contains_at xs k id is in (suc h.0, (let lt = h.1 in omega (arith, lt)), h.2)

pub record StandsAt (xs : List ℕ) (id : ℕ) : Type 0 where
  pub position : ℕ
  pub is : slice_get xs position ≡ Some id

pub stands_at : (xs : List ℕ) (id : ℕ) → Contains xs id → StandsAt xs id
stands_at xs id h = record { position = h.0; is = slice_get-get_or xs h.0 id h.1 ∙ ap (λ v. Some v) h.2 }

module _ (tables : code_flat.Tables) (goes : List Dot → List Dot → Type 0) (first : List Cont) (given : List ℕ) where
  pub closing_none : ((id : ℕ) → Contains given id → id ≤ length first)
      → IsClosing tables goes first given first given 0 false
  closing_none within = record {
    kept = kept_same first;
    within = within;
    sound = λ id h. here (record { id = id; stands = h; is = refl });
    given_stand = λ id h. h;
    closed = λ k id lt. absurd (omega (arith, lt));
    ended_is = (λ h. absurd (cc h), λ h. absurd (let lt = h.2 in omega (arith, lt)));
  }

  pub closing_more : (conts new : List Cont) (ids more : List ℕ) (count id : ℕ) (ended now : Bool)
      → IsClosing tables goes first given conts ids count ended → slice_get ids count ≡ Some id → AreKept conts new
      → Adds new (goes (stack_of conts id)) ids more → (IsTrue now ↔ EndsAlone tables (stack_of conts id))
      → IsClosing tables goes first given new more (count + 1) (now || ended)
  closing_more conts new ids more count id ended now c at_count kept adds reports = record {
    kept = kept_both first conts new c.kept kept;
    within = λ other h. within other (cases other h);
    sound = λ other h. sound other (cases other h);
    given_stand = λ other h. subst (λ v. Contains v other) (sym adds.grown)
        (Contains-append_left ids adds.added other (c.given_stand other h));
    closed = λ k other lt is stack g. closed k other (cases_lt k count) lt (old_at k other lt is) stack g;
    ended_is = (to_end now ended refl refl, λ h. from_end h.0 h.1 h.2 h.3 h.4 (cases_lt h.0 count));
  }
    where
      cases : (other : ℕ) → Contains more other → Contains ids other ⊎ Contains adds.added other
      cases other h = Contains-append_cases ids adds.added other (subst (λ v. Contains v other) adds.grown h)

      within : (other : ℕ) → Contains ids other ⊎ Contains adds.added other → other ≤ length new
      within other (inl h) = kept_within conts new kept other (c.within other h)
      within other (inr h) = (adds.sound other h).0

      at_id : Contains ids id
      at_id = contains_at ids count id at_count

      sound : (other : ℕ) → Contains ids other ⊎ Contains adds.added other
          → LedBy goes (IsStackOf first given) (stack_of new other)
      sound other (inl h) = subst (λ v. LedBy goes (IsStackOf first given) v)
          (sym (kept_stack conts new kept other (c.within other h))) (c.sound other h)
      sound other (inr h) = on (c.sound id at_id) (adds.sound other h).1

      old_at : (k other : ℕ) → k < count + 1 → slice_get more k ≡ Some other → slice_get ids k ≡ Some other
      old_at k other lt is =
          let w = slice_get_within ids count id at_count in
          sym (get_left ids adds.added k (omega (arith, w, lt)))
          ∙ subst (λ v. slice_get v k ≡ Some other) adds.grown is

      still : (k other : ℕ) → slice_get ids k ≡ Some other → stack_of new other ≡ stack_of conts other
      still k other is = kept_stack conts new kept other (c.within other (contains_at ids k other is))

      moved : {stack : List Dot} → IsStackOf conts ids stack → IsStackOf new more stack
      moved s = record {
        id = s.id;
        stands = subst (λ v. Contains v s.id) (sym adds.grown) (Contains-append_left ids adds.added s.id s.stands);
        is = s.is ∙ sym (kept_stack conts new kept s.id (c.within s.id s.stands));
      }

      same_at : (k other : ℕ) → count ≤ k → k < count + 1 → slice_get ids k ≡ Some other → id ≡ other
      same_at k other le lt is =
          let here : k ≡ count = omega (arith, le, lt) in
          let both : Some id ≡ Some other = sym at_count ∙ subst (λ v. slice_get ids v ≡ Some other) here is in cc both

      closed : (k other : ℕ) → (k < count) ⊎ (count ≤ k) → k < count + 1 → slice_get ids k ≡ Some other
          → (stack : List Dot) → goes (stack_of new other) stack → IsStackOf new more stack
      closed k other (inl less) lt is stack g =
          moved (c.closed k other less is stack (subst (λ v. goes v stack) (still k other is) g))
      closed k other (inr le) lt is stack g =
          let w = adds.whole stack (subst (λ v. goes v stack)
          (still k other is ∙ ap (λ v. stack_of conts v) (sym (same_at k other le lt is))) g) in
          record { id = w.0; stands = w.1; is = sym w.2.is }

      at_more : (k other : ℕ) → slice_get ids k ≡ Some other → slice_get more k ≡ Some other
      at_more k other is = subst (λ v. slice_get v k ≡ Some other) (sym adds.grown)
          (get_left ids adds.added k (slice_get_within ids k other is) ∙ is)

      to_end : (a b : Bool) → a ≡ now → b ≡ ended → (a || b ≡ true)
          → (k : ℕ) × (other : ℕ) × (k < count + 1) × (slice_get more k ≡ Some other)
          × EndsAlone tables (stack_of new other)
      to_end true b is_now is_ended h = (
        count,
        id,
        omega arith,
        at_more count id at_count,
        subst (λ v. EndsAlone tables v)
            (sym (still count id at_count)) (reports.0 (truly is_now)),
      )
        where
          truly : true ≡ now → IsTrue now
          truly same = subst (λ v. IsTrue v) same refl
      to_end false b is_now is_ended h =
          let e = c.ended_is.0 (sym is_ended ∙ h) in (
            e.0,
            e.1,
            (let lt = e.2 in omega (arith, lt)),
            at_more e.0 e.1 e.3,
            subst (λ v. EndsAlone tables v)
                (sym (still e.0 e.1 e.3)) e.4,
          )

      from_end : (k other : ℕ) → k < count + 1 → slice_get more k ≡ Some other → EndsAlone tables (stack_of new other)
          → (k < count) ⊎ (count ≤ k) → (now || ended) ≡ true
      from_end k other lt is e (inl less) =
          let old = old_at k other lt is in
          or_right now ended (c.ended_is.1 (k, other, less, old, subst (λ v. EndsAlone tables v) (still k other old) e))
        where
          or_right : (a b : Bool) → b ≡ true → (a || b) ≡ true
          or_right true b h = refl
          or_right false b h = h
      from_end k other lt is e (inr le) =
          let old = old_at k other lt is in
          or_left now ended (reports.1 (subst (λ v. EndsAlone tables v)
          (still k other old ∙ ap (λ v. stack_of conts v) (sym (same_at k other le lt old))) e))
        where
          or_left : (a b : Bool) → IsTrue a → (a || b) ≡ true
          or_left true b h = refl
          or_left false b h = absurd (cc h)

  pub closing_done : (conts : List Cont) (ids : List ℕ) (count : ℕ) (ended : Bool)
      → ((id : ℕ) → Contains given id → id ≤ length first) → IsClosing tables goes first given conts ids count ended
      → length ids ≤ count → IsClosedBy tables goes first given conts ids ended
  closing_done conts ids count ended within c le = record {
    within = c.within;
    stacks = λ stack. (
      λ s. subst (λ v. LedBy goes (IsStackOf first given) v) (sym s.is) (c.sound s.id s.stands),
      λ g. back g,
    );
    ended_is = (λ h. to_end (c.ended_is.0 h), λ h. from_end h.0 h.1 h.2);
  }
    where
      back : {stack : List Dot} → LedBy goes (IsStackOf first given) stack → IsStackOf conts ids stack
      back (here s) = record {
        id = s.id;
        stands = c.given_stand s.id s.stands;
        is = s.is ∙ sym (kept_stack first conts c.kept s.id (within s.id s.stands));
      }
      back (on {stack = stack} {next = next} h g) =
          let s = back h in
          let t = stands_at ids s.id s.stands in
          c.closed t.position s.id (let w = slice_get_within ids t.position s.id t.is in omega (arith, w, le)) t.is next
          (subst (λ v. goes v next) s.is g)

      to_end : (k : ℕ) × (id : ℕ) × (k < count) × (slice_get ids k ≡ Some id) × EndsAlone tables (stack_of conts id)
          → (stack : List Dot) × IsStackOf conts ids stack × EndsAlone tables stack
      to_end e = (stack_of conts e.1, record { id = e.1; stands = contains_at ids e.0 e.1 e.3; is = refl }, e.4)

      from_end : (stack : List Dot) → IsStackOf conts ids stack → EndsAlone tables stack → ended ≡ true
      from_end stack s e =
          let t = stands_at ids s.id s.stands in
          c.ended_is.1 (
            t.position,
            s.id,
            (let w = slice_get_within ids t.position s.id t.is in omega (arith, w, le)),
            t.is,
            subst (λ v. EndsAlone tables v) s.is e,
          )
