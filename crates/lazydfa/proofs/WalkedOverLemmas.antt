-- Walks over suffixes, and the parts on top of them.
-- Serves: awaited.
use Rattle.std.proofs.Common.{◌≡◌, ◌⊎◌, inl, inr, ◌↔◌, ℕ, zero, suc, ◌+◌, ◌<◌, ◌≤◌, Bool, true, false, List, [], ◌∷◌}
use Rattle.std.proofs.Common.{◌++◌, length, refl, sym, ◌∙◌, ap, subst, arith, take}
use Rattle.std.specs.Prelude.{slice_get, Some, Contains}
use Rattle.flatgrammar.specs.Flat.{Dot, at}
use Rattle.flatgrammar.specs.Positions.{In}
use Rattle.flatgrammar.specs.Stacks.{Lifted}
use Rattle.flatgrammar.specs.declared.closure.DottedRule.{DottedRule}
use Rattle.flatgrammar.specs.declared.tables.Tables as code_flat
use Rattle.lazydfa.specs.declared.conts.Cont.{Cont}
use Rattle.lazydfa.specs.Conts.{after, last_of, stack_of, AreKept, AreOlder, EndsAlone, IsAdded, IsStackOf, LedBy, here}
use Rattle.lazydfa.specs.Conts.{on}
use Rattle.lazydfa.specs.NameWalks.{AddsParts, enters, passes, IsPartOnTop, IsWalked, IsWalkedOver, WalkGoes}
use Rattle.lazydfa.specs.StackSuffixes.{AreSuffixes, below_of}
use Rattle.lazydfa.proofs.ContsLemmas.{kept_both, kept_same, kept_stack, kept_within, some_stack, stack_none}
use Rattle.lazydfa.proofs.IsClosureLemmas.{contains_at}
use Rattle.lazydfa.proofs.IsOverLemmas.{below_end, below_kept, suffixes_kept}

bool_cases : (b : Bool) → (b ≡ true) ⊎ (b ≡ false)
bool_cases true = inl refl
bool_cases false = inr refl

-- more stacks lead to more
pub led_more : {goes : List Dot → List Dot → Type 0} {from more : List Dot → Type 0}
    → ((a : List Dot) → from a → more a) → {a : List Dot} → LedBy goes from a → LedBy goes more a
led_more to (here {stack = a} h) = here (to a h)
led_more to (on h g) = on (led_more to h) g

-- .. and have more parts
pub parts_more : {tables : code_flat.Tables} {stacks more : List Dot → Type 0} {s : DottedRule}
    → ((a : List Dot) → stacks a → more a) → IsPartOnTop tables stacks s → IsPartOnTop tables more s
parts_more to p = record {
  node = p.node;
  step = p.step;
  below = p.below;
  is = to (at p.node p.step ∷ p.below) p.is;
  part = p.part;
}

module _ (tables : code_flat.Tables) where
  after_on : (n next : ℕ) (below under : List Dot) → after tables n next below ++ under
      ≡ after tables n next (below ++ under)
  after_on n next below under = by (bool_cases (last_of tables (at n next)))
    where
      by : (last_of tables (at n next) ≡ true) ⊎ (last_of tables (at n next) ≡ false)
          → after tables n next below ++ under ≡ after tables n next (below ++ under)
      by (inl is_true) = rw is_true refl
      by (inr is_false) = rw is_false refl

  lifted_goes : (a b under : List Dot) → WalkGoes tables a b
      → WalkGoes tables (a ++ under) (b ++ under)
  lifted_goes [] b under g = absurd g
  lifted_goes (at n k ∷ below) b under (inl (enters {s = s} {next = next} is is_false begun)) =
      inl (enters is is_false (record {
        step = begun.step;
        begins = begun.begins;
        is = ap (λ v. v ++ under) begun.is ∙ ap (λ v. at s begun.step ∷ v) (after_on n next below under);
      }))
  lifted_goes (at n k ∷ below) b under (inl (passes is is_true some there)) =
      inl (passes is is_true some (ap (λ v. v ++ under) there))
  lifted_goes (at n k ∷ below) b under (inr e) =
      inr (e.0, ap (λ v. v ++ under) e.1, λ none. e.2 (first_none below none))
    where
      first_none : (below : List Dot) → below ++ under ≡ [] → below ≡ []
      first_none [] none = refl
      first_none (r ∷ below) none = absurd (cc none)

  goes_somewhere : (a : List Dot) {b : List Dot} → WalkGoes tables a b → b ≡ [] → ⊥
  goes_somewhere [] g none = absurd g
  goes_somewhere (at n k ∷ below) (inl (enters is is_false begun)) none = let there = begun.is in cc (none, there)
  goes_somewhere (at n k ∷ below) (inl (passes is is_true some there)) none = cc (none, there)
  goes_somewhere (at n k ∷ below) (inr e) none = e.2 (sym e.1 ∙ none)

  led_some : {from : List Dot → Type 0} {a : List Dot} → ((b : List Dot) → from b → b ≡ [] → ⊥)
      → LedBy (WalkGoes tables) from a → a ≡ [] → ⊥
  led_some some (here {stack = a} h) none = some a h none
  led_some some (on {stack = stack} h g) none = goes_somewhere stack g none

  -- one of them is a dotted rule alone whose node is done
  abbrev pub EndsSome : (List Dot → Type 0) → Type 0
  EndsSome from = (stack : List Dot) × LedBy (WalkGoes tables) from stack × EndsAlone tables stack

  -- stacks over what is below
  module _ (tops : List Dot → Type 0) (under : List Dot) (some : (b : List Dot) → tops b → b ≡ [] → ⊥) where
    abbrev pub IsOver : List Dot → Type 0
    IsOver a = Lifted (LedBy (WalkGoes tables) tops) under a
        ⊎ (EndsSome tops × LedBy (WalkGoes tables) (λ v. under ≡ v) a)

    split_goes : (n k : ℕ) (top : List Dot) {b : List Dot} → LedBy (WalkGoes tables) tops (at n k ∷ top)
        → WalkGoes tables (at n k ∷ (top ++ under)) b → IsOver b
    split_goes n k top h (inl (enters {s = s} {next = next} is is_false begun)) =
        inl (record {
          top = at s begun.step ∷ after tables n next top;
          is = on h (inl (enters is is_false (record { step = begun.step; begins = begun.begins; is = refl })));
          stack_is = begun.is ∙ ap (λ v. at s begun.step ∷ v) (sym (after_on n next top under));
        })
    split_goes n k top h (inl (passes {next = next} is is_true null there)) =
        inl (record { top = at n next ∷ top; is = on h (inl (passes is is_true null refl)); stack_is = there })
    split_goes n k [] h (inr e) = inr ((at n k ∷ [], h, (e.0, refl)), here (sym e.1))
    split_goes n k (t ∷ top) h (inr e) =
        inl (record { top = t ∷ top; is = on h (inr (e.0, refl, λ none. cc none)); stack_is = e.1 })

    over_goes : {a b : List Dot} → IsOver a → WalkGoes tables a b → IsOver b
    over_goes {a = a} {b = b} (inl g) m = by g.top g.is g.stack_is
      where
        by : (top : List Dot) → LedBy (WalkGoes tables) tops top → a ≡ top ++ under → IsOver b
        by [] h same = absurd (led_some some h refl)
        by (at n k ∷ top) h same = split_goes n k top h (subst (λ v. WalkGoes tables v b) same m)
    over_goes (inr g) m = inr (g.0, on g.1 m)

    pub led_over : {a : List Dot} → LedBy (WalkGoes tables) (Lifted tops under) a → IsOver a
    led_over (here g) = inl (record { top = g.top; is = here g.is; stack_is = g.stack_is })
    led_over (on h g) = over_goes (led_over h) g

    all_lifted : {a : List Dot} → LedBy (WalkGoes tables) tops a
        → LedBy (WalkGoes tables) (Lifted tops under) (a ++ under)
    all_lifted (here {stack = a} h) = here (record { top = a; is = h; stack_is = refl })
    all_lifted (on {stack = stack} {next = next} h g) = on (all_lifted h) (lifted_goes stack next under g)

    past_end : (stack : List Dot) → LedBy (WalkGoes tables) tops stack → EndsAlone tables stack
        → (under ≡ [] → ⊥) → LedBy (WalkGoes tables) (Lifted tops under) under
    past_end [] h e full = absurd e
    past_end (at n k ∷ below) h e full =
        on (subst (λ v. LedBy (WalkGoes tables) (Lifted tops under) ((at n k ∷ v) ++ under)) e.1 (all_lifted h))
        (inr (e.0, refl, full))

    nothing_led : {a : List Dot} → LedBy (WalkGoes tables) (λ v. under ≡ v) a → under ≡ [] → a ≡ []
    nothing_led (here h) none = sym h ∙ none
    nothing_led (on {stack = stack} {next = next} h g) none =
        absurd (subst (λ v. WalkGoes tables v next) (nothing_led h none) g)

    led_by_all : {from : List Dot → Type 0} → ((b : List Dot) → from b → LedBy (WalkGoes tables) (Lifted tops under) b)
        → {a : List Dot} → LedBy (WalkGoes tables) from a → LedBy (WalkGoes tables) (Lifted tops under) a
    led_by_all all (here {stack = a} h) = all a h
    led_by_all all (on h g) = on (led_by_all all h) g

    pub over_led : {a : List Dot} → (a ≡ [] → ⊥) → IsOver a → LedBy (WalkGoes tables) (Lifted tops under) a
    over_led {a = a} full (inl g) =
        subst (λ v. LedBy (WalkGoes tables) (Lifted tops under) v) (sym g.stack_is) (all_lifted g.is)
    over_led {a = a} full (inr g) = led_by_all (λ b same. subst (λ v. LedBy (WalkGoes tables) (Lifted tops under) v)
        same
        (past_end g.0.0 g.0.1 g.0.2 (λ none. full (nothing_led g.1 none)))) g.1

    -- the parts over what is below
    pub split_parts : {s : DottedRule} → IsPartOnTop tables (LedBy (WalkGoes tables) (Lifted tops under)) s
        → IsPartOnTop tables (LedBy (WalkGoes tables) tops) s
        ⊎ (EndsSome tops × IsPartOnTop tables (LedBy (WalkGoes tables) (λ v. under ≡ v)) s)
    split_parts {s = s} p = by (led_over p.is)
      where
        of_top : (top : List Dot) → LedBy (WalkGoes tables) tops top → at p.node p.step ∷ p.below ≡ top ++ under
            → IsPartOnTop tables (LedBy (WalkGoes tables) tops) s
        of_top [] h same = absurd (led_some some h refl)
        of_top (q ∷ top) h same =
            let one : q ≡ at p.node p.step = cc same in
            record {
              node = p.node;
              step = p.step;
              below = top;
              is = subst (λ v. LedBy (WalkGoes tables) tops (v ∷ top)) one h;
              part = p.part;
            }

        by : IsOver (at p.node p.step ∷ p.below) → IsPartOnTop tables (LedBy (WalkGoes tables) tops) s
            ⊎ (EndsSome tops × IsPartOnTop tables (LedBy (WalkGoes tables) (λ v. under ≡ v)) s)
        by (inl g) = inl (of_top g.top g.is g.stack_is)
        by (inr g) =
            inr (g.0, record { node = p.node; step = p.step; below = p.below; is = g.1; part = p.part })

    pub top_part : {s : DottedRule} → IsPartOnTop tables (LedBy (WalkGoes tables) tops) s
        → IsPartOnTop tables (LedBy (WalkGoes tables) (Lifted tops under)) s
    top_part p = record {
      node = p.node;
      step = p.step;
      below = p.below ++ under;
      is = all_lifted p.is;
      part = p.part;
    }

    pub under_part : {s : DottedRule} → EndsSome tops → IsPartOnTop tables (LedBy (WalkGoes tables) (λ v. under ≡ v)) s
        → IsPartOnTop tables (LedBy (WalkGoes tables) (Lifted tops under)) s
    under_part e p = record {
      node = p.node;
      step = p.step;
      below = p.below;
      is = over_led (λ none. cc none) (inr (e, p.is));
      part = p.part;
    }

  -- nothing has no part
  pub nothing_has : {s : DottedRule} → IsPartOnTop tables (LedBy (WalkGoes tables) (λ v. [] ≡ v)) s → ⊥
  nothing_has p = let none = by p.is in cc none
    where
      by : {a : List Dot} → LedBy (WalkGoes tables) (λ v. [] ≡ v) a → a ≡ []
      by (here h) = sym h
      by (on {stack = stack} {next = next} h g) = absurd (subst (λ v. WalkGoes tables v next) (by h) g)

-- what one walk adds
module _ (tables : code_flat.Tables) (first conts : List Cont) (given ids : List ℕ) (ended : Bool)
    (walked : IsWalked tables first given conts ids ended) where
  pub walk_ends : (ended ≡ true) ↔ EndsSome tables (IsStackOf first given)
  walk_ends = (
    λ h. let e = walked.ended_is.0 h in (e.0, (walked.stacks e.0).0 e.1, e.2),
    λ h. walked.ended_is.1 (h.0, (walked.stacks h.0).1 h.1, h.2),
  )

  pub walk_parts : {s : DottedRule} → IsPartOnTop tables (IsStackOf conts ids) s
      ↔ IsPartOnTop tables (LedBy (WalkGoes tables) (IsStackOf first given)) s
  walk_parts = (λ p. parts_more (λ a h. (walked.stacks a).0 h) p, λ p. parts_more (λ a h. (walked.stacks a).1 h) p)

-- how far a walk down suffixes has come: so many of them are left
pub record IsDown (tables : code_flat.Tables) (first : List Cont) (given suffixes : List ℕ) (before : List DottedRule)
    (conts : List Cont) (ids : List ℕ) (left : ℕ) (parts : List DottedRule) : Type 0 where
  pub kept : AreKept first conts
  pub within : (id : ℕ) → Contains ids id → (0 < id) × (id ≤ length conts)
  pub most : left ≤ length suffixes
  pub found : (s : DottedRule) → In s parts → In s before ⊎ IsPartOnTop tables
      (IsWalkedOver tables first given suffixes) s
  pub rest : (s : DottedRule) → In s before ⊎ IsPartOnTop tables (IsWalkedOver tables first given suffixes) s
      → In s parts ⊎ IsPartOnTop tables (IsWalkedOver tables conts ids (take left suffixes)) s
  pub back : (s : DottedRule) → IsPartOnTop tables (IsWalkedOver tables conts ids (take left suffixes)) s
      → IsPartOnTop tables (IsWalkedOver tables first given suffixes) s

take_all : (xs : List ℕ) (n : ℕ) → n ≡ length xs → take n xs ≡ xs
take_all [] n is = grind (arith, is)
take_all (x ∷ xs) n is = subst (λ v. take v (x ∷ xs) ≡ x ∷ xs) (sym is) (ap (λ v. x ∷ v) (take_all xs (length xs) refl))

take_more : (xs : List ℕ) (k n : ℕ) {x : ℕ} → n ≡ k + 1 → slice_get xs k ≡ Some x → take n xs ≡ take k xs ++ x ∷ []
take_more [] k n is there = absurd (cc there)
take_more (y ∷ xs) zero n {x = x} is there =
    let one : y ≡ x = cc there in subst (λ v. take v (y ∷ xs) ≡ x ∷ []) (sym is) (ap (λ v. v ∷ []) one)
take_more (y ∷ xs) (suc k) n {x = x} is there =
    let next : suc (k + 1) ≡ n = omega (arith, is) in
    subst (λ v. take v (y ∷ xs) ≡ y ∷ (take k xs ++ x ∷ [])) next
    (ap (λ v. y ∷ v) (take_more xs k (k + 1) refl there))

take_contains : (xs : List ℕ) (k p : ℕ) → Contains (take k xs) p → Contains xs p
take_contains xs zero p h = absurd (let lt = h.1 in omega (arith, lt))
take_contains [] (suc k) p h = h
take_contains (x ∷ xs) (suc k) p (zero, lt, is) = (0, omega arith, is)
take_contains (x ∷ xs) (suc k) p (suc j, lt, is) =
    let h = take_contains xs k p (j, omega (arith, lt), is) in (suc h.0, (let lt = h.1 in omega (arith, lt)), h.2)

stacks_some : (conts : List Cont) (ids : List ℕ) → AreOlder conts → ((id : ℕ) → Contains ids id → (0 < id)
    × (id ≤ length conts)) → (b : List Dot) → IsStackOf conts ids b → b ≡ [] → ⊥
stacks_some conts ids older within b h none =
    let w = within h.id h.stands in some_stack conts h.id older w.0 w.1 (sym h.is ∙ none)

module _ (tables : code_flat.Tables) (first : List Cont) (given suffixes : List ℕ) (before : List DottedRule) where
  pub down_begins : (left : ℕ) → left ≡ length suffixes → ((id : ℕ) → Contains given id → (0 < id)
      × (id ≤ length first)) → IsDown tables first given suffixes before first given left before
  down_begins left is within =
      let all = take_all suffixes left is in
      record {
        kept = kept_same first;
        within = within;
        most = omega (arith, is);
        found = λ s h. inl h;
        rest = λ s h. subst (λ v. In s before ⊎ IsPartOnTop tables (IsWalkedOver tables first given v) s) (sym all) h;
        back = λ s p. subst (λ v. IsPartOnTop tables (IsWalkedOver tables first given v) s) all p;
      }

  -- one walk, and its parts
  module _ (conts new : List Cont) (ids more : List ℕ) (left : ℕ) (parts added : List DottedRule) (ended : Bool)
      (older : AreOlder first) (down : IsDown tables first given suffixes before conts ids left parts)
      (kept : AreKept conts new) (walked : IsWalked tables conts ids new more ended)
      (adds : AddsParts tables (IsStackOf new more) parts added) where
    older_now : AreOlder conts
    older_now = down.kept.older older

    tops_some : (b : List Dot) → IsStackOf conts ids b → b ≡ [] → ⊥
    tops_some = stacks_some conts ids older_now down.within

    abbrev under : List Dot
    under = below_of conts (take left suffixes)

    over_found : (s : DottedRule) → In s added → In s before ⊎ IsPartOnTop tables
        (IsWalkedOver tables first given suffixes) s
    over_found s h = by ((adds s).0 h)
      where
        by : In s parts ⊎ IsPartOnTop tables (IsStackOf new more) s → In s before ⊎ IsPartOnTop tables
            (IsWalkedOver tables first given suffixes) s
        by (inl earlier) = down.found s earlier
        by (inr p) = inr (down.back s (top_part tables (IsStackOf conts ids) under tops_some
            ((walk_parts tables conts new ids more ended walked).0 p)))

    earlier_found : (s : DottedRule) → In s parts → In s added
    earlier_found s h = (adds s).1 (inl h)

    top_found : (s : DottedRule) → IsPartOnTop tables (LedBy (WalkGoes tables) (IsStackOf conts ids)) s → In s added
    top_found s p = (adds s).1 (inr ((walk_parts tables conts new ids more ended walked).1 p))

    -- all parts are found, if nothing follows below
    pub down_done : ((s : DottedRule) → EndsSome tables (IsStackOf conts ids) → IsPartOnTop tables
        (LedBy (WalkGoes tables) (λ v. below_of conts (take left suffixes) ≡ v)) s → ⊥)
        → AddsParts tables (IsWalkedOver tables first given suffixes) before added
    down_done none = λ s. (over_found s, λ h. last s (down.rest s h))
      where
        which : (s : DottedRule) → IsPartOnTop tables (LedBy (WalkGoes tables) (IsStackOf conts ids)) s
            ⊎ (EndsSome tables (IsStackOf conts ids) × IsPartOnTop tables (LedBy (WalkGoes tables) (λ v. under ≡ v)) s)
            → In s added
        which s (inl p) = top_found s p
        which s (inr e) = absurd (none s e.0 e.1)

        last : (s : DottedRule) → In s parts ⊎ IsPartOnTop tables (IsWalkedOver tables conts ids (take left suffixes)) s
            → In s added
        last s (inl h) = earlier_found s h
        last s (inr p) = which s (split_parts tables (IsStackOf conts ids) under tops_some p)

    pub not_ended : ended ≡ false → AddsParts tables (IsWalkedOver tables first given suffixes) before added
    not_ended is_false = down_done (λ s e p. let is_true = (walk_ends tables conts new ids more ended walked).1 e in
        cc (is_true, is_false))

    pub none_left : left ≡ 0 → AddsParts tables (IsWalkedOver tables first given suffixes) before added
    none_left none = down_done (λ s e p. nothing_has tables
        (subst (λ v. IsPartOnTop tables (LedBy (WalkGoes tables) (λ w. below_of conts v ≡ w)) s)
        (subst (λ v. take v suffixes ≡ []) (sym none) refl) p))

    -- a suffix below what has ended
    module _ (down_to suffix : ℕ) (next : List ℕ) (is_ended : ended ≡ true) (left_is : left ≡ down_to + 1)
        (suffix_is : slice_get suffixes down_to ≡ Some suffix) (empty : List ℕ) (is_empty : empty ≡ [])
        (one : IsAdded empty next suffix) (are : AreSuffixes first suffixes) where
      only_suffix : (id : ℕ) → Contains next id → id ≡ suffix
      only_suffix id h = one.only id (subst (λ v. Contains v id) (one.grown ∙ ap (λ v. v ++ one.added) is_empty) h)

      suffix_at : (suffix ≤ length first) × (stack_of first suffix ≡ [] → ⊥)
      suffix_at = are suffix (contains_at suffixes down_to suffix suffix_is)

      abbrev older_suffixes : List ℕ
      older_suffixes = take down_to suffixes

      suffixes_now : AreSuffixes conts older_suffixes
      suffixes_now p h = suffixes_kept first conts down.kept suffixes are p (take_contains suffixes down_to p h)

      same_new : stack_of new suffix ≡ stack_of first suffix
      same_new = kept_stack first new (kept_both first conts new down.kept kept) suffix suffix_at.0

      same_now : stack_of conts suffix ≡ stack_of first suffix
      same_now = kept_stack first conts down.kept suffix suffix_at.0

      under_is : below_of conts (take left suffixes) ≡ stack_of new suffix ++ below_of new older_suffixes
      under_is =
          ap (λ v. below_of conts v) (take_more suffixes down_to left left_is suffix_is)
          ∙ (below_end conts older_suffixes suffix []
          ∙ (ap (λ v. v ++ below_of conts older_suffixes) (same_now ∙ sym same_new)
          ∙ ap (λ v. stack_of new suffix ++ v) (sym (below_kept conts new kept older_suffixes suffixes_now))))

      to_next : (a : List Dot) → below_of conts (take left suffixes) ≡ a
          → Lifted (IsStackOf new next) (below_of new older_suffixes) a
      to_next a same = record {
        top = stack_of new suffix;
        is = record { id = suffix; stands = one.has; is = refl };
        stack_is = sym same ∙ under_is;
      }

      from_next : (a : List Dot) → Lifted (IsStackOf new next) (below_of new older_suffixes) a
          → below_of conts (take left suffixes) ≡ a
      from_next a g =
          let top : g.top ≡ stack_of new suffix =
          g.is.is ∙ ap (λ v. stack_of new v) (only_suffix g.is.id g.is.stands) in
          under_is ∙ (ap (λ v. v ++ below_of new older_suffixes) (sym top) ∙ sym g.stack_is)

      suffix_some : (k : ℕ) → k ≡ suffix → 0 < suffix
      suffix_some zero none = absurd (suffix_at.1 (stack_none first suffix (sym none)))
      suffix_some (suc k) some_is = omega (arith, some_is)

      pub goes_down : IsDown tables first given suffixes before new next down_to added
      goes_down = record {
        kept = kept_both first conts new down.kept kept;
        within = λ id h.
            let same = only_suffix id h in
            let lt = suffix_some suffix refl in
            let le = kept_within first new (kept_both first conts new down.kept kept) suffix suffix_at.0 in
            (omega (arith, same, lt), omega (arith, same, le));
        most = let le = down.most in omega (arith, le, left_is);
        found = over_found;
        rest = λ s h. after s (down.rest s h);
        back = λ s p. down.back s (under_part tables (IsStackOf conts ids) under tops_some
            ((walk_ends tables conts new ids more ended walked).0 is_ended)
            (parts_more (λ a h. led_more from_next h) p));
      }
        where
          which : (s : DottedRule) → IsPartOnTop tables (LedBy (WalkGoes tables) (IsStackOf conts ids)) s
              ⊎ (EndsSome tables (IsStackOf conts ids) × IsPartOnTop tables
              (LedBy (WalkGoes tables) (λ v. under ≡ v)) s)
              → In s added ⊎ IsPartOnTop tables (IsWalkedOver tables new next older_suffixes) s
          which s (inl p) = inl (top_found s p)
          which s (inr e) = inr (parts_more (λ a h. led_more to_next h) e.1)

          after : (s : DottedRule) → In s parts ⊎ IsPartOnTop tables
              (IsWalkedOver tables conts ids (take left suffixes)) s
              → In s added ⊎ IsPartOnTop tables (IsWalkedOver tables new next older_suffixes) s
          after s (inl h) = inl (earlier_found s h)
          after s (inr p) = which s (split_parts tables (IsStackOf conts ids) under tops_some p)
