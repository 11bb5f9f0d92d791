-- The parts on top of the stacks of ids.
-- Serves: awaited.
use Rattle.std.proofs.Common.{◌≡◌, ◌⊎◌, inl, inr, ◌↔◌, ℕ, ◌+◌, ◌<◌, ◌≤◌, List, [], ◌∷◌, ◌++◌, length, sym, ◌∙◌, ap}
use Rattle.std.proofs.Common.{subst, arith}
use Rattle.std.proofs.lemmas.Bool.{cases_lt}
use Rattle.std.proofs.lemmas.Option.{slice_get_within}
use Rattle.std.specs.Prelude.{slice_get, Option, Some}
use Rattle.flatgrammar.specs.Flat.{Dot, at}
use Rattle.flatgrammar.specs.CalledParts.{IsPartOf}
use Rattle.flatgrammar.specs.Positions.{In}
use Rattle.flatgrammar.specs.declared.closure.DottedRule.{DottedRule}
use Rattle.flatgrammar.specs.declared.tables.Tables as code_flat
use Rattle.flatgrammar.proofs.InLemmas.{at_end, before_end, in_left}
use Rattle.lazydfa.specs.declared.conts.Cont.{Cont}
use Rattle.lazydfa.specs.Conts.{stack_of, IsStackOf}
use Rattle.lazydfa.specs.NameWalks.{AddsParts, IsPartOnTop}
use Rattle.lazydfa.proofs.ContsLemmas.{stack_none}
use Rattle.lazydfa.proofs.IsClosureLemmas.{contains_at, stands_at}

-- the stack of one of the first so many ids
pub record IsFirstStack (conts : List Cont) (ids : List ℕ) (count : ℕ) (stack : List Dot) : Type 0 where
  pub position : ℕ
  pub before : position < count
  pub id : ℕ
  pub stands : slice_get ids position ≡ Some id
  pub is : stack ≡ stack_of conts id

module _ (tables : code_flat.Tables) (conts : List Cont) (ids : List ℕ) (old : List DottedRule) where
  pub no_parts : AddsParts tables (IsFirstStack conts ids 0) old old
  no_parts s = (λ h. inl h, λ h. by h)
    where
      by : In s old ⊎ IsPartOnTop tables (IsFirstStack conts ids 0) s → In s old
      by (inl h) = h
      by (inr p) = absurd (let lt = p.is.before in omega (arith, lt))

  pub all_parts : (count : ℕ) (new : List DottedRule) → length ids ≤ count
      → AddsParts tables (IsFirstStack conts ids count) old new → AddsParts tables (IsStackOf conts ids) old new
  all_parts count new le adds s = (λ h. to ((adds s).0 h), λ h. (adds s).1 (back h))
    where
      to : In s old ⊎ IsPartOnTop tables (IsFirstStack conts ids count) s
          → In s old ⊎ IsPartOnTop tables (IsStackOf conts ids) s
      to (inl h) = inl h
      to (inr p) = inr (record {
        node = p.node;
        step = p.step;
        below = p.below;
        is = record { id = p.is.id; stands = contains_at ids p.is.position p.is.id p.is.stands; is = p.is.is };
        part = p.part;
      })

      back : In s old ⊎ IsPartOnTop tables (IsStackOf conts ids) s
          → In s old ⊎ IsPartOnTop tables (IsFirstStack conts ids count) s
      back (inl h) = inl h
      back (inr p) =
          let t = stands_at ids p.is.id p.is.stands in
          inr (record {
            node = p.node;
            step = p.step;
            below = p.below;
            is = record {
              position = t.position;
              before = (let w = slice_get_within ids t.position p.is.id t.is in omega (arith, w, le));
              id = p.is.id;
              stands = t.is;
              is = p.is.is;
            };
            part = p.part;
          })

  module _ (count id : ℕ) (parts new : List DottedRule) (stands : slice_get ids count ≡ Some id)
      (adds : AddsParts tables (IsFirstStack conts ids count) old parts) where
    wider_stack : {stack : List Dot} → IsFirstStack conts ids count stack → IsFirstStack conts ids (count + 1) stack
    wider_stack f = record {
      position = f.position;
      before = (let lt = f.before in omega (arith, lt));
      id = f.id;
      stands = f.stands;
      is = f.is;
    }

    there_or_before : {stack : List Dot} → IsFirstStack conts ids (count + 1) stack
        → IsFirstStack conts ids count stack ⊎ (stack ≡ stack_of conts id)
    there_or_before {stack = stack} f = by (cases_lt f.position count)
      where
        by : (f.position < count) ⊎ (count ≤ f.position) → IsFirstStack conts ids count stack
            ⊎ (stack ≡ stack_of conts id)
        by (inl lt) = inl (record { position = f.position; before = lt; id = f.id; stands = f.stands; is = f.is })
        by (inr le) =
            let here : f.position ≡ count = (let lt = f.before in omega (arith, lt, le)) in
            let both : Some f.id ≡ Some id =
            sym f.stands ∙ (ap (λ v. slice_get ids v) here ∙ stands) in
            let same : f.id ≡ id = cc both in
            inr (f.is ∙ ap (λ v. stack_of conts v) same)

    part_wider : {s : DottedRule} → IsPartOnTop tables (IsFirstStack conts ids count) s
        → IsPartOnTop tables (IsFirstStack conts ids (count + 1)) s
    part_wider p = record { node = p.node; step = p.step; below = p.below; is = wider_stack p.is; part = p.part }

    pub parts_passed : id ≡ 0 → new ≡ parts → AddsParts tables (IsFirstStack conts ids (count + 1)) old new
    parts_passed none same s = (
      λ h. to ((adds s).0 (subst (λ v. In s v) same h)),
      λ h. subst (λ v. In s v) (sym same) ((adds s).1 (back h)),
    )
      where
        to : In s old ⊎ IsPartOnTop tables (IsFirstStack conts ids count) s
            → In s old ⊎ IsPartOnTop tables (IsFirstStack conts ids (count + 1)) s
        to (inl h) = inl h
        to (inr p) = inr (part_wider p)

        which : (p : IsPartOnTop tables (IsFirstStack conts ids (count + 1)) s)
            → IsFirstStack conts ids count (at p.node p.step ∷ p.below)
            ⊎ (at p.node p.step ∷ p.below ≡ stack_of conts id)
            → In s old ⊎ IsPartOnTop tables (IsFirstStack conts ids count) s
        which p (inl f) =
            inr (record { node = p.node; step = p.step; below = p.below; is = f; part = p.part })
        which p (inr is) = absurd (let empty = stack_none conts id none in cc (is, empty))

        back : In s old ⊎ IsPartOnTop tables (IsFirstStack conts ids (count + 1)) s
            → In s old ⊎ IsPartOnTop tables (IsFirstStack conts ids count) s
        back (inl h) = inl h
        back (inr p) = which p (there_or_before p.is)

    pub parts_added : (n k : ℕ) (below : List Dot) → stack_of conts id ≡ at n k ∷ below
        → ((s : DottedRule) → In s new ↔ (In s parts ⊎ IsPartOf tables n k s))
        → AddsParts tables (IsFirstStack conts ids (count + 1)) old new
    parts_added n k below is more s = (λ h. to ((more s).0 h), λ h. (more s).1 (back h))
      where
        earlier : In s old ⊎ IsPartOnTop tables (IsFirstStack conts ids count) s
            → In s old ⊎ IsPartOnTop tables (IsFirstStack conts ids (count + 1)) s
        earlier (inl h) = inl h
        earlier (inr p) = inr (part_wider p)

        to : In s parts ⊎ IsPartOf tables n k s → In s old ⊎ IsPartOnTop tables (IsFirstStack conts ids (count + 1)) s
        to (inl h) = earlier ((adds s).0 h)
        to (inr p) = inr (record {
          node = n;
          step = k;
          below = below;
          is = record { position = count; before = omega arith; id = id; stands = stands; is = sym is };
          part = p;
        })

        which : (p : IsPartOnTop tables (IsFirstStack conts ids (count + 1)) s)
            → IsFirstStack conts ids count (at p.node p.step ∷ p.below)
            ⊎ (at p.node p.step ∷ p.below ≡ stack_of conts id) → In s parts ⊎ IsPartOf tables n k s
        which p (inl f) =
            inl ((adds s).1 (inr (record { node = p.node; step = p.step; below = p.below; is = f; part = p.part })))
        which p (inr there) =
            let both : at p.node p.step ∷ p.below ≡ at n k ∷ below = there ∙ is in
            let node : p.node ≡ n = cc both in
            let step : p.step ≡ k = cc both in
            inr (subst (λ v. IsPartOf tables v k s) node (subst (λ v. IsPartOf tables p.node v s) step p.part))

        back : In s old ⊎ IsPartOnTop tables (IsFirstStack conts ids (count + 1)) s
            → In s parts ⊎ IsPartOf tables n k s
        back (inl h) = inl ((adds s).1 (inl h))
        back (inr p) = which p (there_or_before p.is)

-- one part more
pub part_more : (tables : code_flat.Tables) (n k : ℕ) (old new : List DottedRule) (part : DottedRule)
    (found : Option DottedRule) → found ≡ Some part → ((s : DottedRule) → (found ≡ Some s) ↔ IsPartOf tables n k s)
    → new ≡ old ++ part ∷ [] → (s : DottedRule) → In s new ↔ (In s old ⊎ IsPartOf tables n k s)
part_more tables n k old new part found there are is s = (
  λ h. to (before_end s part old (subst (λ v. In s v) is h)),
  λ h. subst (λ v. In s v) (sym is) (back h),
)
  where
    first : {a b : DottedRule} → ◌≡◌ {A = Option DottedRule} (Some a) (Some b) → a ≡ b
    first h = cc h

    to : In s old ⊎ (s ≡ part) → In s old ⊎ IsPartOf tables n k s
    to (inl h) = inl h
    to (inr same) = inr ((are s).0 (there ∙ ap (λ v. Some v) (sym same)))

    back : In s old ⊎ IsPartOf tables n k s → In s (old ++ part ∷ [])
    back (inl h) = in_left (part ∷ []) h
    back (inr p) = subst (λ v. In v (old ++ part ∷ [])) (first (sym there ∙ (are s).1 p)) (at_end part old)
