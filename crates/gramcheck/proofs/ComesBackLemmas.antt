-- A rule comes back exactly where a node of its name does, and each chain of steps that comes back passes such a node.
-- Serves: check_peg (notes, ranked)
use Rattle.std.proofs.Common.{◌≡◌, ℕ, ◌<◌, Bool, true, false, cond, List, [], ◌∷◌, length, replicate, get_or, Contains}
use Rattle.std.proofs.Common.{refl, sym, ap, subst, arith, ⊎_elim, inl, inr, ◌⊎◌, ◌∙◌, Some, option_to_list}
use Rattle.std.specs.Prelude.{slice_get}
use Rattle.std.proofs.lemmas.List.{length-map, length-replicate}
use Rattle.std.proofs.lemmas.Option.{slice_get_within}
use Rattle.pegnodes.specs.Bodies.{IsBuilt, IsOperand}
use Rattle.fixpoint.specs.NumberMarks.{IsMarked, AreBelow}
use Rattle.pegnodes.specs.Nodes as node
use Rattle.pegnodes.specs.Nodes.{Shape}
use Rattle.gramcheck.specs.NodeRows.{front, steps_of, step_rows, AreNameSteps, ComesBack, AreComingBack, MarksNames}
use Rattle.fixpoint.specs.Leads.{Leads, one, more, AreCycleMarks}
use Rattle.fixpoint.specs.StepRows.{Step, AreStepsWithin}
use Rattle.fixpoint.proofs.IsMarkedLemmas.{none_set}
use Rattle.fixpoint.proofs.LeadsLemmas.{leads_joined}
use Rattle.fixpoint.proofs.IterationsLemmas.{row_within}
use Rattle.fixpoint.proofs.ContainsLemmas.{none_of, only_one, in_first, in_later, cons_cases, in_get}
use Rattle.pegnodes.proofs.BodyOfLemmas.{name_body}
use Rattle.gramcheck.proofs.LeftStepLemmas.{step_at, step_from, step_node}

further_within : (nulls : List Bool) (m : ℕ) (ns : List ℕ) (v : Bool) → (Contains (front nulls ns) m → Contains ns m) →
    Contains (cond v (front nulls ns) []) m → Contains ns m
further_within nulls m ns true f k = f k
further_within nulls m ns false f k = absurd (none_of m k)

pub front_within : (nulls : List Bool) (m : ℕ) (ms : List ℕ) → Contains (front nulls ms) m → Contains ms m
front_within nulls m [] h = h
front_within nulls m (n ∷ ms) h =
    ⊎_elim (λ is. subst (λ v. Contains (n ∷ ms) v) is (in_first n ms))
    (λ k. in_later n m ms (further_within nulls m ms (get_or nulls n false) (λ j. front_within nulls m ms j) k))
    (cons_cases n m _ h)

-- a step leads to an operand, or from a name to its body
pub record IsName (bodies : List ℕ) (a : Shape) (m : ℕ) : Type 0 where
  pub id : ℕ
  pub named : a ≡ node.Name id
  pub body : slice_get bodies id ≡ Some m

step_kinds : (bodies : List ℕ) (nulls : List Bool) (a : Shape) (m : ℕ) → Contains (steps_of bodies nulls a) m →
    IsOperand a m ⊎ IsName bodies a m
step_kinds bodies nulls node.Any m h = absurd (none_of m h)
step_kinds bodies nulls (node.Bytes bs) m h = absurd (none_of m h)
step_kinds bodies nulls (node.Set s) m h = absurd (none_of m h)
step_kinds bodies nulls (node.Name id) m h = inr (record { id = id; named = refl; body = name_body bodies id m h })
step_kinds bodies nulls (node.Seq ms) m h = inl (front_within nulls m ms h)
step_kinds bodies nulls (node.Choice ms) m h = inl h
step_kinds bodies nulls (node.Star k) m h = inl (sym (only_one k m h))
step_kinds bodies nulls (node.Plus k i) m h = inl (sym (only_one k m h))
step_kinds bodies nulls (node.Opt k) m h = inl (sym (only_one k m h))
step_kinds bodies nulls (node.And k) m h = inl (sym (only_one k m h))
step_kinds bodies nulls (node.Not k) m h = inl (sym (only_one k m h))
step_kinds bodies nulls (node.Act t) m h = absurd (none_of m h)
step_kinds bodies nulls node.Open m h = absurd (none_of m h)
step_kinds bodies nulls node.Close m h = absurd (none_of m h)

module _ (bodies : List ℕ) (nulls : List Bool) (nodes : List Shape) (built : IsBuilt nodes) where
  -- a step leads lower, or from a name to its body
  record IsNamed (n m : ℕ) : Type 0 where
    pub id : ℕ
    pub named : slice_get nodes n ≡ Some (node.Name id)
    pub body : slice_get bodies id ≡ Some m

  step_down : (n m : ℕ) → Step (step_rows bodies nulls nodes) n m → (m < n) ⊎ IsNamed n m
  step_down n m h =
      let s = step_node bodies nulls nodes n m h in
      ⊎_elim
      (λ operand. inl (built.after n m s.0 s.1 operand))
      (λ name. inr (record {
        id = name.id;
        named = subst (λ v. slice_get nodes n ≡ Some v) name.named s.1;
        body = name.body;
      }))
      (step_kinds bodies nulls s.0 m (step_from bodies nulls nodes n m s.0 s.1 h))

  pub step_within : (count : ℕ) → count ≡ length nodes → AreBelow bodies count →
      AreStepsWithin (step_rows bodies nulls nodes)
  step_within count is below = record {
    within = λ n m h.
        let l = length-map nodes (steps_of bodies nulls) in
        let low = row_within (step_rows bodies nulls nodes) n m h in
        ⊎_elim
        (λ lt. omega (arith, lt, low, l))
        (λ name. let lt = below m (in_get bodies name.id m name.body) in omega (arith, lt, l, is))
        (step_down n m h);
  }

  -- a name on a chain that leads no lower
  record Passes (n m : ℕ) : Type 0 where
    pub name : ℕ
    pub body : ℕ
    pub is_name : IsNamed name body
    pub before : (name ≡ n) ⊎ Leads (step_rows bodies nulls nodes) n name
    pub after : (body ≡ m) ⊎ Leads (step_rows bodies nulls nodes) body m

  chain_passes : (n m : ℕ) → Leads (step_rows bodies nulls nodes) n m → (m < n) ⊎ Passes n m
  chain_passes n m (one h) = ⊎_elim (λ lt. inl lt)
      (λ is. inr (record { name = n; body = m; is_name = is; before = inl refl; after = inl refl })) (step_down n m h)
  chain_passes n m (more {n = j} d h) = ⊎_elim
      (λ lt. ⊎_elim
      (λ lower. inl (omega (arith, lt, lower)))
      (λ is. inr (record { name = j; body = m; is_name = is; before = inr d; after = inl refl }))
      (step_down j m h))
      (λ p. inr (record {
        name = p.name;
        body = p.body;
        is_name = p.is_name;
        before = p.before;
        after = ⊎_elim (λ is. inr (one (subst (λ v. Step (step_rows bodies nulls nodes) v m) (sym is) h)))
            (λ e. inr (more e h)) p.after;
      }))
      (chain_passes n j d)

  pub chain_iterations : (n : ℕ) → Leads (step_rows bodies nulls nodes) n n →
      (id : ℕ) × ComesBack (step_rows bodies nulls nodes) nodes bodies id
  chain_iterations n d = ⊎_elim
      (λ lt. absurd (omega (arith, lt)))
      (λ p.
      let back = ⊎_elim
      (λ is. ⊎_elim
      (λ here. subst (λ v. Leads (step_rows bodies nulls nodes) p.body v) (sym here)
      (subst (λ v. Leads (step_rows bodies nulls nodes) v n) (sym is) d))
      (λ before. subst (λ v. Leads (step_rows bodies nulls nodes) v p.name) (sym is) before)
      p.before)
      (λ after. ⊎_elim
      (λ here. subst (λ v. Leads (step_rows bodies nulls nodes) p.body v) (sym here) after)
      (λ before. leads_joined (step_rows bodies nulls nodes) after before)
      p.before)
      p.after in (
        p.is_name.id,
        record {
          body = p.body;
          name = p.name;
          starts = p.is_name.body;
          named = p.is_name.named;
          leads = back;
        },
      ))
      (chain_passes n n d)

-- from a name steps lead to its rule's body alone
pub name_steps : (bodies : List ℕ) (nulls : List Bool) (nodes : List Shape) →
    AreNameSteps (step_rows bodies nulls nodes) nodes bodies
name_steps bodies nulls nodes = record {
  step = λ id n m at starts. step_at bodies nulls nodes n m (node.Name id) at
      (subst (λ o. Contains (option_to_list o) m) (sym starts) (in_first m []));
  only = λ id n m at step. name_body bodies id m (step_from bodies nulls nodes n m (node.Name id) at step);
}

module _ (rows : List (List ℕ)) where
  -- the first step of a chain
  first_step : {n k : ℕ} → Leads rows n k → (m : ℕ) × Step rows n m × ((m ≡ k) ⊎ Leads rows m k)
  first_step (one {m = m} step) = (m, step, inl refl)
  first_step (more {n = j} {m = k} chain step) =
      let f = first_step chain in
      (f.0, f.1, inr (⊎_elim (λ is. one (subst (λ v. Step rows v k) (sym is) step)) (λ leads. more leads step) f.2))

  module _ (nodes : List Shape) (bodies : List ℕ) (a : AreNameSteps rows nodes bodies) where
    back_of : (id n : ℕ) → slice_get nodes n ≡ Some (node.Name id) → Leads rows n n → ComesBack rows nodes bodies id
    back_of id n at leads =
        let f = first_step leads in
        record {
          body = f.0;
          name = n;
          starts = a.only id n f.0 at f.1;
          named = at;
          leads = ⊎_elim (λ is. subst (λ v. Leads rows v n) (sym is) leads) (λ rest. rest) f.2;
        }

    name_back : (id : ℕ) (c : ComesBack rows nodes bodies id) → Leads rows c.name c.name
    name_back id c = leads_joined rows (one (a.step id c.name c.body c.named c.starts)) c.leads

    pub coming_back : (count : ℕ) (size : ℕ) (marks fresh found : List Bool) → length bodies ≡ count →
        length nodes ≡ size → fresh ≡ replicate count false → AreCycleMarks rows marks →
        MarksNames nodes size marks fresh found →
        AreComingBack rows nodes bodies found
    coming_back count size marks fresh found same is empty c m = record {
      count = m.count ∙ (ap length empty ∙ (length-replicate count false ∙ sym same));
      marks = λ id. (
        (λ h. ⊎_elim
            (λ old. absurd (none_set count id (subst (λ v. IsMarked v id) empty old)))
            (λ new. back_of id new.0 new.2 ((c new.0).0 new.1))
            (m.only id h)),
        (λ b.
            let lt = slice_get_within nodes b.name (node.Name id) b.named in
            let low = slice_get_within bodies id b.body b.starts in
            let l = ap length empty ∙ length-replicate count false in
            m.all b.name id (omega (arith, lt, is)) ((c b.name).1 (name_back id b)) b.named
            (omega (arith, low, l, same))),
      );
    }
