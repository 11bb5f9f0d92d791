-- Left steps between nodes are left steps between the expressions that they spell.
-- Serves: check_peg (notes)
use Rattle.std.proofs.Common.{◌≡◌, ℕ, Bool, true, false, cond, List, [], ◌∷◌, get_or, Contains, refl, sym, subst}
use Rattle.std.proofs.Common.{⊎_elim, Some, option_to_list, arith}
use Rattle.std.specs.Prelude.{slice_get}
use Rattle.std.proofs.lemmas.List.{length-map}
use Rattle.std.proofs.lemmas.Option.{get_or_from_slice_get, slice_get-get_or}
use Rattle.pegread.specs.Pattern as e
use Rattle.pegread.specs.Pattern.{Pattern, Patterns, Rule, body_of}
use Rattle.pegnodes.specs.Bodies.{AreBodies}
use Rattle.gramcheck.specs.Left.{Among, among_first, among_later, Front, front_first, front_later, LeftStep, to_body}
use Rattle.gramcheck.specs.Left.{to_alternative, to_member, to_starred, to_repeated, to_optional, to_asserted}
use Rattle.gramcheck.specs.Left.{to_denied, LeftChain, one_step, more_steps}
use Rattle.pegnodes.specs.Nodes as node
use Rattle.pegnodes.specs.Nodes.{Shape, id_of, Spells, spells_any, spells_bytes, spells_set, spells_name, spells_seq}
use Rattle.pegnodes.specs.Nodes.{spells_choice, spells_star, spells_plus, spells_opt, spells_and, spells_not}
use Rattle.pegnodes.specs.Nodes.{spells_act, spells_open, spells_close, SpellAll, spell_none, spell_more}
use Rattle.gramcheck.specs.Nulls.{AreNullMarks}
use Rattle.gramcheck.specs.NodeRows.{front, steps_of, step_rows}
use Rattle.fixpoint.specs.Leads.{Leads, one, more}
use Rattle.fixpoint.specs.StepRows.{row_at, Step}
use Rattle.fixpoint.proofs.IterationsLemmas.{row_within}
use Rattle.fixpoint.proofs.ContainsLemmas.{none_of, only_one, in_first, in_later, cons_cases}
use Rattle.pegnodes.proofs.BodyOfLemmas.{said_here, name_body, body_node, node_body}

module _ (bodies : List ℕ) (nulls : List Bool) (nodes : List Shape) where
  row_here : (n : ℕ) (a : Shape) → slice_get nodes n ≡ Some a →
      row_at (step_rows bodies nulls nodes) n ≡ steps_of bodies nulls a
  row_here n a g =
      get_or_from_slice_get (step_rows bodies nulls nodes) n (steps_of bodies nulls a) []
      (said_here (steps_of bodies nulls) nodes n a g)

  pub step_at : (n m : ℕ) (a : Shape) → slice_get nodes n ≡ Some a → Contains (steps_of bodies nulls a) m →
      Step (step_rows bodies nulls nodes) n m
  step_at n m a g h = subst (λ v. Contains v m) (sym (row_here n a g)) h

  pub step_from : (n m : ℕ) (a : Shape) → slice_get nodes n ≡ Some a → Step (step_rows bodies nulls nodes) n m →
      Contains (steps_of bodies nulls a) m
  step_from n m a g h = subst (λ v. Contains v m) (row_here n a g) h

  -- the node from which a step leads
  pub step_node : (n m : ℕ) → Step (step_rows bodies nulls nodes) n m → (a : Shape) × (slice_get nodes n ≡ Some a)
  step_node n m h =
      let lt = row_within (step_rows bodies nulls nodes) n m h in
      let l = length-map nodes (steps_of bodies nulls) in
      (get_or nodes n node.Any, slice_get-get_or nodes n node.Any (omega (arith, lt, l)))

module _ (rules : List Rule) (nodes : List Shape) (bodies : List ℕ) (nulls : List Bool)
    (are : AreBodies rules nodes bodies) (marked : AreNullMarks rules nodes nulls) where
  -- one that a step leads to spells what a left step leads to
  pub record Meets (n : ℕ) (q : Pattern) : Type 0 where
    pub node : ℕ
    pub step : Step (step_rows bodies nulls nodes) n node
    pub spells : Spells rules nodes node q

  record Has (ms : List ℕ) (q : Pattern) : Type 0 where
    pub node : ℕ
    pub within : Contains ms node
    pub spells : Spells rules nodes node q

  among_has : {ps : Patterns} {q : Pattern} → Among rules ps q → (ms : List ℕ) → SpellAll rules nodes ms ps → Has ms q
  among_has among_first ms (spell_more {n = n} {ns = ns} s ss) = record { node = n; within = in_first n ns; spells = s }
  among_has (among_later a) ms (spell_more {n = n} {ns = ns} s ss) = let h = among_has a ns ss in
      record { node = h.node; within = in_later n h.node ns h.within; spells = h.spells }

  in_front : {ps : Patterns} {q : Pattern} → Front rules ps q → (ms : List ℕ) →
      SpellAll rules nodes ms ps → Has (front nulls ms) q
  in_front front_first ms (spell_more {n = n} {ns = ns} s ss) =
      record { node = n; within = in_first n (cond (get_or nulls n false) (front nulls ns) []); spells = s }
  in_front (front_later {d = d} z a) ms (spell_more {n = n} {ns = ns} s ss) =
      let h = in_front a ns ss in
      record { node = h.node; within = in_later n h.node _ (rw (marked.whole n d s z) h.within); spells = h.spells }

  to_one : {p : Pattern} (n m : ℕ) (a : Shape) → slice_get nodes n ≡ Some a → Contains (steps_of bodies nulls a) m →
      Spells rules nodes m p → Meets n p
  to_one n m a g h s = record { node = m; step = step_at bodies nulls nodes n m a g h; spells = s }

  pub step_forward : {p q : Pattern} → LeftStep rules p q → (n : ℕ) → Spells rules nodes n p → Meets n q
  step_forward (to_body {n = name} {e = p} b) n (spells_name g) =
      let m = body_node rules nodes bodies are name p b in
      to_one n m.0 (node.Name (id_of rules name)) g
      (subst (λ o. Contains (option_to_list o) m.0) (sym m.1) (in_first m.0 [])) m.2
  step_forward (to_alternative a) n (spells_choice {ms = ms} g ss) = let h = among_has a ms ss in
      to_one n h.node (node.Choice ms) g h.within h.spells
  step_forward (to_member a) n (spells_seq {ms = ms} g ss) = let h = in_front a ms ss in
      to_one n h.node (node.Seq ms) g h.within h.spells
  step_forward to_starred n (spells_star {m = m} g s) = to_one n m (node.Star m) g (in_first m []) s
  step_forward to_repeated n (spells_plus {m = m} {k = i} g s a) = to_one n m (node.Plus m i) g (in_first m []) s
  step_forward to_optional n (spells_opt {m = m} g s) = to_one n m (node.Opt m) g (in_first m []) s
  step_forward to_asserted n (spells_and {m = m} g s) = to_one n m (node.And m) g (in_first m []) s
  step_forward to_denied n (spells_not {m = m} g s) = to_one n m (node.Not m) g (in_first m []) s

  -- the expression that a node of a step spells, and the left step to it
  pub record Comes (p : Pattern) (m : ℕ) : Type 0 where
    pub pattern : Pattern
    pub step : LeftStep rules p pattern
    pub spells : Spells rules nodes m pattern

  record IsAmong (ps : Patterns) (m : ℕ) : Type 0 where
    pub pattern : Pattern
    pub among : Among rules ps pattern
    pub spells : Spells rules nodes m pattern

  record IsFront (ps : Patterns) (m : ℕ) : Type 0 where
    pub pattern : Pattern
    pub front : Front rules ps pattern
    pub spells : Spells rules nodes m pattern

  is_among : {ps : Patterns} {ms : List ℕ} → SpellAll rules nodes ms ps → (m : ℕ) → Contains ms m → IsAmong ps m
  is_among spell_none m h = absurd (none_of m h)
  is_among (spell_more {n = n} {ns = ns} {p = p} s ss) m h = ⊎_elim
      (λ is. record { pattern = p; among = among_first; spells = subst (λ v. Spells rules nodes v p) is s })
      (λ k. let a = is_among ss m k in record { pattern = a.pattern; among = among_later a.among; spells = a.spells })
      (cons_cases n m ns h)

  later_front : (n m : ℕ) (p : Pattern) (ns : List ℕ) (ps : Patterns) (v : Bool) → get_or nulls n false ≡ v →
      Spells rules nodes n p → (Contains (front nulls ns) m → IsFront ps m) →
      Contains (cond v (front nulls ns) []) m → IsFront (e.more p ps) m
  later_front n m p ns ps true z s f h = let a = f h in
      record { pattern = a.pattern; front = front_later (marked.sound n p s z) a.front; spells = a.spells }
  later_front n m p ns ps false z s f h = absurd (none_of m h)

  is_front : {ps : Patterns} {ms : List ℕ} → SpellAll rules nodes ms ps → (m : ℕ) →
      Contains (front nulls ms) m → IsFront ps m
  is_front spell_none m h = absurd (none_of m h)
  is_front (spell_more {n = n} {ns = ns} {p = p} {ps = ps} s ss) m h = ⊎_elim
      (λ is. record { pattern = p; front = front_first; spells = subst (λ v. Spells rules nodes v p) is s })
      (λ k. later_front n m p ns ps (get_or nulls n false) refl s (λ h'. is_front ss m h') k)
      (cons_cases n m _ h)

  row_step : (n m : ℕ) (a : Shape) → slice_get nodes n ≡ Some a → Step (step_rows bodies nulls nodes) n m →
      Contains (steps_of bodies nulls a) m
  row_step n m a g h = step_from bodies nulls nodes n m a g h

  from_one : {p q : Pattern} (n m k : ℕ) (a : Shape) → slice_get nodes n ≡ Some a →
      Step (step_rows bodies nulls nodes) n m → (Contains (steps_of bodies nulls a) m → Contains (k ∷ []) m) →
      LeftStep rules p q → Spells rules nodes k q → Comes p m
  from_one {q = q} n m k a g h only step s =
      record {
        pattern = q;
        step = step;
        spells = subst (λ v. Spells rules nodes v q) (only_one k m (only (row_step n m a g h))) s;
      }

  pub step_backward : {n : ℕ} {p : Pattern} → Spells rules nodes n p → (m : ℕ) →
      Step (step_rows bodies nulls nodes) n m → Comes p m
  step_backward (spells_any {n = n} g) m h = absurd (none_of m (row_step n m node.Any g h))
  step_backward (spells_bytes {n = n} {bs = bs} g) m h = absurd (none_of m (row_step n m (node.Bytes bs) g h))
  step_backward (spells_set {n = n} {s = s} g) m h = absurd (none_of m (row_step n m (node.Set s) g h))
  step_backward (spells_name {n = n} {name = name} g) m h =
      let b = node_body rules nodes bodies are name m
      (name_body bodies (id_of rules name) m (row_step n m (node.Name (id_of rules name)) g h)) in
      record { pattern = b.0; step = to_body b.1; spells = b.2 }
  step_backward (spells_seq {n = n} {ms = ms} g ss) m h = let a = is_front ss m (row_step n m (node.Seq ms) g h) in
      record { pattern = a.pattern; step = to_member a.front; spells = a.spells }
  step_backward (spells_choice {n = n} {ms = ms} g ss) m h =
      let a = is_among ss m (row_step n m (node.Choice ms) g h) in
      record { pattern = a.pattern; step = to_alternative a.among; spells = a.spells }
  step_backward (spells_star {n = n} {m = k} {p = p} g s) m h = from_one n m k (node.Star k) g h (λ w. w) to_starred s
  step_backward (spells_plus {n = n} {m = k} {k = i} {p = p} g s a) m h =
      from_one n m k (node.Plus k i) g h (λ w. w) to_repeated s
  step_backward (spells_opt {n = n} {m = k} {p = p} g s) m h = from_one n m k (node.Opt k) g h (λ w. w) to_optional s
  step_backward (spells_and {n = n} {m = k} {p = p} g s) m h = from_one n m k (node.And k) g h (λ w. w) to_asserted s
  step_backward (spells_not {n = n} {m = k} {p = p} g s) m h = from_one n m k (node.Not k) g h (λ w. w) to_denied s
  step_backward (spells_act {n = n} {t = t} g) m h = absurd (none_of m (row_step n m (node.Act t) g h))
  step_backward (spells_open {n = n} g) m h = absurd (none_of m (row_step n m node.Open g h))
  step_backward (spells_close {n = n} g) m h = absurd (none_of m (row_step n m node.Close g h))

  -- chains of both kinds
  pub record IsLed (n : ℕ) (q : Pattern) : Type 0 where
    pub node : ℕ
    pub leads : Leads (step_rows bodies nulls nodes) n node
    pub spells : Spells rules nodes node q

  pub record Chains (p : Pattern) (m : ℕ) : Type 0 where
    pub pattern : Pattern
    pub chain : LeftChain rules p pattern
    pub spells : Spells rules nodes m pattern

  pub chain_leads : {p q : Pattern} → LeftChain rules p q → (n : ℕ) → Spells rules nodes n p → IsLed n q
  chain_leads (one_step d) n s = let h = step_forward d n s in
      record { node = h.node; leads = one h.step; spells = h.spells }
  chain_leads (more_steps c d) n s =
      let h = chain_leads c n s in
      let k = step_forward d h.node h.spells in
      record { node = k.node; leads = more h.leads k.step; spells = k.spells }

  pub leads_chain : {n m : ℕ} → Leads (step_rows bodies nulls nodes) n m → (p : Pattern) →
      Spells rules nodes n p → Chains p m
  leads_chain {m = m} (one h) p s = let a = step_backward s m h in
      record { pattern = a.pattern; chain = one_step a.step; spells = a.spells }
  leads_chain {m = m} (more d h) p s =
      let a = leads_chain d p s in
      let b = step_backward a.spells m h in
      record { pattern = b.pattern; chain = more_steps a.chain b.step; spells = b.spells }
