-- Rules in a cycle of left steps are the left-recursive ones.
-- Serves: check_peg (notes, ranked)
use Rattle.std.proofs.Common.{◌≡◌, ℕ, ◌+◌, Bool, true, false, cond, List, [], ◌∷◌, get_or, refl, sym, ap, subst, arith}
use Rattle.std.proofs.Common.{◌∙◌, Some, add-one, Contains, option_to_list}
use Rattle.std.specs.Prelude.{slice_get, bytes_eq, option_map}
use Rattle.std.proofs.lemmas.Option.{slice_get_within, slice_get-get_or, slice_get-map, get_or_from_slice_get}
use Rattle.std.proofs.lemmas.Slice.Eq.{bytes_eq-Decides}
use Rattle.pegread.specs.Pattern.{Pattern, Rule}
use Rattle.pegnodes.specs.Bodies.{AreBodies, IsBuilt}
use Rattle.fixpoint.specs.Leads.{AreCycleMarks, AreRanksBut}
use Rattle.gramcheck.specs.Left.{LeftChain, IsLeftRecursive}
use Rattle.pegnodes.specs.Nodes.{Shape, id_of, Spells, spells_any, spells_bytes, spells_set, spells_name, spells_seq}
use Rattle.pegnodes.specs.Nodes.{spells_choice, spells_star, spells_plus, spells_opt, spells_and, spells_not}
use Rattle.pegnodes.specs.Nodes.{spells_act, spells_open, spells_close}
use Rattle.gramcheck.specs.Nulls.{AreNullMarks}
use Rattle.gramcheck.specs.NodeRows.{step_rows, ComesBack, AreComingBack, IsLeft, front, steps_of}
use Rattle.gramcheck.proofs.LeftStepLemmas.{chain_leads, leads_chain, step_at}
use Rattle.gramcheck.proofs.ComesBackLemmas.{chain_iterations}
use Rattle.std.proofs.lemmas.List.{length-map}
use Rattle.fixpoint.specs.NumberMarks.{IsMarked}
use Rattle.fixpoint.specs.StepRows.{Step}
use Rattle.fixpoint.proofs.ContainsLemmas.{in_first, in_later}
use Rattle.gramcheck.specs.Ranks.{FrontNode, front_first, front_later, NodeStep, AreRanks}
use Rattle.pegread.specs.Pattern as e
use Rattle.pegnodes.specs.Nodes as node
use Rattle.gramcheck.specs.Ranks as r

-- where no node is in a cycle, ranks that steps lower are ranks of the nodes
module _ (bodies : List ℕ) (nulls : List Bool) (nodes : List Shape) (rules : List Rule)
    (marked : AreNullMarks rules nodes nulls) where
  front_in : {ms : List ℕ} {m : ℕ} → FrontNode rules nodes bodies ms m → Contains (front nulls ms) m
  front_in (front_first {m = m}) = in_first m _
  front_in (front_later {k = k} {m = m} z f) = let h = front_in f in in_later k m _ (rw (marked.whole k z.0 z.1 z.2) h)

  node_step : {n m : ℕ} → NodeStep rules nodes bodies n m → Step (step_rows bodies nulls nodes) n m
  node_step (r.to_body {n = n} {id = id} {m = m} g b) =
      step_at bodies nulls nodes n m (node.Name id) g
      (subst (λ o. Contains (option_to_list o) m) (sym b) (in_first m []))
  node_step (r.to_alternative {n = n} {m = m} {ms = ms} g h) = step_at bodies nulls nodes n m (node.Choice ms) g h
  node_step (r.to_member {n = n} {m = m} {ms = ms} g f) = step_at bodies nulls nodes n m (node.Seq ms) g (front_in f)
  node_step (r.to_starred {n = n} {m = m} g) = step_at bodies nulls nodes n m (node.Star m) g (in_first m [])
  node_step (r.to_repeated {n = n} {m = m} {k = k} g) = step_at bodies nulls nodes n m (node.Plus m k) g (in_first m [])
  node_step (r.to_optional {n = n} {m = m} g) = step_at bodies nulls nodes n m (node.Opt m) g (in_first m [])
  node_step (r.to_asserted {n = n} {m = m} g) = step_at bodies nulls nodes n m (node.And m) g (in_first m [])
  node_step (r.to_denied {n = n} {m = m} g) = step_at bodies nulls nodes n m (node.Not m) g (in_first m [])

  pub are_ranks : (marks : List Bool) (ranks : List ℕ) → AreRanksBut (step_rows bodies nulls nodes) marks ranks →
      ((n : ℕ) → IsMarked marks n → ⊥) → AreRanks rules nodes bodies ranks
  are_ranks marks ranks g none = record {
    count = g.count ∙ length-map nodes (steps_of bodies nulls);
    bound = λ n k h.
        let e = get_or_from_slice_get ranks n k 0 h in
        let le = g.bound n in
        let l = length-map nodes (steps_of bodies nulls) in
        omega (arith, e, le, l);
    lower = λ n m k j step hn hm.
        let a = get_or_from_slice_get ranks n k 0 hn in
        let b = get_or_from_slice_get ranks m j 0 hm in
        let lt = g.falls n m (none n) (node_step step) in
        omega (arith, a, b, lt);
  }

-- the rule at a name's id has that name
name_at : (rules : List Rule) (name : List ℕ) (rule : Rule) →
    slice_get rules (id_of rules name) ≡ Some rule → rule.name ≡ name
name_at [] name rule h = absurd (cc h)
name_at (first ∷ rules) name rule h = cases (bytes_eq first.name name) refl h (λ k. name_at rules name rule k)
  where
    cases : (b : Bool) → bytes_eq first.name name ≡ b →
        slice_get (first ∷ rules) (cond b 0 (id_of rules name + 1)) ≡ Some rule →
        (slice_get rules (id_of rules name) ≡ Some rule → rule.name ≡ name) → rule.name ≡ name
    cases true u k f = let is : first ≡ rule = cc k in
        ap (λ v. v.name) (sym is) ∙ (bytes_eq-Decides first.name name).0 u
    cases false u k f = f (rw add-one at k)

-- the name that a node of that id spells
name_spelled : (rules : List Rule) (nodes : List Shape) (n id : ℕ) (p : Pattern) → Spells rules nodes n p →
    slice_get nodes n ≡ Some (node.Name id) → (name : List ℕ) × (p ≡ e.Name name) × (id_of rules name ≡ id)
name_spelled rules nodes n id p (spells_any g) h = absurd (cc (g, h))
name_spelled rules nodes n id p (spells_bytes g) h = absurd (cc (g, h))
name_spelled rules nodes n id p (spells_set g) h = absurd (cc (g, h))
name_spelled rules nodes n id p (spells_name {name = name} g) h = (name, refl, cc (g, h))
name_spelled rules nodes n id p (spells_seq g s) h = absurd (cc (g, h))
name_spelled rules nodes n id p (spells_choice g s) h = absurd (cc (g, h))
name_spelled rules nodes n id p (spells_star g s) h = absurd (cc (g, h))
name_spelled rules nodes n id p (spells_plus g s a) h = absurd (cc (g, h))
name_spelled rules nodes n id p (spells_opt g s) h = absurd (cc (g, h))
name_spelled rules nodes n id p (spells_and g s) h = absurd (cc (g, h))
name_spelled rules nodes n id p (spells_not g s) h = absurd (cc (g, h))
name_spelled rules nodes n id p (spells_act g) h = absurd (cc (g, h))
name_spelled rules nodes n id p (spells_open g) h = absurd (cc (g, h))
name_spelled rules nodes n id p (spells_close g) h = absurd (cc (g, h))

name_node : (rules : List Rule) (nodes : List Shape) (n : ℕ) (name : List ℕ) → Spells rules nodes n (e.Name name) →
    slice_get nodes n ≡ Some (node.Name (id_of rules name))
name_node rules nodes n name (spells_name g) = g

module _ (rules : List Rule) (nodes : List Shape) (bodies : List ℕ) (nulls : List Bool)
    (are : AreBodies rules nodes bodies) (marked : AreNullMarks rules nodes nulls) where
  -- the node of a rule's body spells it
  pub body_spelled : (id m : ℕ) (rule : Rule) → slice_get rules id ≡ Some rule → slice_get bodies id ≡ Some m →
      Spells rules nodes m rule.body
  body_spelled id m rule at h =
      let s = are.spelled id m h in
      let here = slice_get-map (λ v. v.body) rules id ∙ ap (option_map (λ v. v.body)) at in
      let same : s.0 ≡ rule.body = cc (s.1, here) in
      subst (λ v. Spells rules nodes m v) same s.2

  pub is_left : (id : ℕ) (rule : Rule) → slice_get rules id ≡ Some rule →
      ComesBack (step_rows bodies nulls nodes) nodes bodies id → IsLeftRecursive rules rule
  is_left id rule at b =
      let c = leads_chain rules nodes bodies nulls are marked b.leads rule.body
      (body_spelled id b.body rule at b.starts) in
      let k = name_spelled rules nodes b.name id c.pattern c.spells b.named in
      let own = name_at rules k.0 rule (subst (λ v. slice_get rules v ≡ Some rule) (sym k.2) at) in
      subst (λ v. LeftChain rules rule.body v) (k.1 ∙ ap e.Name (sym own)) c.chain

  pub left_is : (id : ℕ) (rule : Rule) → slice_get rules id ≡ Some rule → id_of rules rule.name ≡ id →
      IsLeftRecursive rules rule → ComesBack (step_rows bodies nulls nodes) nodes bodies id
  left_is id rule at own d =
      let lt = slice_get_within rules id rule at in
      let c = are.count in
      let starts = slice_get-get_or bodies id 0 (omega (arith, lt, c)) in
      let l = chain_leads rules nodes bodies nulls are marked d (get_or bodies id 0)
      (body_spelled id (get_or bodies id 0) rule at starts) in
      record {
        body = get_or bodies id 0;
        name = l.node;
        starts = starts;
        named = subst (λ v. slice_get nodes l.node ≡ Some (node.Name v)) own
            (name_node rules nodes l.node rule.name l.spells);
        leads = l.leads;
      }

  pub all_left : (found marks : List Bool) (ranks : List ℕ) → IsBuilt nodes →
      AreCycleMarks (step_rows bodies nulls nodes) marks → AreRanksBut (step_rows bodies nulls nodes) marks ranks →
      AreComingBack (step_rows bodies nulls nodes) nodes bodies found → IsLeft rules nodes bodies found ranks
  all_left found marks ranks built cycles falls back = record {
    count = back.count ∙ are.count;
    sound = λ id rule at h. is_left id rule at ((back.marks id).0 h);
    whole = λ id rule at own d. (back.marks id).1 (left_is id rule at own d);
    ranked = λ off. are_ranks bodies nulls nodes rules marked marks ranks falls
        (λ n h. let t = chain_iterations bodies nulls nodes built n ((cycles n).0 h) in off t.0
        ((back.marks t.0).1 t.1));
  }
