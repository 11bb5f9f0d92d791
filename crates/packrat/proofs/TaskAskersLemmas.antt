-- A task that is no key is led to by one alone.
-- Serves: implied_cells
use Rattle.std.proofs.Common.{◌≡◌, ◌⊎◌, inl, inr, ℕ, zero, suc, ◌+◌, Bool, false, List, Some, refl, sym, subst}
use Rattle.std.proofs.Common.{arith}
use Rattle.std.specs.Prelude.{slice_get}
use Rattle.pegread.specs.Pattern.{Rule}
use Rattle.pegnodes.specs.Nodes as node
use Rattle.pegnodes.specs.Nodes.{Shape}
use Rattle.gramcheck.specs.Sound.{IsRanked}
use Rattle.pegmatch.specs.Visits.{NodeTakes}
use Rattle.memo.specs.Parts.{Reach, reach_root, reach_edge}
use Rattle.memo.specs.declared.task.MatchTask.{MatchTask}
use Rattle.memo.specs.declared.task.MatchTask.TheVariants.{Eval, Tail}
use Rattle.pegnodes.specs.NodeWays.{Way, Leaf, Body, Members, Alternatives, Iterations, Operand, way_of}
use Rattle.packrat.specs.MatchTasks.{LeadsBy, TailLeadsBy, Leads, is_key}
use Rattle.pegnodes.specs.KeyMarks.{WayNames, WayNamesOnce, DoesNotRepeat, IsPlain, Single, single_root, single_below}
use Rattle.pegnodes.specs.KeyMarks.{AreMarks, AreByNamers, IsLoop, WayEntersOnce, IsIterated}
use Rattle.pegnodes.specs.KeyMarks.{once_plain, once_loop, once_iterated}
use Rattle.std.proofs.Common.{◌<◌, ◌≤◌, ap, ◌∙◌}
use Rattle.pegmatch.proofs.AsksLemmas.{goes_onward, is_visited}
use Rattle.packrat.proofs.TaskReachLemmas.{reached_is_visited}
use Rattle.packrat.proofs.WidthLemmas.{takes_width}
use Rattle.packrat.proofs.TaskKidsLemmas.{takes_same}
use Rattle.packrat.proofs.PredictiveLemmas.{predictive_once}

module _ (rules : List Rule) (start : ℕ) (nodes : List Shape) (bodies ranks x : List ℕ)
    (sound : IsRanked rules start nodes bodies ranks) (root : ℕ) (is_root : slice_get bodies start ≡ Some root) where
  abbrev LB : Way → ℕ → ℕ → MatchTask → Type 0
  LB w n p b = LeadsBy rules nodes bodies x w n p b

  abbrev RB : Way → ℕ → ℕ → ℕ → MatchTask → Type 0
  RB w n i p b = TailLeadsBy rules nodes bodies x w n i p b

  abbrev L : MatchTask → MatchTask → Type 0
  L a b = Leads rules nodes bodies x a b

  abbrev R : MatchTask → Type 0
  R a = Reach MatchTask (Leads rules nodes bodies x) (Eval root 0) a

  -- the asker n, which goes on in this way, leads to node m at q by task a
  abbrev LeadsHere : Way → ℕ → ℕ → ℕ → MatchTask → Type 0
  LeadsHere Leaf n m q a = ⊥
  LeadsHere (Body id) n m q a = a ≡ Eval n q
  LeadsHere (Members ms) n m q a = (i : ℕ) × (slice_get ms i ≡ Some m) × (a ≡ Tail n i q)
  LeadsHere (Alternatives ms) n m q a = (i : ℕ) × (slice_get ms i ≡ Some m) × (a ≡ Tail n i q)
  LeadsHere (Iterations k s) n m q a = a ≡ Eval n q
  LeadsHere (Operand k) n m q a = a ≡ Eval n q

  names_by : (w : Way) (n p m q : ℕ) → LB w n p (Eval m q) → WayNames start nodes bodies w m
  names_by Leaf n p m q l = absurd l
  names_by (Body id) n p m q l = let is : l.0 ≡ m = cc (l.2) in subst (λ v. slice_get bodies id ≡ Some v) is l.1
  names_by (Members ms) n p m q l = absurd (cc (l.2))
  names_by (Alternatives ms) n p m q l = absurd (cc (l.2))
  names_by (Iterations k s) n p m q l = elim l [ inl a ↦ inl (cc a) | inr a ↦ inr (cc (a.2)) ]
  names_by (Operand k) n p m q l = cc l

  rest_names_by : (w : Way) (n i p m q : ℕ) → RB w n i p (Eval m q) → WayNames start nodes bodies w m
  rest_names_by Leaf n i p m q l = absurd l
  rest_names_by (Body id) n i p m q l = absurd l
  rest_names_by (Members ms) n i p m q l = elim l.2 [
    | inl a ↦ let is : l.0 ≡ m = cc a in (i, subst (λ v. slice_get ms i ≡ Some v) is l.1)
    | inr a ↦ absurd (cc (a.4))
  ]
  rest_names_by (Alternatives ms) n i p m q l = elim l.2 [
    | inl a ↦ let is : l.0 ≡ m = cc a in (i, subst (λ v. slice_get ms i ≡ Some v) is l.1)
    | inr a ↦ absurd (cc (a.3))
  ]
  rest_names_by (Iterations k s) n i p m q l = absurd l
  rest_names_by (Operand k) n i p m q l = absurd l

  -- the node of a task names the node that it leads to
  abbrev node_of : MatchTask → ℕ
  node_of (Eval n p) = n
  node_of (Tail n i p) = n

  record NamedBy (a : MatchTask) (m : ℕ) : Type 0 where
    pub shape : Shape
    pub at : slice_get nodes (node_of a) ≡ Some shape
    pub names : WayNames start nodes bodies (way_of (node_of a) shape) m

  named_by : (a : MatchTask) (m q : ℕ) → L a (Eval m q) → NamedBy a m
  named_by (Eval n p) m q l = record { shape = l.0; at = l.1; names = names_by (way_of n l.0) n p m q l.2 }
  named_by (Tail n i p) m q l = record { shape = l.0; at = l.1; names = rest_names_by (way_of n l.0) n i p m q l.2 }

  here_by : (w : Way) (n p m q : ℕ) → WayNamesOnce start nodes bodies w m → LB w n p (Eval m q)
      → LeadsHere w n m q (Eval n p)
  here_by Leaf n p m q o l = absurd l
  here_by (Body id) n p m q o l = let is : p ≡ q = cc (l.2) in cc
  here_by (Members ms) n p m q o l = absurd (cc (l.2))
  here_by (Alternatives ms) n p m q o l = absurd (cc (l.2))
  here_by (Iterations k s) n p m q o l = elim l [
    | inl a ↦ let is : p ≡ q = cc a in cc
    | inr a ↦ absurd (o (cc (a.2)))
  ]
  here_by (Operand k) n p m q o l = let is : p ≡ q = cc l in cc

  rest_here_by : (w : Way) (n i p m q : ℕ) → RB w n i p (Eval m q) → LeadsHere w n m q (Tail n i p)
  rest_here_by Leaf n i p m q l = absurd l
  rest_here_by (Body id) n i p m q l = absurd l
  rest_here_by (Members ms) n i p m q l = elim l.2 [
    | inl a ↦
        let is : l.0 ≡ m = cc a in
        let at : p ≡ q = cc a in
        (i, subst (λ v. slice_get ms i ≡ Some v) is l.1, cc at)
    | inr a ↦ absurd (cc (a.4))
  ]
  rest_here_by (Alternatives ms) n i p m q l = elim l.2 [
    | inl a ↦
        let is : l.0 ≡ m = cc a in
        let at : p ≡ q = cc a in
        (i, subst (λ v. slice_get ms i ≡ Some v) is l.1, cc at)
    | inr a ↦ absurd (cc (a.3))
  ]
  rest_here_by (Iterations k s) n i p m q l = absurd l
  rest_here_by (Operand k) n i p m q l = absurd l

  module _ (m : ℕ) (plain : IsPlain start nodes bodies m) where
    abbrev Here : ℕ → MatchTask → Type 0
    Here q a = LeadsHere (way_of plain.asker plain.shape) plain.asker m q a

    same_shape : (i : ℕ) (other : Shape) → i ≡ plain.asker → slice_get nodes i ≡ Some other → plain.shape ≡ other
    same_shape i other is at =
        let there : slice_get nodes plain.asker ≡ Some other = subst (λ v. slice_get nodes v ≡ Some other) is at in
        cc (plain.at, there)

    led_here : (a : MatchTask) (q : ℕ) → L a (Eval m q) → Here q a
    led_here (Eval n p) q l =
        let is : n ≡ plain.asker = plain.only n l.0 l.1 (names_by (way_of n l.0) n p m q l.2) in
        let same : l.0 ≡ plain.shape = sym (same_shape n l.0 is l.1) in
        let moved : LB (way_of n plain.shape) n p (Eval m q) =
        subst (λ v. LB (way_of n v) n p (Eval m q)) same l.2 in
        let by : LB (way_of plain.asker plain.shape) plain.asker p (Eval m q) =
        subst (λ v. LB (way_of v plain.shape) v p (Eval m q)) is moved in
        let here = here_by (way_of plain.asker plain.shape) plain.asker p m q plain.once by in
        subst (λ v. Here q (Eval v p)) (sym is) here
    led_here (Tail n i p) q l =
        let is : n ≡ plain.asker = plain.only n l.0 l.1 (rest_names_by (way_of n l.0) n i p m q l.2) in
        let same : l.0 ≡ plain.shape = sym (same_shape n l.0 is l.1) in
        let moved : RB (way_of n plain.shape) n i p (Eval m q) =
        subst (λ v. RB (way_of n v) n i p (Eval m q)) same l.2 in
        let by : RB (way_of plain.asker plain.shape) plain.asker i p (Eval m q) =
        subst (λ v. RB (way_of v plain.shape) v i p (Eval m q)) is moved in
        let here = rest_here_by (way_of plain.asker plain.shape) plain.asker i p m q by in
        subst (λ v. Here q (Tail v i p)) (sym is) here

  same_here : (w : Way) (n m q : ℕ) (a b : MatchTask) → WayNamesOnce start nodes bodies w m → LeadsHere w n m q a
      → LeadsHere w n m q b → a ≡ b
  same_here Leaf n m q a b o l k = absurd l
  same_here (Body id) n m q a b o l k = cc
  same_here (Members ms) n m q a b o l k =
      let is : l.0 ≡ k.0 = o l.0 k.0 l.1 k.1 in
      cc (is, l.2, k.2)
  same_here (Alternatives ms) n m q a b o l k =
      let is : l.0 ≡ k.0 = o l.0 k.0 l.1 k.1 in
      cc (is, l.2, k.2)
  same_here (Iterations k s) n m q a b o l h = cc
  same_here (Operand k) n m q a b o l h = cc

  -- a plain node's task has one asker
  one_of_plain : (m q : ℕ) → IsPlain start nodes bodies m → (a b : MatchTask) → L a (Eval m q) → L b (Eval m q) → a ≡ b
  one_of_plain m q plain a b l k =
      same_here (way_of plain.asker plain.shape) plain.asker m q a b plain.once (led_here m plain a q l)
      (led_here m plain b q k)

  -- only the node itself leads to its first tail, at the same position
  first_by : (w : Way) (n p m q : ℕ) → LB w n p (Tail m zero q) → (n ≡ m) × (p ≡ q)
  first_by Leaf n p m q l = absurd l
  first_by (Body id) n p m q l = absurd (cc (l.2))
  first_by (Members ms) n p m q l = (cc (l.2), cc (l.2))
  first_by (Alternatives ms) n p m q l = (cc (l.2), cc (l.2))
  first_by (Iterations k s) n p m q l = elim l [ inl a ↦ absurd (cc a) | inr a ↦ absurd (cc (a.2)) ]
  first_by (Operand k) n p m q l = absurd (cc l)

  not_first_by : (w : Way) (n i p m q : ℕ) → RB w n i p (Tail m zero q) → ⊥
  not_first_by Leaf n i p m q l = absurd l
  not_first_by (Body id) n i p m q l = absurd l
  not_first_by (Members ms) n i p m q l = elim l.2 [
    | inl a ↦ absurd (cc a)
    | inr a ↦ let is : zero ≡ suc i = cc (a.4) in absurd (omega arith)
  ]
  not_first_by (Alternatives ms) n i p m q l = elim l.2 [
    | inl a ↦ absurd (cc a)
    | inr a ↦ let is : zero ≡ suc i = cc (a.3) in absurd (omega arith)
  ]
  not_first_by (Iterations k s) n i p m q l = absurd l
  not_first_by (Operand k) n i p m q l = absurd l

  first_led : (a : MatchTask) (m q : ℕ) → L a (Tail m zero q) → a ≡ Eval m q
  first_led (Eval n p) m q l = let is = first_by (way_of n l.0) n p m q l.2 in cc (is.0, is.1)
  first_led (Tail n i p) m q l = absurd (not_first_by (way_of n l.0) n i p m q l.2)

  -- a member of a sequence takes the bytes up to the next one, and alternatives stand at one position
  abbrev StepBy : Way → ℕ → ℕ → ℕ → Type 0
  StepBy Leaf i p q = ⊥
  StepBy (Body id) i p q = ⊥
  StepBy (Members ms) i p q = (k : ℕ) × (slice_get ms i ≡ Some k) × NodeTakes rules nodes bodies x k p q
  StepBy (Alternatives ms) i p q = p ≡ q
  StepBy (Iterations k s) i p q = ⊥
  StepBy (Operand k) i p q = ⊥

  record Later (a : MatchTask) (n i q : ℕ) : Type 0 where
    pub position : ℕ
    pub is : a ≡ Tail n i position
    pub shape : Shape
    pub at : slice_get nodes n ≡ Some shape
    pub step : StepBy (way_of n shape) i position q

  not_later_by : (w : Way) (n p m i q : ℕ) → LB w n p (Tail m (suc i) q) → ⊥
  not_later_by Leaf n p m i q l = absurd l
  not_later_by (Body id) n p m i q l = absurd (cc (l.2))
  not_later_by (Members ms) n p m i q l = let is : suc i ≡ zero = cc (l.2) in absurd (omega arith)
  not_later_by (Alternatives ms) n p m i q l = let is : suc i ≡ zero = cc (l.2) in absurd (omega arith)
  not_later_by (Iterations k s) n p m i q l = elim l [ inl a ↦ absurd (cc a) | inr a ↦ absurd (cc (a.2)) ]
  not_later_by (Operand k) n p m i q l = absurd (cc l)

  later_by : (w : Way) (n j p m i q : ℕ) → RB w n j p (Tail m (suc i) q) → (n ≡ m) × (j ≡ i) × StepBy w j p q
  later_by Leaf n j p m i q l = absurd l
  later_by (Body id) n j p m i q l = absurd l
  later_by (Members ms) n j p m i q l = elim l.2 [
    | inl a ↦ absurd (cc a)
    | inr a ↦
        let at : a.1 ≡ q = cc (a.4) in
        let is : suc i ≡ suc j = cc (a.4) in
        (cc (a.4), omega arith, (l.0, l.1, subst (λ v. NodeTakes rules nodes bodies x l.0 p v) at a.3))
  ]
  later_by (Alternatives ms) n j p m i q l = elim l.2 [
    | inl a ↦ absurd (cc a)
    | inr a ↦ let is : suc i ≡ suc j = cc (a.3) in (cc (a.3), omega arith, cc (a.3))
  ]
  later_by (Iterations k s) n j p m i q l = absurd l
  later_by (Operand k) n j p m i q l = absurd l

  later_led : (a : MatchTask) (n i q : ℕ) → L a (Tail n (suc i) q) → Later a n i q
  later_led (Eval m p) n i q l = absurd (not_later_by (way_of m l.0) m p n i q l.2)
  later_led (Tail m j p) n i q l =
      let step = later_by (way_of m l.0) m j p n i q l.2 in
      let here : StepBy (way_of m l.0) i p q = subst (λ v. StepBy (way_of m l.0) v p q) step.1 step.2 in
      record {
        position = p;
        is = cc (step.0, step.1);
        shape = l.0;
        at = subst (λ v. slice_get nodes v ≡ Some l.0) step.0 l.1;
        step = subst (λ v. StepBy (way_of v l.0) i p q) step.0 here;
      }

  -- a step from one position leads to one position
  step_same : (w : Way) (i p r q s : ℕ) → p ≡ r → StepBy w i p q → StepBy w i r s → q ≡ s
  step_same Leaf i p r q s is a b = absurd a
  step_same (Body id) i p r q s is a b = absurd a
  step_same (Members ms) i p r q s is a b =
      let same : b.0 ≡ a.0 = cc (a.1, b.1) in
      let moved : NodeTakes rules nodes bodies x a.0 r s =
      subst (λ v. NodeTakes rules nodes bodies x v r s) same b.2 in
      takes_same rules start nodes bodies ranks x sound a.2
      (subst (λ v. NodeTakes rules nodes bodies x a.0 v s) (sym is) moved)
  step_same (Alternatives ms) i p r q s is a b = cc
  step_same (Iterations k t) i p r q s is a b = absurd a
  step_same (Operand k) i p r q s is a b = absurd a

  abbrev OnePosition : ℕ → Type 0
  OnePosition n = (q r : ℕ) → R (Eval n q) → R (Eval n r) → q ≡ r

  -- some task led to each reached task that is not the root
  record Asker (b : MatchTask) : Type 0 where
    pub task : MatchTask
    pub reached : R task
    pub leads : L task b

  asker_or_root : (b : MatchTask) → R b → (b ≡ Eval root 0) ⊎ Asker b
  asker_or_root b reach_root = inl refl
  asker_or_root b (reach_edge {a = a} r e) = inr (record { task = a; reached = r; leads = e })

  rest_asker : (b : MatchTask) → R b → (b ≡ Eval root 0 → ⊥) → Asker b
  rest_asker b r apart = elim (asker_or_root b r) [ inl is ↦ absurd (apart is) | inr a ↦ a ]

  rest_one_position : (n : ℕ) → OnePosition n → (i q r : ℕ) → R (Tail n i q) → R (Tail n i r) → q ≡ r
  rest_one_position n one zero q r a b =
      let c = rest_asker (Tail n zero q) a (λ is. cc is) in
      let d = rest_asker (Tail n zero r) b (λ is. cc is) in
      one q r (subst R (first_led c.task n q c.leads) c.reached) (subst R (first_led d.task n r d.leads) d.reached)
  rest_one_position n one (suc i) q r a b =
      let c = rest_asker (Tail n (suc i) q) a (λ is. cc is) in
      let d = rest_asker (Tail n (suc i) r) b (λ is. cc is) in
      let f = later_led c.task n i q c.leads in
      let g = later_led d.task n i r d.leads in
      let is : f.position ≡ g.position =
      rest_one_position n one i f.position g.position (subst R f.is c.reached) (subst R g.is d.reached) in
      let same : g.shape ≡ f.shape = cc (f.at, g.at) in
      step_same (way_of n f.shape) i f.position g.position q r is f.step
      (subst (λ v. StepBy (way_of n v) i g.position r) same g.step)

  here_one_position : (w : Way) (n m q r : ℕ) (a b : MatchTask) → OnePosition n → WayNamesOnce start nodes bodies w m
      → DoesNotRepeat start nodes bodies w → LeadsHere w n m q a → LeadsHere w n m r b → R a → R b → q ≡ r
  here_one_position Leaf n m q r a b one o d l k s t = absurd l
  here_one_position (Body id) n m q r a b one o d l k s t = one q r (subst R l s) (subst R k t)
  here_one_position (Members ms) n m q r a b one o d l k s t =
      let is : k.0 ≡ l.0 = o k.0 l.0 k.1 l.1 in
      rest_one_position n one l.0 q r (subst R l.2 s) (subst (λ v. R (Tail n v r)) is (subst R k.2 t))
  here_one_position (Alternatives ms) n m q r a b one o d l k s t =
      let is : k.0 ≡ l.0 = o k.0 l.0 k.1 l.1 in
      rest_one_position n one l.0 q r (subst R l.2 s) (subst (λ v. R (Tail n v r)) is (subst R k.2 t))
  here_one_position (Iterations k s) n m q r a b one o d l h u t = absurd d
  here_one_position (Operand k) n m q r a b one o d l h s t = one q r (subst R l s) (subst R h t)

  root_position : (m q : ℕ) → ((i : ℕ) (other : Shape) → slice_get nodes i ≡ Some other
      → WayNames start nodes bodies (way_of i other) m → ⊥) → R (Eval m q) → q ≡ 0
  root_position m q none r = elim (asker_or_root (Eval m q) r) [
    | inl is ↦ cc is
    | inr a ↦ let by = named_by a.task m q a.leads in absurd (none (node_of a.task) by.shape by.at by.names)
  ]

  plain_asker : (m q : ℕ) → IsPlain start nodes bodies m → R (Eval m q) → Asker (Eval m q)
  plain_asker m q plain r = rest_asker (Eval m q) r
      (λ is. let same : root ≡ m = cc is in
      plain.not_root (subst (λ v. slice_get bodies start ≡ Some v) same is_root))

  pub one_position : {n : ℕ} → Single start nodes bodies n → OnePosition n
  one_position (single_root {m = m} h none) q r a b =
      let one = root_position m q none a in
      let two = root_position m r none b in
      omega arith
  one_position (single_below {m = m} plain once single) q r a b =
      let c = plain_asker m q plain a in
      let d = plain_asker m r plain b in
      here_one_position (way_of plain.asker plain.shape) plain.asker m q r c.task d.task
      (one_position single) plain.once once
      (led_here m plain c.task q c.leads) (led_here m plain d.task r d.leads) c.reached d.reached

  -- the entry n, which goes on in this way, enters the repetition m at q by task a
  abbrev EntersHere : Way → ℕ → ℕ → ℕ → MatchTask → Type 0
  EntersHere Leaf n m q a = ⊥
  EntersHere (Body id) n m q a = a ≡ Eval n q
  EntersHere (Members ms) n m q a = (i : ℕ) × (slice_get ms i ≡ Some m) × (a ≡ Tail n i q)
  EntersHere (Alternatives ms) n m q a = (i : ℕ) × (slice_get ms i ≡ Some m) × (a ≡ Tail n i q)
  EntersHere (Iterations k s) n m q a = (p : ℕ) × NodeTakes rules nodes bodies x k p q × (a ≡ Eval n p)
  EntersHere (Operand k) n m q a = a ≡ Eval n q

  enters_by : (w : Way) (n p m q : ℕ) → WayEntersOnce start nodes bodies w m → LB w n p (Eval m q)
      → EntersHere w n m q (Eval n p)
  enters_by Leaf n p m q o l = absurd l
  enters_by (Body id) n p m q o l = let is : p ≡ q = cc (l.2) in cc
  enters_by (Members ms) n p m q o l = absurd (cc (l.2))
  enters_by (Alternatives ms) n p m q o l = absurd (cc (l.2))
  enters_by (Iterations k s) n p m q o l = elim l [
    | inl a ↦ absurd (o (cc a))
    | inr a ↦
        let at : a.0 ≡ q = cc (a.2) in
        (p, subst (λ v. NodeTakes rules nodes bodies x k p v) at a.1, refl)
  ]
  enters_by (Operand k) n p m q o l = let is : p ≡ q = cc l in cc

  rest_enters_by : (w : Way) (n i p m q : ℕ) → RB w n i p (Eval m q) → EntersHere w n m q (Tail n i p)
  rest_enters_by Leaf n i p m q l = absurd l
  rest_enters_by (Body id) n i p m q l = absurd l
  rest_enters_by (Members ms) n i p m q l = rest_here_by (Members ms) n i p m q l
  rest_enters_by (Alternatives ms) n i p m q l = rest_here_by (Alternatives ms) n i p m q l
  rest_enters_by (Iterations k s) n i p m q l = absurd l
  rest_enters_by (Operand k) n i p m q l = absurd l

  -- an entry that stands at one position enters by one task, at one position
  same_entry : (w : Way) (n m q r : ℕ) (a b : MatchTask) → OnePosition n → WayEntersOnce start nodes bodies w m
      → EntersHere w n m q a → EntersHere w n m r b → R a → R b → (a ≡ b) × (q ≡ r)
  same_entry Leaf n m q r a b one o l k s t = absurd l
  same_entry (Body id) n m q r a b one o l k s t =
      let is : q ≡ r = one q r (subst R l s) (subst R k t) in (cc (l, k, is), is)
  same_entry (Members ms) n m q r a b one o l k s t =
      let is : k.0 ≡ l.0 = o k.0 l.0 k.1 l.1 in
      let at : q ≡ r = rest_one_position n one l.0 q r (subst R l.2 s)
      (subst (λ v. R (Tail n v r)) is (subst R k.2 t)) in
      (cc (l.2, k.2, is, at), at)
  same_entry (Alternatives ms) n m q r a b one o l k s t =
      let is : k.0 ≡ l.0 = o k.0 l.0 k.1 l.1 in
      let at : q ≡ r = rest_one_position n one l.0 q r (subst R l.2 s)
      (subst (λ v. R (Tail n v r)) is (subst R k.2 t)) in
      (cc (l.2, k.2, is, at), at)
  same_entry (Iterations j z) n m q r a b one o l k s t =
      let is : l.0 ≡ k.0 = one l.0 k.0 (subst R l.2 s) (subst R k.2 t) in
      let at : q ≡ r = takes_same rules start nodes bodies ranks x sound l.1
      (subst (λ v. NodeTakes rules nodes bodies x j v r) (sym is) k.1) in
      (cc (l.2, k.2, is), at)
  same_entry (Operand j) n m q r a b one o l k s t =
      let is : q ≡ r = one q r (subst R l s) (subst R k t) in (cc (l, k, is), is)

  module _ (m : ℕ) (loop : IsLoop start nodes bodies m) where
    -- an iteration leads from the repetition at p to that at q
    abbrev Iteration : ℕ → ℕ → Type 0
    Iteration p q = NodeTakes rules nodes bodies x loop.operand p q

    abbrev Enters : ℕ → MatchTask → Type 0
    Enters q a = EntersHere (way_of loop.entry loop.shape) loop.entry m q a

    iteration_by : (p q : ℕ) → LB (Iterations loop.operand m) m p (Eval m q) → Iteration p q
    iteration_by p q l = elim l [
      | inl a ↦
          let is : m ≡ loop.operand = cc a in
          let less = sound.built.after m loop.operand (node.Star loop.operand) loop.is_star refl in
          absurd (omega arith)
      | inr a ↦ let at : a.0 ≡ q = cc (a.2) in subst (Iteration p) at a.1
    ]

    entered_by : (n : ℕ) (other : Shape) → n ≡ loop.entry → slice_get nodes n ≡ Some other → other ≡ loop.shape
    entered_by n other is at =
        let there : slice_get nodes loop.entry ≡ Some other = subst (λ v. slice_get nodes v ≡ Some other) is at in
        cc (loop.at, there)

    star_shape : (n : ℕ) (other : Shape) → n ≡ m → slice_get nodes n ≡ Some other → other ≡ node.Star loop.operand
    star_shape n other is at =
        let there : slice_get nodes m ≡ Some other = subst (λ v. slice_get nodes v ≡ Some other) is at in
        cc (loop.is_star, there)

    -- only its entry and the repetition itself lead to the repetition
    led_in : (a : MatchTask) (q : ℕ) → L a (Eval m q) → Enters q a ⊎ ((p : ℕ) × (a ≡ Eval m p) × Iteration p q)
    led_in (Eval n p) q l = elim (loop.only n l.0 l.1 (names_by (way_of n l.0) n p m q l.2)) [
      | inl is ↦
          let same = entered_by n l.0 is l.1 in
          let moved : LB (way_of n loop.shape) n p (Eval m q) =
          subst (λ v. LB (way_of n v) n p (Eval m q)) same l.2 in
          let by : LB (way_of loop.entry loop.shape) loop.entry p (Eval m q) =
          subst (λ v. LB (way_of v loop.shape) v p (Eval m q)) is moved in
          inl (subst (λ v. Enters q (Eval v p)) (sym is)
          (enters_by (way_of loop.entry loop.shape) loop.entry p m q loop.once by))
      | inr is ↦
          let same = star_shape n l.0 is l.1 in
          let moved : LB (way_of n (node.Star loop.operand)) n p (Eval m q) =
          subst (λ v. LB (way_of n v) n p (Eval m q)) same l.2 in
          let by : LB (Iterations loop.operand m) m p (Eval m q) =
          subst (λ v. LB (Iterations loop.operand v) v p (Eval m q)) is moved in
          inr (p, cc is, iteration_by p q by)
    ]
    led_in (Tail n i p) q l = elim (loop.only n l.0 l.1 (rest_names_by (way_of n l.0) n i p m q l.2)) [
      | inl is ↦
          let same = entered_by n l.0 is l.1 in
          let moved : RB (way_of n loop.shape) n i p (Eval m q) =
          subst (λ v. RB (way_of n v) n i p (Eval m q)) same l.2 in
          let by : RB (way_of loop.entry loop.shape) loop.entry i p (Eval m q) =
          subst (λ v. RB (way_of v loop.shape) v i p (Eval m q)) is moved in
          inl (subst (λ v. Enters q (Tail v i p)) (sym is)
          (rest_enters_by (way_of loop.entry loop.shape) loop.entry i p m q by))
      | inr is ↦
          let same = star_shape n l.0 is l.1 in
          let none : RB (way_of n (node.Star loop.operand)) n i p (Eval m q) =
          subst (λ v. RB (way_of n v) n i p (Eval m q)) same l.2 in
          absurd none
    ]

    -- iterations lead forward
    iterations_forward : (p q : ℕ) → R (Eval m p) → Iteration p q → p < q
    iterations_forward p q r t =
        let v = is_visited rules start nodes bodies ranks x sound
        (reached_is_visited rules start nodes bodies x root is_root m p r) in
        let on = goes_onward rules start nodes bodies ranks x sound loop.operand p q v.high t in
        let moves : q ≡ p → ⊥ = λ is. sound.moving.star m loop.operand loop.is_star (on.null is) in
        let low = on.low in
        omega arith

    -- some iterations lead from one position to another
    data Turned : ℕ → ℕ → Type 0 where
      no_iteration : {p : ℕ} → Turned p p
      one_iteration : {p q r : ℕ} → Turned p q → R (Eval m q) → Iteration q r → Turned p r

    turned_on : {p q : ℕ} → Turned p q → p ≤ q
    turned_on no_iteration = omega arith
    turned_on (one_iteration {q = q} {r = r} t v h) = let one = turned_on t in let two = iterations_forward q r v h
        in omega arith

    record FirstIteration (p r : ℕ) : Type 0 where
      pub next : ℕ
      pub iteration : Iteration p next
      pub rest : Turned next r

    first_iteration : {p r : ℕ} → Turned p r → (p ≡ r) ⊎ FirstIteration p r
    first_iteration no_iteration = inl refl
    first_iteration (one_iteration {r = r} t v h) = elim (first_iteration t) [
      | inl is ↦ inr (record { next = r; iteration = subst (λ v. Iteration v r) (sym is) h; rest = no_iteration })
      | inr f ↦ inr (record { next = f.next; iteration = f.iteration; rest = one_iteration f.rest v h })
    ]

    -- of two positions on the way from one, one comes after the other
    on_one_way : {e p q : ℕ} → Turned e p → Turned e q → Turned p q ⊎ Turned q p
    on_one_way no_iteration u = inl u
    on_one_way (one_iteration {q = z} {r = p} t v h) u = elim (on_one_way t u) [
      | inl b ↦ elim (first_iteration b) [
        | inl is ↦ inr (subst (λ w. Turned w p) is (one_iteration no_iteration v h))
        | inr f ↦ inl (subst (λ w. Turned w _) (takes_same rules start nodes bodies ranks x sound f.iteration h) f.rest)
      ]
      | inr b ↦ inr (one_iteration b v h)
    ]

    record Entered (q : ℕ) : Type 0 where
      pub position : ℕ
      pub task : MatchTask
      pub reached : R task
      pub enters : Enters position task
      pub turned : Turned position q

    -- each of its positions is reached from an entry by iterations
    entered_once : {b : MatchTask} → R b → (q : ℕ) → b ≡ Eval m q → Entered q
    entered_once reach_root q is =
        absurd (let same : root ≡ m = cc is in
        loop.not_root (subst (λ v. slice_get bodies start ≡ Some v) same is_root))
    entered_once (reach_edge {a = a} r l) q is = elim (led_in a q (subst (L a) is l)) [
      | inl e ↦ record { position = q; task = a; reached = r; enters = e; turned = no_iteration }
      | inr t ↦
          let before = entered_once r t.0 t.1 in
          record {
            position = before.position;
            task = before.task;
            reached = before.reached;
            enters = before.enters;
            turned = one_iteration before.turned (subst R t.1 r) t.2;
          }
    ]

    one_entry : (q r : ℕ) (a b : MatchTask) → Enters q a → Enters r b → R a → R b → (a ≡ b) × (q ≡ r)
    one_entry q r a b e f s t = same_entry (way_of loop.entry loop.shape) loop.entry m q r a b
        (one_position loop.single) loop.once e f s t

    not_back : (q p : ℕ) (a : MatchTask) → Enters q a → R a → R (Eval m p) → Iteration p q → ⊥
    not_back q p a e s r t =
        let b = entered_once r p refl in
        let is = (one_entry q b.position a b.task e b.enters s b.reached).1 in
        let low = turned_on b.turned in
        let less = iterations_forward p q r t in
        omega arith

    same_iteration : (p r q : ℕ) → R (Eval m p) → R (Eval m r) → Iteration p q → Iteration r q → Turned p r → p ≡ r
    same_iteration p r q v w t u on = elim (first_iteration on) [
      | inl is ↦ is
      | inr f ↦
          let is : f.next ≡ q = takes_same rules start nodes bodies ranks x sound f.iteration t in
          let low = turned_on f.rest in
          let less = iterations_forward r q w u in
          absurd (omega arith)
    ]

    one_of_loop : (q : ℕ) (a b : MatchTask) → R a → L a (Eval m q) → R b → L b (Eval m q) → a ≡ b
    one_of_loop q a b r l s k = elim (led_in a q l) [
      | inl e ↦ elim (led_in b q k) [
        | inl f ↦ (one_entry q q a b e f r s).0
        | inr u ↦ absurd (not_back q u.0 a e r (subst R u.1 s) u.2)
      ]
      | inr t ↦ elim (led_in b q k) [
        | inl f ↦ absurd (not_back q t.0 b f s (subst R t.1 r) t.2)
        | inr u ↦
            let v = subst R t.1 r in
            let w = subst R u.1 s in
            let c = entered_once v t.0 refl in
            let d = entered_once w u.0 refl in
            let start_same : d.position
            ≡ c.position = (one_entry d.position c.position d.task c.task d.enters c.enters d.reached
            c.reached).1 in
            let other : Turned c.position u.0 = subst (λ z. Turned z u.0) start_same d.turned in
            let is : t.0 ≡ u.0 = elim (on_one_way c.turned other) [
              | inl on ↦ same_iteration t.0 u.0 q v w t.2 u.2 on
              | inr on ↦ sym (same_iteration u.0 t.0 q w v u.2 t.2 on)
            ] in
            cc (t.1, u.1, is)
      ]
    ]

  module _ (m : ℕ) (it : IsIterated start nodes bodies m) where
    abbrev S : ℕ
    S = it.star

    abbrev P : ℕ
    P = it.loop.entry

    star_apart : S ≡ m → ⊥
    star_apart = subst (λ w. WayEntersOnce start nodes bodies w S) it.goes it.loop.once

    -- a repetition leads to m at its own position
    leads_there : (w : Way) (k n p q : ℕ) → w ≡ Iterations k S → LB w n p (Eval m q) → (k ≡ m) × (p ≡ q)
    leads_there w k n p q is l = elim (subst (λ v. LB v n p (Eval m q)) is l) [
      | inl a ↦
          let same : m ≡ k = cc a in
          let at : q ≡ p = cc a in
          (sym same, sym at)
      | inr a ↦ let same : m ≡ S = cc (a.2) in absurd (star_apart (sym same))
    ]

    -- one of two repetitions at q leads to m there
    data LedFrom (q : ℕ) (a : MatchTask) : Type 0 where
      from_plus : a ≡ Eval P q → LedFrom q a
      from_star : a ≡ Eval S q → it.loop.operand ≡ m → LedFrom q a

    plus_way : (n : ℕ) (other : Shape) → n ≡ P → slice_get nodes n ≡ Some other → way_of n other ≡ Iterations m S
    plus_way n other is at =
        let same = entered_by S it.loop n other is at in
        ap (way_of n) same ∙ (ap (λ v. way_of v it.loop.shape) is ∙ it.goes)

    star_way : (n : ℕ) (other : Shape) → n ≡ S → slice_get nodes n ≡ Some other
        → way_of n other ≡ Iterations it.loop.operand S
    star_way n other is at =
        ap (way_of n) (star_shape S it.loop n other is at) ∙ ap (λ v. Iterations it.loop.operand v) is

    led_from : (a : MatchTask) (q : ℕ) → L a (Eval m q) → LedFrom q a
    led_from (Eval n p) q l = elim (it.only n l.0 l.1 (names_by (way_of n l.0) n p m q l.2)) [
      | inl is ↦
          let there = leads_there (way_of n l.0) m n p q (plus_way n l.0 is l.1) l.2 in
          let at = there.1 in
          from_plus (cc (is, at))
      | inr is ↦
          let there = leads_there (way_of n l.0) it.loop.operand n p q (star_way n l.0 is l.1) l.2 in
          let at = there.1 in
          from_star (cc (is, at)) there.0
    ]
    led_from (Tail n i p) q l = elim (it.only n l.0 l.1 (rest_names_by (way_of n l.0) n i p m q l.2)) [
      | inl is ↦ absurd (subst (λ w. RB w n i p (Eval m q)) (plus_way n l.0 is l.1) l.2)
      | inr is ↦ absurd (subst (λ w. RB w n i p (Eval m q)) (star_way n l.0 is l.1) l.2)
    ]

    -- the two repetitions are not asked for at one position
    not_both : (q : ℕ) → it.loop.operand ≡ m → R (Eval P q) → R (Eval S q) → ⊥
    not_both q same r s =
        let b = entered_once S it.loop s q refl in
        let e : EntersHere (Iterations m S) P S b.position b.task =
        subst (λ w. EntersHere w P S b.position b.task) it.goes b.enters in
        let is : e.0 ≡ q = one_position it.loop.single e.0 q (subst R e.2 b.reached) r in
        let takes : NodeTakes rules nodes bodies x it.loop.operand q b.position =
        subst (λ v. NodeTakes rules nodes bodies x v q b.position) (sym same)
        (subst (λ v. NodeTakes rules nodes bodies x m v b.position) is e.1) in
        let less = iterations_forward S it.loop q b.position s takes in
        let low = turned_on S it.loop b.turned in
        omega arith

    one_of_iterated : (q : ℕ) (a b : MatchTask) → R a → L a (Eval m q) → R b → L b (Eval m q) → a ≡ b
    one_of_iterated q a b r l s k = elim (led_from a q l) [
      | from_plus e ↦ elim (led_from b q k) [
        | from_plus f ↦ cc (e, f)
        | from_star f same ↦ absurd (not_both q same (subst R e r) (subst R f s))
      ]
      | from_star e same ↦ elim (led_from b q k) [
        | from_plus f ↦ absurd (not_both q same (subst R f s) (subst R e r))
        | from_star f other ↦ cc (e, f)
      ]
    ]

  module _ (marks : ℕ → Bool) (tails : ℕ → ℕ → Bool) (are : AreByNamers start nodes bodies marks tails) where
    step_back : (n i : ℕ) → tails n (suc i) ≡ false → (shape : Shape) → slice_get nodes n ≡ Some shape → (p r q : ℕ)
        → R (Tail n i p) → R (Tail n i r) → StepBy (way_of n shape) i p q → StepBy (way_of n shape) i r q → p ≡ r
    step_back n i t node.Any at p r q a b c d = absurd c
    step_back n i t (node.Bytes h) at p r q a b c d = absurd c
    step_back n i t (node.Set h) at p r q a b c d = absurd c
    step_back n i t (node.Name h) at p r q a b c d = absurd c
    step_back n i t (node.Seq ms) at p r q a b c d = elim (are.fixed n i c.0 ms at c.1 t) [
      | inl w ↦
          let same : d.0 ≡ c.0 = cc (c.1, d.1) in
          let one : q ≡ p + w.0 = takes_width rules start nodes bodies ranks x sound c.0 w.0 p q w.1 c.2 in
          let two : q ≡ r + w.0 = takes_width rules start nodes bodies ranks x sound c.0 w.0 r q w.1
          (subst (λ v. NodeTakes rules nodes bodies x v r q) same d.2) in
          omega arith
      | inr s ↦ rest_one_position n (one_position s) i p r a b
    ]
    step_back n i t (node.Choice ms) at p r q a b c d = cc
    step_back n i t (node.Star h) at p r q a b c d = absurd c
    step_back n i t (node.Plus h j) at p r q a b c d = absurd c
    step_back n i t (node.Opt h) at p r q a b c d = absurd c
    step_back n i t (node.And h) at p r q a b c d = absurd c
    step_back n i t (node.Not h) at p r q a b c d = absurd c
    step_back n i t (node.Act h) at p r q a b c d = absurd c
    step_back n i t node.Open at p r q a b c d = absurd c
    step_back n i t node.Close at p r q a b c d = absurd c

    named_once : (a b c : MatchTask) → is_key marks tails c ≡ false → R a → L a c → R b → L b c → a ≡ b
    named_once a b (Eval m q) t r l s k = elim (are.plain m t) [
      | once_plain plain ↦ one_of_plain m q plain a b l k
      | once_loop loop ↦ one_of_loop m loop q a b r l s k
      | once_iterated it ↦ one_of_iterated m it q a b r l s k
    ]
    named_once a b (Tail n zero q) t r l s k =
        let one = first_led a n q l in
        let two = first_led b n q k in
        cc
    named_once a b (Tail n (suc i) q) t r l s k =
        let f = later_led a n i q l in
        let g = later_led b n i q k in
        let same : g.shape ≡ f.shape = cc (f.at, g.at) in
        let is : f.position ≡ g.position =
        step_back n i t f.shape f.at f.position g.position q (subst R f.is r) (subst R g.is s) f.step
        (subst (λ v. StepBy (way_of n v) i g.position q) same g.step) in
        cc (is, f.is, g.is)

  module _ (marks : ℕ → Bool) (tails : ℕ → ℕ → Bool) (are : AreMarks start nodes bodies marks tails) where
    pub one_leads : (a b c : MatchTask) → is_key marks tails c ≡ false → R a → L a c → R b → L b c → a ≡ b
    one_leads a b c t r l s k = elim are.once [
      | inl named ↦ named_once marks tails named a b c t r l s k
      | inr good ↦ predictive_once rules start nodes bodies ranks x sound root is_root good a b c r l s k
    ]
