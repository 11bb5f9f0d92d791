-- Each iteration of the machine's loop lowers what is left.
-- Serves: Packrat::match_unit
use Rattle.std.proofs.Common.{◌≡◌, inl, inr, ℕ, zero, suc, ◌+◌, ◌*◌, ◌-◌, ◌<◌, ◌≤◌, Bool, List}
use Rattle.std.proofs.Common.{[], ◌∷◌, true, false}
use Rattle.std.proofs.Common.{Some, refl, sym, subst, arith}
use Rattle.std.specs.Prelude.{slice_get}
use Rattle.pegread.specs.PegViews.{rules_of}
use Rattle.gramcheck.specs.Grammar.{Grammar}
use Rattle.pegnodes.specs.Nodes as node
use Rattle.pegnodes.specs.Nodes.{Shape, shapes_of}
use Rattle.memo.specs.declared.key_log.Given.{Given}
use Rattle.memo.specs.declared.task.MatchTask.{MatchTask}
use Rattle.memo.specs.declared.task.MatchTask.TheVariants.{Eval, Tail}
use Rattle.packrat.specs.IterationsLeft.{members_of, most_members, ask_cost, wait_cost, frames_cost, most_begun}
use Rattle.packrat.specs.IterationsLeft.{left, iteration_cost}
use Rattle.packrat.specs.Turned.{AreTurnedFrames}
use Rattle.packrat.specs.declared.iterations.Iterations as reported
use Rattle.packrat.specs.Onward.{HasMember, IsWell}
use Rattle.packrat.specs.TaskSteps.{FirstBy, TailFirstBy, IsFirst}
use Rattle.pegnodes.specs.NodeWays.{Way, Leaf, Body, Members, Alternatives, Iterations, Operand, way_of}
use Rattle.packrat.specs.MatchTasks.{KidsBy, TailKidsBy}
use Rattle.packrat.specs.MatchTasks.{Kids}
use Rattle.packrat.specs.View.{weight}
use Rattle.packrat.specs.declared.frames.Frame.{Frame}
use Rattle.memo.specs.declared.key_log.Stored.{Stored}
use Rattle.packrat.specs.Stands.{AreWaiting, AreEntered, IsEntered}
use Rattle.packrat.specs.Onward.{tail_of}
use Rattle.packrat.specs.declared.onward.Entering.{Entering}
use Rattle.packrat.specs.declared.frames.Wait.{Wait}
use Rattle.packrat.specs.declared.frames.Wait.TheVariants.{First, Last, Turned}
use Rattle.packrat.specs.LoopIterations.{Iteration, Ask, Answer}

member_counted : (shape : Shape) (i : ℕ) → HasMember shape i → i < members_of (way_of 0 shape)
member_counted node.Any i h = absurd h
member_counted (node.Bytes bs) i h = absurd h
member_counted (node.Set s) i h = absurd h
member_counted (node.Name id) i h = absurd h
member_counted (node.Seq ms) i h = h
member_counted (node.Choice ms) i h = h
member_counted (node.Star k) i h = absurd h
member_counted (node.Plus k s) i h = absurd h
member_counted (node.Opt k) i h = absurd h
member_counted (node.And k) i h = absurd h
member_counted (node.Not k) i h = absurd h
member_counted (node.Act t) i h = absurd h
member_counted node.Open i h = absurd h
member_counted node.Close i h = absurd h

counted_below : (nodes : List Shape) (n i : ℕ) (shape : Shape) → slice_get nodes n ≡ Some shape
    → i < members_of (way_of 0 shape) → i < most_members nodes
counted_below [] n i shape h lt = absurd (cc h)
counted_below (s ∷ nodes) zero i shape h lt =
    let is : s ≡ shape = cc h in
    let here : i < members_of (way_of 0 s) = subst (λ v. i < members_of (way_of 0 v)) (sym is) lt in
    omega arith
counted_below (s ∷ nodes) (suc n) i shape h lt =
    let rec = counted_below nodes n i shape h lt in
    omega arith

-- a product with one more
one_times : (c most begun : ℕ) → begun + 1 ≤ most → c * (most - begun) ≡ c + c * (most - (begun + 1))
one_times c most begun le =
    let is : most - begun ≡ suc (most - (begun + 1)) = omega arith in
    subst (λ v. c * v ≡ c + c * (most - (begun + 1))) (sym is) (grind arith)

times_less : (c most less more : ℕ) → less ≤ more → c * (most - more) ≤ c * (most - less)
times_less c most less more le =
    let under : most - more ≤ most - less = omega (arith, le) in
    grind (arith, under)

sums_less : (a b c d : ℕ) → a + c < a + d → b + c < b + d
sums_less a b c d less = omega (arith, less)

module _ (g : Grammar) (x : List ℕ) where
  abbrev Most : ℕ
  Most = most_members (shapes_of g.nodes)

  abbrev F : MatchTask → MatchTask → Type 0
  F a k = IsFirst (rules_of g.rules) (shapes_of g.nodes) g.bodies x a k

  abbrev K : MatchTask → List MatchTask → Type 0
  K a ks = Kids (rules_of g.rules) (shapes_of g.nodes) g.bodies x a ks

  member_below : (n i p : ℕ) → IsWell g x (Tail n i p) → i < Most
  member_below n i p w = counted_below (shapes_of g.nodes) n i w.2.0 w.2.1 (member_counted w.2.0 i w.2.2)

  costs_some : (a : MatchTask) → IsWell g x a → 1 ≤ ask_cost Most a
  costs_some (Eval n p) w = omega arith
  costs_some (Tail n i p) w = let lt = member_below n i p w in omega arith

  first_of_node : (way : Way) (n p : ℕ) (k : MatchTask)
      → FirstBy (rules_of g.rules) (shapes_of g.nodes) g.bodies x way n p k → ask_cost Most k ≤ 4 * Most + 1
  first_of_node Leaf n p k h = absurd h
  first_of_node (Body id) n p k h = subst (λ v. ask_cost Most v ≤ 4 * Most + 1) (sym h.2) (omega arith)
  first_of_node (Members ms) n p k h = subst (λ v. ask_cost Most v ≤ 4 * Most + 1) (sym h.2) (omega arith)
  first_of_node (Alternatives ms) n p k h = subst (λ v. ask_cost Most v ≤ 4 * Most + 1) (sym h.2) (omega arith)
  first_of_node (Iterations o s) n p k h = subst (λ v. ask_cost Most v ≤ 4 * Most + 1) (sym h) (omega arith)
  first_of_node (Operand o) n p k h = subst (λ v. ask_cost Most v ≤ 4 * Most + 1) (sym h) (omega arith)

  first_of_tail : (way : Way) (n i p : ℕ) (k : MatchTask)
      → TailFirstBy (rules_of g.rules) (shapes_of g.nodes) g.bodies x way n i p k → ask_cost Most k ≡ 1
  first_of_tail Leaf n i p k h = absurd h
  first_of_tail (Body id) n i p k h = absurd h
  first_of_tail (Members ms) n i p k h = subst (λ v. ask_cost Most v ≡ 1) (sym h.2) refl
  first_of_tail (Alternatives ms) n i p k h = subst (λ v. ask_cost Most v ≡ 1) (sym h.2) refl
  first_of_tail (Iterations o s) n i p k h = absurd h
  first_of_tail (Operand o) n i p k h = absurd h

  -- the second of two
  second_is : {j k l m : MatchTask} → j ∷ (k ∷ []) ≡ l ∷ (m ∷ []) → k ≡ m
  second_is h = cc h

  not_one : {j k l : MatchTask} {A : Type 0} → j ∷ (k ∷ []) ≡ l ∷ [] → A
  not_one h = absurd (cc h)

  not_none : {j k : MatchTask} {A : Type 0} → j ∷ (k ∷ []) ≡ [] → A
  not_none h = absurd (cc h)

  second_of_node : (way : Way) (n p : ℕ) (j k : MatchTask)
      → KidsBy (rules_of g.rules) (shapes_of g.nodes) g.bodies x way n p (j ∷ (k ∷ [])) → ask_cost Most k ≡ 1
  second_of_node Leaf n p j k h = not_none h
  second_of_node (Body id) n p j k h = not_one h.2
  second_of_node (Members ms) n p j k h = elim h [ inl e ↦ not_none e.1 | inr e ↦ not_one e.2 ]
  second_of_node (Alternatives ms) n p j k h = elim h [ inl e ↦ not_none e.1 | inr e ↦ not_one e.2 ]
  second_of_node (Iterations o s) n p j k h = elim h [
    | inl e ↦ not_one e.1
    | inr e ↦ subst (λ v. ask_cost Most v ≡ 1) (sym (second_is e.2)) refl
  ]
  second_of_node (Operand o) n p j k h = not_one h

  second_of_tail : (way : Way) (n i p : ℕ) (j k : MatchTask)
      → TailKidsBy (rules_of g.rules) (shapes_of g.nodes) g.bodies x way n i p (j ∷ (k ∷ []))
      → ask_cost Most k ≡ 4 * (Most - suc i)
  second_of_tail Leaf n i p j k h = absurd h
  second_of_tail (Body id) n i p j k h = absurd h
  second_of_tail (Members ms) n i p j k h = elim h.2 [
    | inl e ↦ not_one e.1
    | inr e ↦ subst (λ v. ask_cost Most v ≡ 4 * (Most - suc i)) (sym (second_is e.4)) refl
  ]
  second_of_tail (Alternatives ms) n i p j k h = elim h.2 [
    | inl e ↦ not_one e.1
    | inr e ↦ subst (λ v. ask_cost Most v ≡ 4 * (Most - suc i)) (sym (second_is e.3)) refl
  ]
  second_of_tail (Iterations o s) n i p j k h = absurd h
  second_of_tail (Operand o) n i p j k h = absurd h

  waits_some : (w : Wait) (a : MatchTask) → 1 ≤ wait_cost Most w a
  waits_some (Last head) a = omega arith
  waits_some (Turned last) a = omega arith
  waits_some First (Eval n p) = omega arith
  waits_some First (Tail n i p) = omega arith

  -- a task that is stored
  pub less_stored : (a : MatchTask) (f : Given) (fs : List Frame) (begun : ℕ) → IsWell g x a
      → left g x (Answer f) fs begun < left g x (Ask a) fs begun
  unfolding left
  less_stored a f fs begun w = let some = costs_some a w in omega arith

  -- a task that begins, and gives something at once
  pub less_leaf : (a : MatchTask) (f : Given) (fs : List Frame) (begun now : ℕ) → now ≡ begun + weight a
      → now ≤ most_begun g x → IsWell g x a → left g x (Answer f) fs now < left g x (Ask a) fs begun
  unfolding left
  less_leaf (Eval n p) f fs begun now is le w =
      let more = one_times (4 * Most + 4) (most_begun g x) begun (omega (arith, is, le)) in
      subst (λ v. (4 * Most + 4) * (most_begun g x - v) + (0 + frames_cost Most fs)
      < (4 * Most + 4) * (most_begun g x - begun) + (1 + frames_cost Most fs)) (sym is) (omega (arith, more))
  less_leaf (Tail n i p) f fs begun now is le w =
      let some = costs_some (Tail n i p) w in
      let same : now ≡ begun = omega (arith, is) in
      subst (λ v. (4 * Most + 4) * (most_begun g x - v) + (0 + frames_cost Most fs)
      < (4 * Most + 4) * (most_begun g x - begun) + (4 * (Most - i) + frames_cost Most fs)) (sym same) (omega arith)

  -- a task that begins so many evaluations, with a frame or none
  pub less_iterations : (n p m q : ℕ) (fs gs : List Frame) (begun now evals : ℕ) → now ≡ begun + evals → 1 ≤ evals
      → now ≤ most_begun g x → frames_cost Most gs ≤ 1 + frames_cost Most fs
      → left g x (Ask (Eval m q)) gs now < left g x (Ask (Eval n p)) fs begun
  unfolding left
  less_iterations n p m q fs gs begun now evals is some le few =
      let more = one_times (4 * Most + 4) (most_begun g x) begun (omega (arith, is, le, some)) in
      let rest = times_less (4 * Most + 4) (most_begun g x) (begun + 1) now (omega (arith, is, some)) in
      omega (arith, more, rest, few)

  -- a task that begins so many evaluations, and gives something
  pub less_ended : (n p : ℕ) (f : Given) (fs : List Frame) (begun now evals : ℕ) → now ≡ begun + evals → 1 ≤ evals
      → now ≤ most_begun g x → left g x (Answer f) fs now < left g x (Ask (Eval n p)) fs begun
  unfolding left
  less_ended n p f fs begun now evals is some le =
      let more = one_times (4 * Most + 4) (most_begun g x) begun (omega (arith, is, le, some)) in
      let rest = times_less (4 * Most + 4) (most_begun g x) (begun + 1) now (omega (arith, is, some)) in
      omega (arith, more, rest)

  pub turned_costs : (key : Bool) (t : reported.Iterations) (fs gs : List Frame) → AreTurnedFrames key t fs gs
      → frames_cost Most gs ≤ 1 + frames_cost Most fs
  turned_costs true t fs gs is = subst (λ v. frames_cost Most v ≤ 1 + frames_cost Most fs) (sym is) (omega arith)
  turned_costs false t fs gs is = subst (λ v. frames_cost Most v ≤ 1 + frames_cost Most fs) (sym is) (omega arith)

  pub waiting_costs : (key : Bool) (head : ℕ) (a : MatchTask) (fs gs : List Frame) → AreWaiting key head a fs gs
      → frames_cost Most gs ≤ 1 + frames_cost Most fs
  waiting_costs key head a fs gs (inl is) =
      subst (λ v. frames_cost Most v ≤ 1 + frames_cost Most fs) (sym is) (omega arith)
  waiting_costs key head a fs gs (inr h) =
      subst (λ v. frames_cost Most v ≤ 1 + frames_cost Most fs) (sym h.2) (omega arith)

  -- a task that begins, and asks for its first child; it has a frame, or none
  task_down : (a k : MatchTask) (fs gs : List Frame) (begun now : ℕ) → now ≡ begun + weight a → now ≤ most_begun g x
      → IsWell g x a → F a k → frames_cost Most gs ≤ wait_cost Most First a + frames_cost Most fs
      → left g x (Ask k) gs now < left g x (Ask a) fs begun
  unfolding left
  task_down (Eval n p) k fs gs begun now is le w h few =
      let more = one_times (4 * Most + 4) (most_begun g x) begun (omega (arith, is, le)) in
      let cost = first_of_node (way_of n h.0) n p k h.2 in
      subst (λ v. (4 * Most + 4) * (most_begun g x - v) + (ask_cost Most k + frames_cost Most gs)
      < (4 * Most + 4) * (most_begun g x - begun) + (1 + frames_cost Most fs)) (sym is)
      (omega (arith, more, cost, few))
  task_down (Tail n i p) k fs gs begun now is le w h few =
      let lt = member_below n i p w in
      let same : now ≡ begun = omega (arith, is) in
      let cost = first_of_tail (way_of n h.0) n i p k h.2 in
      subst (λ v. (4 * Most + 4) * (most_begun g x - v) + (ask_cost Most k + frames_cost Most gs)
      < (4 * Most + 4) * (most_begun g x - begun) + (4 * (Most - i) + frames_cost Most fs)) (sym same)
      (omega (arith, cost, lt, few))

  -- a tail that asks for its member costs less, also with a frame
  down_tail : (n i p m q : ℕ) (fs gs : List Frame) (begun : ℕ) → IsWell g x (Tail n i p)
      → frames_cost Most gs ≤ wait_cost Most First (Tail n i p) + frames_cost Most fs
      → left g x (Ask (Eval m q)) gs begun < left g x (Ask (Tail n i p)) fs begun
  unfolding left
  down_tail n i p m q fs gs begun w few =
      let lt = member_below n i p w in
      omega (arith, lt, few)

  entered_costs : (only key : Bool) (a : MatchTask) (fs gs : List Frame) → AreEntered only key a fs gs
      → frames_cost Most gs ≤ wait_cost Most First a + frames_cost Most fs
  entered_costs true key a fs gs are =
      let some = waits_some First a in
      let few = waiting_costs key 0 a fs gs are in
      omega (arith, some, few)
  entered_costs false key a fs gs is =
      subst (λ v. frames_cost Most v ≤ wait_cost Most First a + frames_cost Most fs) (sym is) (omega arith)

  -- a tail that is entered costs no more than one that is asked for
  pub entered_less : (stored : List Stored) (e : Entering) (fs gs : List Frame) (t : Iteration) (begun : ℕ)
      → IsWell g x (tail_of e) → IsEntered stored e fs gs t
      → left g x t gs begun ≤ left g x (Ask (tail_of e)) fs begun
  entered_less stored e fs gs t begun w (inl i) =
      subst (λ v. left g x v gs begun ≤ left g x (Ask (tail_of e)) fs begun) (sym i.3)
      (subst (λ v. left g x (Answer i.0) v begun ≤ left g x (Ask (tail_of e)) fs begun) (sym i.4)
      (let less = less_stored (tail_of e) i.0 fs begun w in omega (arith, less)))
  entered_less stored e fs gs t begun w (inr i) =
      subst (λ v. left g x v gs begun ≤ left g x (Ask (tail_of e)) fs begun) (sym i.1)
      (let less = down_tail e.node e.index e.position e.member e.position fs gs begun w
      (entered_costs e.only e.key (tail_of e) fs gs i.2) in omega (arith, less))

  less_tail : (n p m i q : ℕ) (fs gs : List Frame) (begun now evals : ℕ) → now ≡ begun + evals → 1 ≤ evals
      → now ≤ most_begun g x → frames_cost Most gs ≤ 1 + frames_cost Most fs
      → left g x (Ask (Tail m i q)) gs now < left g x (Ask (Eval n p)) fs begun
  unfolding left
  less_tail n p m i q fs gs begun now evals is some le few =
      let more = one_times (4 * Most + 4) (most_begun g x) begun (omega (arith, is, le, some)) in
      let rest = times_less (4 * Most + 4) (most_begun g x) (begun + 1) now (omega (arith, is, some)) in
      omega (arith, more, rest, few)

  -- a task that begins so many evaluations, with a tail that is entered
  pub less_skipped : (stored : List Stored) (n p : ℕ) (e : Entering) (t : Iteration) (key : Bool)
      (fs mid gs : List Frame) (begun now evals : ℕ) → now ≡ begun + evals → 1 ≤ evals → now ≤ most_begun g x
      → IsWell g x (tail_of e) → AreWaiting key 0 (Eval n p) fs mid → IsEntered stored e mid gs t
      → left g x t gs now < left g x (Ask (Eval n p)) fs begun
  less_skipped stored n p e t key fs mid gs begun now evals is some le well are i =
      let few = waiting_costs key 0 (Eval n p) fs mid are in
      let one = less_tail n p e.node e.index e.position fs mid begun now evals is some le few in
      let two = entered_less stored e mid gs t now well i in
      omega (arith, one, two)

  pub less_down : (a k : MatchTask) (key : Bool) (fs : List Frame) (begun now : ℕ) → now ≡ begun + weight a
      → now ≤ most_begun g x → IsWell g x a → F a k
      → left g x (Ask k) (record { task = a; key = key; wait = First } ∷ fs) now < left g x (Ask a) fs begun
  less_down a k key fs begun now is le w h =
      task_down a k fs (record { task = a; key = key; wait = First } ∷ fs) begun now is le w h (omega arith)

  pub less_pass : (a k : MatchTask) (key : Bool) (head : ℕ) (fs gs : List Frame) (begun now : ℕ) → now
      ≡ begun + weight a
      → now ≤ most_begun g x → IsWell g x a → F a k → AreWaiting key head a fs gs
      → left g x (Ask k) gs now < left g x (Ask a) fs begun
  less_pass a k key head fs gs begun now is le w h are =
      let some = waits_some First a in
      let few = waiting_costs key head a fs gs are in
      task_down a k fs gs begun now is le w h (omega (arith, some, few))

  -- a frame that asks for its last
  pub less_on : (a j k : MatchTask) (given : Given) (key : Bool) (head : ℕ) (fs gs : List Frame) (begun : ℕ)
      → K a (j ∷ (k ∷ [])) → AreWaiting key head a fs gs
      → left g x (Ask k) gs begun
      < left g x (Answer given) (record { task = a; key = key; wait = First } ∷ fs) begun
  unfolding left
  less_on (Eval n p) j k given key head fs gs begun h are =
      let cost = second_of_node (way_of n h.0) n p j k h.2 in
      let few = waiting_costs key head (Eval n p) fs gs are in
      omega (arith, cost, few)
  less_on (Tail n i p) j k given key head fs gs begun h are =
      let cost = second_of_tail (way_of n h.0) n i p j k h.2 in
      let few = waiting_costs key head (Tail n i p) fs gs are in
      omega (arith, cost, few)

  -- a frame that ends
  pub less_up : (l : Frame) (own given : Given) (fs : List Frame) (begun : ℕ)
      → left g x (Answer own) fs begun < left g x (Answer given) (l ∷ fs) begun
  unfolding left
  less_up l own given fs begun = let some = waits_some l.wait l.task in omega arith

  -- with a tail that is entered
  pub less_pass_in : (stored : List Stored) (a : MatchTask) (t : Iteration) (e : Entering) (key : Bool)
      (head : ℕ) (fs mid gs : List Frame) (begun now : ℕ) → now ≡ begun + weight a
      → now ≤ most_begun g x → IsWell g x a → F a (tail_of e) → IsWell g x (tail_of e) → AreWaiting key head a fs mid
      → IsEntered stored e mid gs t → left g x t gs now < left g x (Ask a) fs begun
  less_pass_in stored a t e key head fs mid gs begun now is le w h well are i =
      let one = less_pass a (tail_of e) key head fs mid begun now is le w h are in
      let two = entered_less stored e mid gs t now well i in
      omega (arith, one, two)

  pub less_on_in : (stored : List Stored) (a j : MatchTask) (t : Iteration) (e : Entering) (given : Given)
      (key : Bool) (head : ℕ) (fs mid gs : List Frame) (begun : ℕ) → K a (j ∷ (tail_of e ∷ [])) → IsWell g x (tail_of e)
      → AreWaiting key head a fs mid → IsEntered stored e mid gs t → left g x t gs begun
      < left g x (Answer given) (record { task = a; key = key; wait = First } ∷ fs) begun
  less_on_in stored a j t e given key head fs mid gs begun h well are i =
      let one = less_on a j (tail_of e) given key head fs mid begun h are in
      let two = entered_less stored e mid gs t begun well i in
      omega (arith, one, two)

  -- where no evaluation begins, an iteration that lowers what is left for one window does so for each
  pub less_anywhere : (y : List ℕ) (t u : Iteration) (fs gs : List Frame) (begun : ℕ)
      → left g x t fs begun < left g x u gs begun → left g y t fs begun < left g y u gs begun
  unfolding left
  less_anywhere y t u fs gs begun less =
      sums_less ((4 * Most + 4) * (most_begun g x - begun)) ((4 * Most + 4) * (most_begun g y - begun))
      (iteration_cost Most t + frames_cost Most fs) (iteration_cost Most u + frames_cost Most gs) less
