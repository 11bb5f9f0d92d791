-- Left steps lead from nodes to nodes, and lower the rank.
-- Serves: exactly_one_outcome, ranks_fall, some_outcome
use Rattle.std.proofs.Common.{◌≡◌, ℕ, ◌<◌, ◌≤◌, List, length, get_or, Some, refl, subst, arith}
use Rattle.std.specs.Prelude.{slice_get, slice_index, Contains}
use Rattle.std.proofs.lemmas.Option.{slice_get-get_or, slice_get_within}
use Rattle.pegread.specs.Pattern.{Pattern, Rule, body_of}
use Rattle.pegnodes.specs.Nodes as node
use Rattle.pegnodes.specs.Nodes.{Shape, id_of, Spells}
use Rattle.gramcheck.specs.Ranks.{NodeStep, to_body, to_alternative, to_member, to_starred, to_repeated, to_optional}
use Rattle.gramcheck.specs.Ranks.{to_asserted, to_denied, FrontNode, front_first, front_later}
use Rattle.gramcheck.specs.Sound.{IsRanked}
use Rattle.pegnodes.proofs.OwnIdLemmas.{body_there}
use Rattle.fixpoint.proofs.ContainsLemmas.{in_first, in_later}
use Rattle.pegnodes.proofs.NodeSpellsLemmas.{is_there}

module _ (rules : List Rule) (nodes : List Shape) (bodies : List ℕ) where
  steps_from : {n m : ℕ} → NodeStep rules nodes bodies n m → n < length nodes
  steps_from (to_body {n = n} {id = id} g b) = slice_get_within nodes n (node.Name id) g
  steps_from (to_alternative {n = n} {ms = ms} g h) = slice_get_within nodes n (node.Choice ms) g
  steps_from (to_member {n = n} {ms = ms} g f) = slice_get_within nodes n (node.Seq ms) g
  steps_from (to_starred {n = n} {m = m} g) = slice_get_within nodes n (node.Star m) g
  steps_from (to_repeated {n = n} {m = m} {k = k} g) = slice_get_within nodes n (node.Plus m k) g
  steps_from (to_optional {n = n} {m = m} g) = slice_get_within nodes n (node.Opt m) g
  steps_from (to_asserted {n = n} {m = m} g) = slice_get_within nodes n (node.And m) g
  steps_from (to_denied {n = n} {m = m} g) = slice_get_within nodes n (node.Not m) g

  -- a member that only nullable ones stand before is one of them
  pub front_contained : {ms : List ℕ} {m : ℕ} → FrontNode rules nodes bodies ms m → Contains ms m
  front_contained (front_first {m = m} {ms = ms}) = in_first m ms
  front_contained (front_later {k = k} {m = m} {ms = ms} null f) = in_later k m ms (front_contained f)

module _ (rules : List Rule) (start : ℕ) (nodes : List Shape) (bodies ranks : List ℕ)
    (sound : IsRanked rules start nodes bodies ranks) where
  low_there : {n m : ℕ} → n < length nodes → m < n → m < length nodes
  low_there lt less = omega arith

  pub steps_to : {n m : ℕ} → NodeStep rules nodes bodies n m → m < length nodes
  steps_to (to_body {id = id} {m = m} g b) = is_there rules nodes ((sound.spelled.spelled id m b).2)
  steps_to (to_alternative {n = n} {m = m} {ms = ms} g h) = low_there (slice_get_within nodes n (node.Choice ms) g)
      (sound.built.after n m (node.Choice ms) g h)
  steps_to (to_member {n = n} {m = m} {ms = ms} g f) =
      low_there (slice_get_within nodes n (node.Seq ms) g)
      (sound.built.after n m (node.Seq ms) g (front_contained rules nodes bodies f))
  steps_to (to_starred {n = n} {m = m} g) = low_there (slice_get_within nodes n (node.Star m) g)
      (sound.built.after n m (node.Star m) g refl)
  steps_to (to_repeated {n = n} {m = m} {k = k} g) = low_there (slice_get_within nodes n (node.Plus m k) g)
      (sound.built.after n m (node.Plus m k) g refl)
  steps_to (to_optional {n = n} {m = m} g) = low_there (slice_get_within nodes n (node.Opt m) g)
      (sound.built.after n m (node.Opt m) g refl)
  steps_to (to_asserted {n = n} {m = m} g) = low_there (slice_get_within nodes n (node.And m) g)
      (sound.built.after n m (node.And m) g refl)
  steps_to (to_denied {n = n} {m = m} g) = low_there (slice_get_within nodes n (node.Not m) g)
      (sound.built.after n m (node.Not m) g refl)

  abbrev pub rank : ℕ → ℕ
  rank n = slice_index ranks n

  rank_at : (n : ℕ) → n < length nodes → slice_get ranks n ≡ Some (rank n)
  rank_at n lt = slice_get-get_or ranks n 0 (omega (arith, sound.falling.count))

  pub rank_bound : (n : ℕ) → n < length nodes → rank n ≤ length nodes
  rank_bound n lt = sound.falling.bound n (rank n) (rank_at n lt)

  pub rank_lower : (n m : ℕ) → NodeStep rules nodes bodies n m → rank m < rank n
  rank_lower n m step = sound.falling.lower n m (rank n) (rank m) step (rank_at n (steps_from rules nodes bodies step))
      (rank_at m (steps_to step))

  -- a node that is a name steps to the node of that name's body
  pub record StepsToBody (n : ℕ) (word : List ℕ) : Type 0 where
    pub node : ℕ
    pub body : Pattern
    pub is : body_of rules word ≡ Some body
    pub step : NodeStep rules nodes bodies n node
    pub spelled : Spells rules nodes node body

  pub steps_to_body : (n : ℕ) (word : List ℕ) → slice_get nodes n ≡ Some (node.Name (id_of rules word))
      → StepsToBody n word
  steps_to_body n word g =
      let lt = sound.defined n (id_of rules word) g in
      let body = body_there rules word lt in
      let at = slice_get-get_or bodies (id_of rules word) 0 (omega (arith, lt, sound.spelled.count)) in
      let one = sound.spelled.spelled (id_of rules word) (get_or bodies (id_of rules word) 0) at in
      let same : one.0 ≡ body.0 = cc (one.1, body.2) in
      record {
        node = get_or bodies (id_of rules word) 0;
        body = body.0;
        is = body.1;
        step = to_body g at;
        spelled = subst (λ v. Spells rules nodes (get_or bodies (id_of rules word) 0) v) same one.2;
      }
