-- What a node gives, and what those give of which it is made: both ways.
-- Serves: Packrat::match_unit
use Rattle.std.proofs.Common.{◌≡◌, ◌⊎◌, inl, inr, ℕ, suc, ◌+◌, max, Bool, true, false, List, [], ◌∷◌, ◌++◌, length}
use Rattle.std.proofs.Common.{drop, Some, refl, sym, subst, arith}
use Rattle.std.specs.Prelude.{slice_get, ◌==◌}
use Rattle.std.proofs.lemmas.Bool.{eqb-true, eqb-false, eq-eqb, ne_eqb}
use Rattle.pegread.specs.Pattern as expr
use Rattle.pegread.specs.Pattern.{Pattern, Patterns, Rule}
use Rattle.pegnodes.specs.Nodes as node
use Rattle.pegnodes.specs.Nodes.{Shape, Spells, spells_any, spells_set, spells_bytes, spells_star, spells_act}
use Rattle.pegnodes.specs.Nodes.{spells_open, spells_close, SpellAll, spell_none, spell_more}
use Rattle.gramcheck.specs.Outcome as outcome
use Rattle.gramcheck.specs.Outcome.{Event, Outcome, Takes, Fails, Gives, GivesAll, GivesFirst}
use Rattle.gramcheck.specs.Outcome.{begins_with, compared, looked_at}
use Rattle.gramcheck.specs.Sound.{IsRanked}
use Rattle.pegnodes.proofs.HasShapeLemmas.{has_shape}
use Rattle.pegmatch.specs.KeptEvents.{SpellsSome}
use Rattle.pegmatch.specs.Visits.{NodeGives, NodeTakes, NodeFails}
use Rattle.pegmatch.proofs.GivesLemmas.{is_name, name_gives, star_gives_none, star_never_fails, plus_gives_fails}
use Rattle.pegmatch.proofs.GivesLemmas.{plus_star, opt_gives_takes, opt_gives_none, and_gives_takes, and_gives_fails}
use Rattle.pegmatch.proofs.GivesLemmas.{not_gives_takes, not_gives_fails}
use Rattle.pegmatch.proofs.NodeGivesLemmas.{gives_as}
use Rattle.packrat.proofs.TaskReachLemmas.{front_drop}

-- what an expression gives, its parts give
module _ (rules : List Rule) (x : List ℕ) where
  name_inner : {word : List ℕ} {e : Pattern} {p k : ℕ} {o : Outcome} → expr.body_of rules word ≡ Some e
      → Gives rules x (expr.Name word) p o k → Gives rules x e p o k
  name_inner {e = e} {p = p} {k = k} {o = o} is (outcome.name {e = b} body d) =
      let same : b ≡ e = cc in subst (λ v. Gives rules x v p o k) same d

  seq_inner : {ps : Patterns} {p k : ℕ} {o : Outcome} → Gives rules x (expr.Seq ps) p o k → GivesAll rules x ps p o k
  seq_inner (outcome.seq d) = d

  choice_inner : {ps : Patterns} {p k : ℕ} {o : Outcome} → Gives rules x (expr.Choice ps) p o k
      → GivesFirst rules x ps p o k
  choice_inner (outcome.choice d) = d

  opt_succeeds : {e : Pattern} {p k : ℕ} → Gives rules x (expr.Opt e) p Fails k → ⊥
  opt_succeeds d = elim d [ ]

  and_stays : {e : Pattern} {p q k : ℕ} {es : List Event} → Gives rules x (expr.And e) p (Takes q es) k → q ≡ p
  and_stays (outcome.and_takes d) = refl

  not_stays : {e : Pattern} {p q k : ℕ} {es : List Event} → Gives rules x (expr.Not e) p (Takes q es) k → q ≡ p
  not_stays (outcome.not_takes d) = refl

  any_end : {p q k : ℕ} {es : List Event} → Gives rules x expr.Any p (Takes q es) k → q ≡ p + 1
  any_end (outcome.any_takes h) = refl

  set_end : {s : ℕ → Bool} {p q k : ℕ} {es : List Event} → Gives rules x (expr.Set s) p (Takes q es) k → q ≡ p + 1
  set_end (outcome.set_takes h t) = refl

  bytes_end : {bs : List ℕ} {p q k : ℕ} {es : List Event} → Gives rules x (expr.Bytes bs) p (Takes q es) k
      → q ≡ p + length bs
  bytes_end (outcome.bytes_take h) = refl

-- the comparison of a literal's first byte
begins_here : (b c : ℕ) (rest : List ℕ) → (c == b) ≡ true → begins_with (b ∷ rest) (c ∷ []) ≡ true
begins_here b c rest is = let h : (b == c) ≡ true = eq-eqb b c (sym (eqb-true c b is)) in cc h

begins_apart : (b c : ℕ) (rest cs : List ℕ) → (c == b) ≡ false → begins_with (b ∷ rest) (c ∷ cs) ≡ false
begins_apart b c rest cs not =
    let h : (b == c) ≡ false = ne_eqb b c (λ is. eqb-false c b not (sym is)) in cc h

begins_none : (bytes : List ℕ) → begins_with bytes [] ≡ true
begins_none bytes = refl

module _ (rules : List Rule) (start : ℕ) (nodes : List Shape) (bodies ranks x : List ℕ)
    (sound : IsRanked rules start nodes bodies ranks) where
  abbrev pub NT : ℕ → ℕ → ℕ → Type 0
  NT m p q = NodeTakes rules nodes bodies x m p q

  abbrev pub NF : ℕ → ℕ → Type 0
  NF m p = NodeFails rules nodes bodies x m p

  abbrev pub Has : ℕ → Type 0
  Has n = SpellsSome rules nodes n

  abbrev pub At : ℕ → Shape → Type 0
  At n s = slice_get nodes n ≡ Some s

  -- the members take what is between two positions, each from the end of the one before
  pub data MembersTake : List ℕ → ℕ → ℕ → Type 0 where
    take_none : {p : ℕ} → MembersTake [] p p
    take_more : {m p q r : ℕ} {ms : List ℕ} → NT m p q → MembersTake ms q r → MembersTake (m ∷ ms) p r

  -- a member fails where those before it end
  pub data MembersFail : List ℕ → ℕ → Type 0 where
    fail_here : {m p : ℕ} {ms : List ℕ} → NF m p → MembersFail (m ∷ ms) p
    fail_after : {m p q : ℕ} {ms : List ℕ} → NT m p q → MembersFail ms q → MembersFail (m ∷ ms) p

  -- an alternative takes what is between two positions, and those before it fail
  pub data FirstTakes : List ℕ → ℕ → ℕ → Type 0 where
    takes_here : {m p q : ℕ} {ms : List ℕ} → NT m p q → FirstTakes (m ∷ ms) p q
    takes_later : {m p q : ℕ} {ms : List ℕ} → NF m p → FirstTakes ms p q → FirstTakes (m ∷ ms) p q

  -- each alternative fails
  pub data AllFail : List ℕ → ℕ → Type 0 where
    fail_none : {p : ℕ} → AllFail [] p
    fail_more : {m p : ℕ} {ms : List ℕ} → NF m p → AllFail ms p → AllFail (m ∷ ms) p

  -- what a node gives, the expression gives that it spells, and the other way round
  own_gives : {n p k : ℕ} {o : Outcome} {e : Pattern} → Spells rules nodes n e → NodeGives rules nodes bodies x n p o k
      → Gives rules x e p o k
  own_gives s d = gives_as rules nodes sound.defined bodies x s d

  node_takes : {n p q k : ℕ} {e : Pattern} {es : List Event} → Spells rules nodes n e
      → Gives rules x e p (Takes q es) k → NT n p q
  node_takes {k = k} {e = e} {es = es} s d =
      record { events = es; looked = k; gives = record { expr = e; spelled = s; gives = d } }

  node_fails : {n p k : ℕ} {e : Pattern} → Spells rules nodes n e → Gives rules x e p Fails k → NF n p
  node_fails {k = k} {e = e} s d = record { looked = k; gives = record { expr = e; spelled = s; gives = d } }

  -- of a name
  pub name_takes : {p q : ℕ} (n id m : ℕ) → At n (node.Name id) → Has n → slice_get bodies id ≡ Some m → NT n p q
      → NT m p q
  name_takes n id m at s body t =
      let is = is_name rules start nodes bodies ranks x sound n id m s at body in
      node_takes is.operand (name_inner rules x is.is (own_gives is.spelled t.gives))

  pub name_fails : {p : ℕ} (n id m : ℕ) → At n (node.Name id) → Has n → slice_get bodies id ≡ Some m → NF n p
      → NF m p
  name_fails n id m at s body f =
      let is = is_name rules start nodes bodies ranks x sound n id m s at body in
      node_fails is.operand (name_inner rules x is.is (own_gives is.spelled f.gives))

  pub name_took : {p q : ℕ} (n id m : ℕ) → At n (node.Name id) → Has n → slice_get bodies id ≡ Some m → NT m p q
      → NT n p q
  name_took {p = p} {q = q} n id m at s body t = record {
    events = t.events;
    looked = t.looked;
    gives = name_gives rules start nodes bodies ranks x sound n id m p t.looked (Takes q t.events) s at body t.gives;
  }

  pub name_failed : {p : ℕ} (n id m : ℕ) → At n (node.Name id) → Has n → slice_get bodies id ≡ Some m → NF m p
      → NF n p
  name_failed {p = p} n id m at s body f = record {
    looked = f.looked;
    gives = name_gives rules start nodes bodies ranks x sound n id m p f.looked Fails s at body f.gives;
  }

  -- of a sequence
  each_takes : {ms : List ℕ} {ps : Patterns} {p q k : ℕ} {es : List Event} → SpellAll rules nodes ms ps
      → GivesAll rules x ps p (Takes q es) k → MembersTake ms p q
  each_takes spell_none outcome.all_done = take_none
  each_takes (spell_more s ss) (outcome.rest_takes d c) = take_more (node_takes s d) (each_takes ss c)

  all_taken : {ms : List ℕ} {ps : Patterns} {p q : ℕ} → SpellAll rules nodes ms ps → MembersTake ms p q
      → (k : ℕ) × (es : List Event) × GivesAll rules x ps p (Takes q es) k
  all_taken spell_none take_none = (0, [], outcome.all_done)
  all_taken (spell_more s ss) (take_more t ts) =
      let rest = all_taken ss ts in
      (max t.looked rest.0, t.events ++ rest.1, outcome.rest_takes (own_gives s t.gives) rest.2)

  one_failed : {ms : List ℕ} {ps : Patterns} {p : ℕ} → SpellAll rules nodes ms ps → MembersFail ms p
      → (k : ℕ) × GivesAll rules x ps p Fails k
  one_failed spell_none f = elim f [ ]
  one_failed (spell_more s ss) (fail_here f) = (f.looked, outcome.one_fails (own_gives s f.gives))
  one_failed (spell_more s ss) (fail_after t fs) =
      let rest = one_failed ss fs in
      (max t.looked rest.0, outcome.rest_fails (own_gives s t.gives) rest.1)

  pub seq_takes : {p q : ℕ} (n : ℕ) (ms : List ℕ) → At n (node.Seq ms) → Has n → NT n p q → MembersTake ms p q
  seq_takes n ms at s t =
      let like = has_shape rules nodes s.1 (node.Seq ms) at in
      let spelled = subst (Spells rules nodes n) like.1 s.1 in
      each_takes like.2 (seq_inner rules x (own_gives spelled t.gives))

  pub members_take : {p q : ℕ} (n : ℕ) (ms : List ℕ) → At n (node.Seq ms) → Has n → MembersTake ms p q → NT n p q
  members_take n ms at s ts =
      let like = has_shape rules nodes s.1 (node.Seq ms) at in
      let all = all_taken like.2 ts in
      node_takes (subst (Spells rules nodes n) like.1 s.1) (outcome.seq all.2)

  pub members_fail : {p : ℕ} (n : ℕ) (ms : List ℕ) → At n (node.Seq ms) → Has n → MembersFail ms p → NF n p
  members_fail n ms at s fs =
      let like = has_shape rules nodes s.1 (node.Seq ms) at in
      let one = one_failed like.2 fs in
      node_fails (subst (Spells rules nodes n) like.1 s.1) (outcome.seq one.1)

  -- of a choice
  one_takes : {ms : List ℕ} {ps : Patterns} {p q k : ℕ} {es : List Event} → SpellAll rules nodes ms ps
      → GivesFirst rules x ps p (Takes q es) k → FirstTakes ms p q
  one_takes spell_none d = elim d [ ]
  one_takes (spell_more s ss) (outcome.first_takes d) = takes_here (node_takes s d)
  one_takes (spell_more s ss) (outcome.first_fails d c) = takes_later (node_fails s d) (one_takes ss c)

  each_fails : {ms : List ℕ} {ps : Patterns} {p k : ℕ} → SpellAll rules nodes ms ps
      → GivesFirst rules x ps p Fails k → AllFail ms p
  each_fails spell_none outcome.all_failed = fail_none
  each_fails (spell_more s ss) (outcome.first_fails d c) = fail_more (node_fails s d) (each_fails ss c)

  one_taken : {ms : List ℕ} {ps : Patterns} {p q : ℕ} → SpellAll rules nodes ms ps → FirstTakes ms p q
      → (k : ℕ) × (es : List Event) × GivesFirst rules x ps p (Takes q es) k
  one_taken spell_none t = elim t [ ]
  one_taken (spell_more s ss) (takes_here t) = (t.looked, t.events, outcome.first_takes (own_gives s t.gives))
  one_taken (spell_more s ss) (takes_later f ts) =
      let rest = one_taken ss ts in
      (max f.looked rest.0, rest.1, outcome.first_fails (own_gives s f.gives) rest.2)

  none_taken : {ms : List ℕ} {ps : Patterns} {p : ℕ} → SpellAll rules nodes ms ps → AllFail ms p
      → (k : ℕ) × GivesFirst rules x ps p Fails k
  none_taken spell_none fail_none = (0, outcome.all_failed)
  none_taken (spell_more s ss) (fail_more f fs) =
      let rest = none_taken ss fs in
      (max f.looked rest.0, outcome.first_fails (own_gives s f.gives) rest.1)

  pub choice_takes : {p q : ℕ} (n : ℕ) (ms : List ℕ) → At n (node.Choice ms) → Has n → NT n p q → FirstTakes ms p q
  choice_takes n ms at s t =
      let like = has_shape rules nodes s.1 (node.Choice ms) at in
      let spelled = subst (Spells rules nodes n) like.1 s.1 in
      one_takes like.2 (choice_inner rules x (own_gives spelled t.gives))

  pub choice_fails : {p : ℕ} (n : ℕ) (ms : List ℕ) → At n (node.Choice ms) → Has n → NF n p → AllFail ms p
  choice_fails n ms at s f =
      let like = has_shape rules nodes s.1 (node.Choice ms) at in
      let spelled = subst (Spells rules nodes n) like.1 s.1 in
      each_fails like.2 (choice_inner rules x (own_gives spelled f.gives))

  pub first_takes : {p q : ℕ} (n : ℕ) (ms : List ℕ) → At n (node.Choice ms) → Has n → FirstTakes ms p q → NT n p q
  first_takes n ms at s ts =
      let like = has_shape rules nodes s.1 (node.Choice ms) at in
      let one = one_taken like.2 ts in
      node_takes (subst (Spells rules nodes n) like.1 s.1) (outcome.choice one.2)

  pub all_fail : {p : ℕ} (n : ℕ) (ms : List ℕ) → At n (node.Choice ms) → Has n → AllFail ms p → NF n p
  all_fail n ms at s fs =
      let like = has_shape rules nodes s.1 (node.Choice ms) at in
      let none = none_taken like.2 fs in
      node_fails (subst (Spells rules nodes n) like.1 s.1) (outcome.choice none.1)

  -- of a repetition
  star_by : {n k p q l : ℕ} {e : Pattern} {es : List Event} → Spells rules nodes n (expr.Star e)
      → Spells rules nodes k e → Gives rules x (expr.Star e) p (Takes q es) l
      → (NF k p × (q ≡ p)) ⊎ ((r : ℕ) × NT k p r × NT n r q)
  star_by star s (outcome.star_none d) = inl (node_fails s d, refl)
  star_by star s (outcome.star_more {q = r} d c) = inr (r, node_takes s d, node_takes star c)

  pub star_takes : {p q : ℕ} (n k : ℕ) → At n (node.Star k) → Has n → NT n p q
      → (NF k p × (q ≡ p)) ⊎ ((r : ℕ) × NT k p r × NT n r q)
  star_takes n k at s t =
      let like = has_shape rules nodes s.1 (node.Star k) at in
      let star = subst (Spells rules nodes n) like.1 s.1 in
      star_by star like.2 (own_gives star t.gives)

  pub star_fails : {p : ℕ} (n k : ℕ) → At n (node.Star k) → Has n → NF n p → ⊥
  star_fails {p = p} n k at s f =
      star_never_fails rules start nodes bodies ranks x sound n k s p f.looked at f.gives

  pub star_none : {p : ℕ} (n k : ℕ) → At n (node.Star k) → Has n → NF k p → NT n p p
  star_none {p = p} n k at s f = record {
    events = [];
    looked = f.looked;
    gives = star_gives_none rules start nodes bodies ranks x sound n k s p f.looked at f.gives;
  }

  -- of a repetition with at least one iteration
  plus_by : {k s p q l : ℕ} {e : Pattern} {es : List Event} → Spells rules nodes k e
      → Spells rules nodes s (expr.Star e) → Gives rules x (expr.Plus e) p (Takes q es) l
      → (r : ℕ) × NT k p r × NT s r q
  plus_by once star (outcome.plus_takes {q = r} d c) = (r, node_takes once d, node_takes star c)

  no_plus_by : {k p l : ℕ} {e : Pattern} → Spells rules nodes k e → Gives rules x (expr.Plus e) p Fails l → NF k p
  no_plus_by once (outcome.plus_fails d) = node_fails once d

  pub plus_takes : {p q : ℕ} (n k s : ℕ) → At n (node.Plus k s) → Has n → NT n p q → (r : ℕ) × NT k p r × NT s r q
  plus_takes n k s at h t =
      let like = has_shape rules nodes h.1 (node.Plus k s) at in
      let spelled = subst (Spells rules nodes n) like.1 h.1 in
      plus_by like.2 (spells_star like.3 like.2) (own_gives spelled t.gives)

  pub plus_fails : {p : ℕ} (n k s : ℕ) → At n (node.Plus k s) → Has n → NF n p → NF k p
  plus_fails n k s at h f =
      let like = has_shape rules nodes h.1 (node.Plus k s) at in
      no_plus_by like.2 (own_gives (subst (Spells rules nodes n) like.1 h.1) f.gives)

  pub plus_none : {p : ℕ} (n k s : ℕ) → At n (node.Plus k s) → Has n → NF k p → NF n p
  plus_none {p = p} n k s at h f = record {
    looked = f.looked;
    gives = plus_gives_fails rules start nodes bodies ranks x sound n k h s p f.looked at f.gives;
  }

  pub star_of_plus : (n k s : ℕ) → At n (node.Plus k s) → Has n → At s (node.Star k)
  star_of_plus n k s at h = (plus_star rules start nodes bodies ranks x sound n k h s at).1

  -- of an optional operand
  opt_by : {k p q l : ℕ} {e : Pattern} {es : List Event} → Spells rules nodes k e
      → Gives rules x (expr.Opt e) p (Takes q es) l → NT k p q ⊎ (NF k p × (q ≡ p))
  opt_by s (outcome.opt_takes d) = inl (node_takes s d)
  opt_by s (outcome.opt_none d) = inr (node_fails s d, refl)

  pub opt_takes : {p q : ℕ} (n k : ℕ) → At n (node.Opt k) → Has n → NT n p q → NT k p q ⊎ (NF k p × (q ≡ p))
  opt_takes n k at s t =
      let like = has_shape rules nodes s.1 (node.Opt k) at in
      opt_by like.2 (own_gives (subst (Spells rules nodes n) like.1 s.1) t.gives)

  pub opt_fails : {p : ℕ} (n k : ℕ) → At n (node.Opt k) → Has n → NF n p → ⊥
  opt_fails n k at s f =
      let like = has_shape rules nodes s.1 (node.Opt k) at in
      opt_succeeds rules x (own_gives (subst (Spells rules nodes n) like.1 s.1) f.gives)

  pub opt_some : {p q : ℕ} (n k : ℕ) → At n (node.Opt k) → Has n → NT k p q → NT n p q
  opt_some {p = p} {q = q} n k at s t = record {
    events = t.events;
    looked = t.looked;
    gives = opt_gives_takes rules start nodes bodies ranks x sound n k s p q t.looked t.events at t.gives;
  }

  pub opt_none : {p : ℕ} (n k : ℕ) → At n (node.Opt k) → Has n → NF k p → NT n p p
  opt_none {p = p} n k at s f = record {
    events = [];
    looked = f.looked;
    gives = opt_gives_none rules start nodes bodies ranks x sound n k s p f.looked at f.gives;
  }

  -- of a predicate
  pub and_takes : {p q : ℕ} (n k : ℕ) → At n (node.And k) → Has n → NT n p q → q ≡ p
  and_takes n k at s t =
      let like = has_shape rules nodes s.1 (node.And k) at in
      and_stays rules x (own_gives (subst (Spells rules nodes n) like.1 s.1) t.gives)

  pub and_some : {p q : ℕ} (n k : ℕ) → At n (node.And k) → Has n → NT k p q → NT n p p
  and_some {p = p} {q = q} n k at s t = record {
    events = [];
    looked = t.looked;
    gives = and_gives_takes rules start nodes bodies ranks x sound n k s p q t.looked t.events at t.gives;
  }

  pub and_none : {p : ℕ} (n k : ℕ) → At n (node.And k) → Has n → NF k p → NF n p
  and_none {p = p} n k at s f = record {
    looked = f.looked;
    gives = and_gives_fails rules start nodes bodies ranks x sound n k s p f.looked at f.gives;
  }

  pub not_takes : {p q : ℕ} (n k : ℕ) → At n (node.Not k) → Has n → NT n p q → q ≡ p
  not_takes n k at s t =
      let like = has_shape rules nodes s.1 (node.Not k) at in
      not_stays rules x (own_gives (subst (Spells rules nodes n) like.1 s.1) t.gives)

  pub not_some : {p : ℕ} (n k : ℕ) → At n (node.Not k) → Has n → NF k p → NT n p p
  not_some {p = p} n k at s f = record {
    events = [];
    looked = f.looked;
    gives = not_gives_takes rules start nodes bodies ranks x sound n k s p f.looked at f.gives;
  }

  pub not_none : {p q : ℕ} (n k : ℕ) → At n (node.Not k) → Has n → NT k p q → NF n p
  not_none {p = p} {q = q} n k at s t = record {
    looked = t.looked;
    gives = not_gives_fails rules start nodes bodies ranks x sound n k s p q t.looked t.events at t.gives;
  }

  -- of a leaf
  pub any_takes : (n p b : ℕ) → At n node.Any → slice_get x p ≡ Some b → NT n p (p + 1)
  any_takes n p b at h = node_takes (spells_any at) (outcome.any_takes h)

  pub any_moves : {p : ℕ} (n : ℕ) → At n node.Any → NT n p p → ⊥
  any_moves {p = p} n at t =
      let is : p ≡ p + 1 = any_end rules x (own_gives (spells_any at) t.gives) in absurd (omega arith)

  pub set_in : (n : ℕ) (s : ℕ → Bool) (p b : ℕ) → At n (node.Set s) → slice_get x p ≡ Some b → s b ≡ true
      → NT n p (p + 1)
  set_in n s p b at h is = node_takes (spells_set at) (outcome.set_takes h is)

  pub set_out : (n : ℕ) (s : ℕ → Bool) (p b : ℕ) → At n (node.Set s) → slice_get x p ≡ Some b → s b ≡ false → NF n p
  set_out n s p b at h is = node_fails (spells_set at) (outcome.set_fails h is)

  pub set_moves : {p : ℕ} (n : ℕ) (s : ℕ → Bool) → At n (node.Set s) → NT n p p → ⊥
  set_moves {p = p} n s at t =
      let is : p ≡ p + 1 = set_end rules x (own_gives (spells_set at) t.gives) in absurd (omega arith)

  pub bytes_none : (n p : ℕ) → At n (node.Bytes []) → NT n p p
  bytes_none n p at =
      let end : p + 0 ≡ p = omega arith in
      node_takes (spells_bytes at)
      (subst (λ q. Gives rules x (expr.Bytes []) p (Takes q []) (looked_at p (compared (drop p x) []))) end
      (outcome.bytes_take (begins_none (drop p x))))

  pub bytes_one : (n c p b : ℕ) → At n (node.Bytes (c ∷ [])) → slice_get x p ≡ Some b → (c == b) ≡ true
      → NT n p (p + 1)
  bytes_one n c p b at h is =
      let begins = begins_here b c (drop (suc p) x) is in
      node_takes (spells_bytes at)
      (outcome.bytes_take (subst (λ r. begins_with r (c ∷ []) ≡ true) (sym (front_drop x p b h)) begins))

  pub bytes_other : (n c : ℕ) (cs : List ℕ) (p b : ℕ) → At n (node.Bytes (c ∷ cs)) → slice_get x p ≡ Some b
      → (c == b) ≡ false → NF n p
  bytes_other n c cs p b at h not =
      let begins = begins_apart b c (drop (suc p) x) cs not in
      node_fails (spells_bytes at)
      (outcome.bytes_fail (subst (λ r. begins_with r (c ∷ cs) ≡ false) (sym (front_drop x p b h)) begins))

  pub bytes_move : {p : ℕ} (n c : ℕ) (cs : List ℕ) → At n (node.Bytes (c ∷ cs)) → NT n p p → ⊥
  bytes_move {p = p} n c cs at t =
      let is : p ≡ p + length (c ∷ cs) = bytes_end rules x (own_gives (spells_bytes at) t.gives) in
      absurd (omega arith)

  pub act_takes : (n p : ℕ) (t : List ℕ) → At n (node.Act t) → NT n p p
  act_takes n p t at = node_takes (spells_act at) outcome.act

  pub open_takes : (n p : ℕ) → At n node.Open → NT n p p
  open_takes n p at = node_takes (spells_open at) outcome.open_at

  pub close_takes : (n p : ℕ) → At n node.Close → NT n p p
  close_takes n p at = node_takes (spells_close at) outcome.close_at
