-- What a task gives, from what those give to which it leads.
-- Serves: Packrat::match_unit
use Rattle.std.proofs.Common.{◌≡◌, ◌⊎◌, inl, inr, ℕ, zero, suc, ◌≤◌, max, Bool, true, false, List, [], ◌∷◌}
use Rattle.std.proofs.Common.{length}
use Rattle.std.proofs.Common.{drop, Some, refl, sym, subst, arith, ◌∙◌, append-nil}
use Rattle.std.specs.Prelude.{slice_get, ◌==◌}
use Rattle.std.proofs.lemmas.Bool.{eqb-true, eq-eqb}
use Rattle.pegread.specs.Pattern as expr
use Rattle.pegread.specs.Pattern.{Pattern, Patterns}
use Rattle.pegread.specs.PegViews.{rules_of}
use Rattle.gramcheck.specs.Grammar.{Grammar, IsSoundGrammar}
use Rattle.pegnodes.specs.Nodes as node
use Rattle.pegnodes.specs.Nodes.{Shape, shapes_of, Spells, SpellAll, spell_none, spell_more}
use Rattle.gramcheck.specs.Outcome.{Event, Outcome, Takes, Fails, Gives, seq, choice, GivesAll, all_done, one_fails}
use Rattle.gramcheck.specs.Outcome.{rest_fails, rest_takes, GivesFirst, all_failed, first_takes, first_fails}
use Rattle.pegnodes.proofs.HasShapeLemmas.{has_shape}
use Rattle.memo.specs.declared.found.Found.{Found}
use Rattle.memo.specs.declared.found.Found.TheVariants.{Failed, Took}
use Rattle.pegmatch.specs.Answers.{WasEnough}
use Rattle.pegmatch.specs.KeptEvents.{outcome_of, quiet_outcome, SpellsSome}
use Rattle.pegmatch.specs.Visits.{NodeGives, NodeTakes, NodeFails}
use Rattle.pegmatch.proofs.GivesLemmas.{name_gives, star_gives_none, star_gives_more, star_never_fails, not_gives_takes}
use Rattle.pegmatch.proofs.GivesLemmas.{not_gives_fails, plus_gives_fails, plus_gives_takes, plus_star, opt_gives_takes}
use Rattle.pegmatch.proofs.GivesLemmas.{opt_gives_none, and_gives_takes, and_gives_fails}
use Rattle.pegnodes.specs.Nodes.{spells_act, spells_open, spells_close}
use Rattle.gramcheck.specs.Outcome.{Acted, Opened, Closed, act, open_at, close_at}
use Rattle.pegmatch.proofs.NodeGivesLemmas.{gives_as}
use Rattle.memo.specs.declared.task.MatchTask.{MatchTask}
use Rattle.memo.specs.declared.task.MatchTask.TheVariants.{Eval, Tail}
use Rattle.packrat.specs.TaskGives.{TakesWithin, FailsWithin}
use Rattle.packrat.specs.TaskGives.{MembersGive, members_none, members_fail, members_take, AlternativesGive}
use Rattle.packrat.specs.TaskGives.{alternatives_none, alternatives_take, alternatives_fail, TailGives, TaskYields}
use Rattle.packrat.specs.TaskGives.{joined, IsQuiet}
use Rattle.packrat.specs.MatchTasks.{Kids}
use Rattle.packrat.proofs.TaskReachLemmas.{front_drop, drop_none}

pub empty_is : (b : Bool) (n : ℕ) → b ≡ (n == 0) → b ≡ true → n ≡ 0
empty_is b n is t = eqb-true n 0 (sym is ∙ t)

pub empty_not : (b : Bool) (n : ℕ) → b ≡ (n == 0) → b ≡ false → n ≡ 0 → ⊥
empty_not b n is f h = let t : (n == 0) ≡ true = eq-eqb n 0 h in cc (is, f, t)

drop_past : (ms : List ℕ) (i : ℕ) → length ms ≤ i → drop i ms ≡ []
drop_past [] zero le = refl
drop_past [] (suc i) le = refl
drop_past (m ∷ ms) zero le = absurd (omega arith)
drop_past (m ∷ ms) (suc i) le = drop_past ms i (omega arith)

module _ (g : Grammar) (x : List ℕ) (more : Bool) (some : WasEnough x more 0) (sound : IsSoundGrammar g) where
  max_enough : (j k : ℕ) → WasEnough x more j → WasEnough x more k → WasEnough x more (max j k)
  max_enough j k d c = λ is. let a = d is in let b = c is in omega (arith, a, b)

  abbrev pub SG : MatchTask → Found → List Event → Type 0
  SG a f events = TaskYields g x more a f events

  abbrev pub NT : ℕ → ℕ → ℕ → List Event → Type 0
  NT m p q events = TakesWithin g x more m p q events

  abbrev pub NF : ℕ → ℕ → Type 0
  NF m p = FailsWithin g x more m p

  abbrev pub K : MatchTask → List MatchTask → Type 0
  K a ks = Kids (rules_of g.rules) (shapes_of g.nodes) g.bodies x a ks

  abbrev At : ℕ → Shape → Type 0
  At n shape = slice_get (shapes_of g.nodes) n ≡ Some shape

  pub took_of : {m p q : ℕ} {events : List Event} → NT m p q events
      → NodeTakes (rules_of g.rules) (shapes_of g.nodes) g.bodies x m p q
  took_of {events = events} t = record { events = events; looked = t.looked; gives = t.gives }

  pub failed_of : {m p : ℕ} → NF m p → NodeFails (rules_of g.rules) (shapes_of g.nodes) g.bodies x m p
  failed_of d = record { looked = d.looked; gives = d.gives }

  -- what a node gives
  pub fails_of : (k p : ℕ) (f : Found) (es : List Event) → SG (Eval k p) f es → f ≡ Failed → NF k p
  fails_of k p f es h is = by f is h
    where
      by : (f : Found) → f ≡ Failed → SG (Eval k p) f es → NF k p
      by Failed e (l, d, h, z) = record { looked = l; gives = d; enough = h }
      by (Took q) e d = absurd (cc e)

  pub takes_of : (k p q : ℕ) (f : Found) (es : List Event) → SG (Eval k p) f es → f ≡ Took q → NT k p q es
  takes_of k p q f es h is =
      let d : SG (Eval k p) (Took q) es = subst (λ v. SG (Eval k p) v es) is h in
      record { looked = d.0; gives = d.1; enough = d.2 }

  -- a failure of a node has no events
  pub none_of : (k p : ℕ) (f : Found) (es : List Event) → SG (Eval k p) f es → f ≡ Failed → es ≡ []
  none_of k p f es h is =
      let d : SG (Eval k p) Failed es = subst (λ v. SG (Eval k p) v es) is h in d.3

  pub name_task : (n id m p : ℕ) (f : Found) (es : List Event) → SpellsSome (rules_of g.rules) (shapes_of g.nodes) n
      → At n (node.Name id) → slice_get g.bodies id ≡ Some m → SG (Eval m p) f es → SG (Eval n p) f (joined f [] es)
  name_task n id m p Failed es s at body h = (
    h.0,
    name_gives (rules_of g.rules) g.start (shapes_of g.nodes) g.bodies g.ranks x sound n id m p h.0
        Fails s at body h.1,
    h.2,
    refl,
  )
  name_task n id m p (Took q) es s at body h = (
    h.0,
    name_gives (rules_of g.rules) g.start (shapes_of g.nodes) g.bodies g.ranks x sound n id m p h.0
        (Takes q es) s at body h.1,
    h.2,
    tt,
  )

  module _ (n k p : ℕ) (s : SpellsSome (rules_of g.rules) (shapes_of g.nodes) n) where
    pub star_ends : At n (node.Star k) → NF k p → SG (Eval n p) (Took p) []
    star_ends at d = (
      d.looked,
      star_gives_none (rules_of g.rules) g.start (shapes_of g.nodes) g.bodies g.ranks x
          sound n k s p d.looked at d.gives,
      d.enough,
      tt,
    )

    pub star_goes : (q : ℕ) (f : Found) (es fs : List Event) → At n (node.Star k) → NT k p q es → SG (Eval n q) f fs
        → SG (Eval n p) f (joined f es fs)
    star_goes q Failed es fs at t h =
        absurd (star_never_fails (rules_of g.rules) g.start (shapes_of g.nodes) g.bodies g.ranks x sound n k s q h.0
        at h.1)
    star_goes q (Took r) es fs at t h = (
      max t.looked h.0,
      star_gives_more (rules_of g.rules) g.start (shapes_of g.nodes) g.bodies
          g.ranks x sound n k s p q r t.looked h.0 es fs at t.gives h.1,
      max_enough t.looked h.0 t.enough h.2,
      tt,
    )

    pub not_took : At n (node.Not k) → NF k p → SG (Eval n p) (Took p) []
    not_took at d = (
      d.looked,
      not_gives_takes (rules_of g.rules) g.start (shapes_of g.nodes) g.bodies g.ranks x
          sound n k s p d.looked at d.gives,
      d.enough,
      tt,
    )

    pub not_failed : (q : ℕ) (es : List Event) → At n (node.Not k) → NT k p q es → SG (Eval n p) Failed []
    not_failed q es at t = (
      t.looked,
      not_gives_fails (rules_of g.rules) g.start (shapes_of g.nodes) g.bodies g.ranks x
          sound n k s p q t.looked es at t.gives,
      t.enough,
      refl,
    )

  module _ (n k p : ℕ) (s : SpellsSome (rules_of g.rules) (shapes_of g.nodes) n) where
    pub plus_failed : (i : ℕ) → At n (node.Plus k i) → NF k p → SG (Eval n p) Failed []
    plus_failed i at d = (
      d.looked,
      plus_gives_fails (rules_of g.rules) g.start (shapes_of g.nodes) g.bodies g.ranks x
          sound n k s i p d.looked at d.gives,
      d.enough,
      refl,
    )

    pub plus_goes : (i q : ℕ) (f : Found) (es fs : List Event) → At n (node.Plus k i) → NT k p q es
        → SG (Eval i q) f fs → SG (Eval n p) f (joined f es fs)
    plus_goes i q Failed es fs at t h =
        let star = plus_star (rules_of g.rules) g.start (shapes_of g.nodes) g.bodies g.ranks x sound n k s i at in
        absurd (star_never_fails (rules_of g.rules) g.start (shapes_of g.nodes) g.bodies g.ranks x sound i k star.0 q
        h.0
        star.1 h.1)
    plus_goes i q (Took r) es fs at t h = (
      max t.looked h.0,
      plus_gives_takes (rules_of g.rules) g.start (shapes_of g.nodes) g.bodies
          g.ranks x sound n k s i p q r t.looked h.0 es fs at t.gives h.1,
      max_enough t.looked h.0 t.enough h.2,
      tt,
    )

    pub plus_repeats : (i : ℕ) → At n (node.Plus k i) → SpellsSome (rules_of g.rules) (shapes_of g.nodes) i
    plus_repeats i at = (plus_star (rules_of g.rules) g.start (shapes_of g.nodes) g.bodies g.ranks x sound n k s i at).0

    pub opt_took : (q : ℕ) (es : List Event) → At n (node.Opt k) → NT k p q es → SG (Eval n p) (Took q) es
    opt_took q es at t = (
      t.looked,
      opt_gives_takes (rules_of g.rules) g.start (shapes_of g.nodes) g.bodies g.ranks x
          sound n k s p q t.looked es at t.gives,
      t.enough,
      tt,
    )

    pub opt_none : At n (node.Opt k) → NF k p → SG (Eval n p) (Took p) []
    opt_none at d = (
      d.looked,
      opt_gives_none (rules_of g.rules) g.start (shapes_of g.nodes) g.bodies g.ranks x
          sound n k s p d.looked at d.gives,
      d.enough,
      tt,
    )

    pub and_took : (q : ℕ) (es : List Event) → At n (node.And k) → NT k p q es → SG (Eval n p) (Took p) []
    and_took q es at t = (
      t.looked,
      and_gives_takes (rules_of g.rules) g.start (shapes_of g.nodes) g.bodies g.ranks x
          sound n k s p q t.looked es at t.gives,
      t.enough,
      tt,
    )

    pub and_failed : At n (node.And k) → NF k p → SG (Eval n p) Failed []
    and_failed at d = (
      d.looked,
      and_gives_fails (rules_of g.rules) g.start (shapes_of g.nodes) g.bodies g.ranks x
          sound n k s p d.looked at d.gives,
      d.enough,
      refl,
    )

  pub act_task : (n p : ℕ) (t : List ℕ) → At n (node.Act t) → SG (Eval n p) (Took p) (Acted t ∷ [])
  act_task n p t at = (0, record { expr = expr.Act t; spelled = spells_act at; gives = act }, some, tt)

  pub open_task : (n p : ℕ) → At n node.Open → SG (Eval n p) (Took p) (Opened p ∷ [])
  open_task n p at = (0, record { expr = expr.Open; spelled = spells_open at; gives = open_at }, some, tt)

  pub close_task : (n p : ℕ) → At n node.Close → SG (Eval n p) (Took p) (Closed p ∷ [])
  close_task n p at = (0, record { expr = expr.Close; spelled = spells_close at; gives = close_at }, some, tt)

  quiet_none : (f : Found) → IsQuiet f []
  quiet_none Failed = refl
  quiet_none (Took q) = tt

  -- a node without operands
  pub leaf_task : (n p : ℕ) (f : Found) (l : ℕ) (e : Pattern) → Spells (rules_of g.rules) (shapes_of g.nodes) n e
      → Gives (rules_of g.rules) x e p (quiet_outcome f) l → WasEnough x more l → SG (Eval n p) f []
  leaf_task n p f l e s d h = (l, record { expr = e; spelled = s; gives = d }, h, quiet_none f)

  nth_spells : (ms : List ℕ) (ps : Patterns) (i m : ℕ) → SpellAll (rules_of g.rules) (shapes_of g.nodes) ms ps
      → slice_get ms i ≡ Some m → SpellsSome (rules_of g.rules) (shapes_of g.nodes) m
  nth_spells [] ps i m ss h = absurd (cc h)
  nth_spells (k ∷ ms) ps zero m (spell_more {p = e} s ss) h =
      let is : k ≡ m = cc h in (e, subst (λ v. Spells (rules_of g.rules) (shapes_of g.nodes) v e) is s)
  nth_spells (k ∷ ms) ps (suc i) m (spell_more {ps = rest} s ss) h = nth_spells ms rest i m ss h

  pub member_spells_at : (n i m : ℕ) (ms : List ℕ) → slice_get ms i ≡ Some m
      → SpellsSome (rules_of g.rules) (shapes_of g.nodes) n → At n (node.Seq ms) ⊎ At n (node.Choice ms)
      → SpellsSome (rules_of g.rules) (shapes_of g.nodes) m
  member_spells_at n i m ms there s (inl at) =
      let like = has_shape (rules_of g.rules) (shapes_of g.nodes) s.1 (node.Seq ms) at in
      nth_spells ms like.0 i m like.2 there
  member_spells_at n i m ms there s (inr at) =
      let like = has_shape (rules_of g.rules) (shapes_of g.nodes) s.1 (node.Choice ms) at in
      nth_spells ms like.0 i m like.2 there

  -- sequences and choices
  abbrev GA : Patterns → ℕ → Found → List Event → Type 0
  GA ps p f es = (l : ℕ) × GivesAll (rules_of g.rules) x ps p (outcome_of f es) l × WasEnough x more l × IsQuiet f es

  abbrev GF : Patterns → ℕ → Found → List Event → Type 0
  GF ps p f es = (l : ℕ) × GivesFirst (rules_of g.rules) x ps p (outcome_of f es) l × WasEnough x more l × IsQuiet f es

  as_own : {m p l : ℕ} {o : Outcome} {e : Pattern} → Spells (rules_of g.rules) (shapes_of g.nodes) m e
      → NodeGives (rules_of g.rules) (shapes_of g.nodes) g.bodies x m p o l → Gives (rules_of g.rules) x e p o l
  as_own s d = gives_as (rules_of g.rules) (shapes_of g.nodes) sound.defined g.bodies x s d

  goes_all : (e : Pattern) (ps : Patterns) (p q j : ℕ) (es fs : List Event) (f : Found)
      → Gives (rules_of g.rules) x e p (Takes q es) j → WasEnough x more j → GA ps q f fs
      → GA (expr.more e ps) p f (joined f es fs)
  goes_all e ps p q j es fs Failed d c h = (max j h.0, rest_fails d h.1, max_enough j h.0 c h.2, refl)
  goes_all e ps p q j es fs (Took r) d c h = (max j h.0, rest_takes d h.1, max_enough j h.0 c h.2, tt)

  members_all : {ms : List ℕ} {p : ℕ} {f : Found} {es : List Event} → MembersGive g x more ms p f es
      → (ps : Patterns) → SpellAll (rules_of g.rules) (shapes_of g.nodes) ms ps → GA ps p f es
  members_all members_none ps spell_none = (0, all_done, some, tt)
  members_all (members_fail d) ps (spell_more s ss) = (d.looked, one_fails (as_own s d.gives), d.enough, refl)
  members_all (members_take {p = p} {q = q} {f = f} {first = es} {then = fs} t h) ps
      (spell_more {p = e} {ps = rest} s ss) =
      goes_all e rest p q t.looked es fs f (as_own s t.gives) t.enough (members_all h rest ss)

  alternatives_first : {p : ℕ} {ms : List ℕ} {f : Found} {es : List Event} → AlternativesGive g x more p ms f es
      → (ps : Patterns) → SpellAll (rules_of g.rules) (shapes_of g.nodes) ms ps → GF ps p f es
  alternatives_first alternatives_none ps spell_none = (0, all_failed, some, refl)
  alternatives_first (alternatives_take t) ps (spell_more s ss) =
      (t.looked, first_takes (as_own s t.gives), t.enough, tt)
  alternatives_first (alternatives_fail d h) ps (spell_more {ps = rest} s ss) =
      let r = alternatives_first h rest ss in (
        max d.looked r.0,
        first_fails (as_own s d.gives) r.1,
        max_enough d.looked r.0 d.enough r.2,
        r.3,
      )

  alternatives_quiet : {p : ℕ} {ms : List ℕ} {f : Found} {es : List Event} → AlternativesGive g x more p ms f es
      → IsQuiet f es
  alternatives_quiet alternatives_none = refl
  alternatives_quiet (alternatives_take t) = tt
  alternatives_quiet (alternatives_fail d h) = alternatives_quiet h

  -- an outcome has its events alone, if none came first
  pub joined_none : (f : Found) (es : List Event) → IsQuiet f es → es ≡ joined f [] es
  joined_none Failed es h = h
  joined_none (Took q) es h = refl

  module _ (n p : ℕ) (ms : List ℕ) (f : Found) (es : List Event)
      (s : SpellsSome (rules_of g.rules) (shapes_of g.nodes) n) where
    seq_of : At n (node.Seq ms) → MembersGive g x more ms p f es → SG (Eval n p) f es
    seq_of at h =
        let like = has_shape (rules_of g.rules) (shapes_of g.nodes) s.1 (node.Seq ms) at in
        let d = members_all h like.0 like.2 in (
          d.0,
          record {
            expr = expr.Seq like.0;
            spelled = subst (Spells (rules_of g.rules) (shapes_of g.nodes) n) like.1 s.1;
            gives = seq d.1;
          },
          d.2,
          d.3,
        )

    choice_of : At n (node.Choice ms) → AlternativesGive g x more p ms f es → SG (Eval n p) f es
    choice_of at h =
        let like = has_shape (rules_of g.rules) (shapes_of g.nodes) s.1 (node.Choice ms) at in
        let d = alternatives_first h like.0 like.2 in (
          d.0,
          record {
            expr = expr.Choice like.0;
            spelled = subst (Spells (rules_of g.rules) (shapes_of g.nodes) n) like.1 s.1;
            gives = choice d.1;
          },
          d.2,
          d.3,
        )

    pub seq_task : At n (node.Seq ms) → SG (Tail n 0 p) f es → SG (Eval n p) f es
    seq_task at h =
        let same : h.0 ≡ node.Seq ms = cc (h.1, at) in
        let d : MembersGive g x more (drop 0 ms) p f es = subst (λ v. TailGives g x more v 0 p f es) same h.2 in
        seq_of at (subst (λ v. MembersGive g x more v p f es) (drop_none ms) d)

    pub choice_task : At n (node.Choice ms) → SG (Tail n 0 p) f es → SG (Eval n p) f es
    choice_task at h =
        let same : h.0 ≡ node.Choice ms = cc (h.1, at) in
        let d : AlternativesGive g x more p (drop 0 ms) f es =
        subst (λ v. TailGives g x more v 0 p f es) same h.2 in
        choice_of at (subst (λ v. AlternativesGive g x more p v f es) (drop_none ms) d)

    -- an evaluation passes on what its tail gives
    pub eval_joined : SG (Eval n p) f es → SG (Eval n p) f (joined f [] es)
    eval_joined h = subst (SG (Eval n p) f) (joined_none f es h.3) h

  nil_of : (ms : List ℕ) → length ms ≡ 0 → ms ≡ []
  nil_of [] h = refl
  nil_of (m ∷ ms) h = absurd (omega arith)

  pub seq_empty : (n p : ℕ) (ms : List ℕ) → SpellsSome (rules_of g.rules) (shapes_of g.nodes) n → At n (node.Seq ms)
      → length ms ≡ 0 → SG (Eval n p) (Took p) []
  seq_empty n p ms s at none =
      seq_of n p ms (Took p) [] s at (subst (λ v. MembersGive g x more v p (Took p) []) (sym (nil_of ms none))
      members_none)

  pub choice_empty : (n p : ℕ) (ms : List ℕ) → SpellsSome (rules_of g.rules) (shapes_of g.nodes) n
      → At n (node.Choice ms) → length ms ≡ 0 → SG (Eval n p) Failed []
  choice_empty n p ms s at none =
      choice_of n p ms Failed [] s at
      (subst (λ v. AlternativesGive g x more p v Failed []) (sym (nil_of ms none)) alternatives_none)

  module _ (n i p m : ℕ) (ms : List ℕ) (there : slice_get ms i ≡ Some m) where
    front_member : m ∷ drop (suc i) ms ≡ drop i ms
    front_member = sym (front_drop ms i m there)

    pub rest_fails_at : At n (node.Seq ms) → NF m p → SG (Tail n i p) Failed []
    rest_fails_at at d =
        (node.Seq ms, at, subst (λ v. MembersGive g x more v p Failed []) front_member (members_fail d))

    pub rest_last : (q : ℕ) (es : List Event) → At n (node.Seq ms) → NT m p q es → length ms ≤ suc i
        → SG (Tail n i p) (Took q) es
    rest_last q es at t le = (
      node.Seq ms,
      at,
      subst (λ v. MembersGive g x more v p (Took q) es) front_member
          (subst (MembersGive g x more (m ∷ drop (suc i) ms) p (Took q)) (append-nil es)
          (members_take t (subst (λ v. MembersGive g x more v q (Took q) []) (sym (drop_past ms (suc i) le))
          members_none))),
    )

    pub rest_goes : (q : ℕ) (f : Found) (es fs : List Event) → At n (node.Seq ms) → NT m p q es
        → SG (Tail n (suc i) q) f fs → SG (Tail n i p) f (joined f es fs)
    rest_goes q f es fs at t h =
        let same : h.0 ≡ node.Seq ms = cc (h.1, at) in
        let d : MembersGive g x more (drop (suc i) ms) q f fs =
        subst (λ v. TailGives g x more v (suc i) q f fs) same h.2 in
        (node.Seq ms, at, subst (λ v. MembersGive g x more v p f (joined f es fs)) front_member (members_take t d))

    pub other_takes : (q : ℕ) (es : List Event) → At n (node.Choice ms) → NT m p q es → SG (Tail n i p) (Took q) es
    other_takes q es at t = (
      node.Choice ms,
      at,
      subst (λ v. AlternativesGive g x more p v (Took q) es) front_member
          (alternatives_take t),
    )

    pub other_last : At n (node.Choice ms) → NF m p → length ms ≤ suc i → SG (Tail n i p) Failed []
    other_last at d le = (
      node.Choice ms,
      at,
      subst (λ v. AlternativesGive g x more p v Failed []) front_member
          (alternatives_fail d (subst (λ v. AlternativesGive g x more p v Failed []) (sym (drop_past ms (suc i) le))
          alternatives_none)),
    )

    pub other_goes : (f : Found) (es : List Event) → At n (node.Choice ms) → NF m p → SG (Tail n (suc i) p) f es
        → SG (Tail n i p) f (joined f [] es)
    other_goes f es at d h =
        let same : h.0 ≡ node.Choice ms = cc (h.1, at) in
        let c : AlternativesGive g x more p (drop (suc i) ms) f es =
        subst (λ v. TailGives g x more v (suc i) p f es) same h.2 in
        subst (SG (Tail n i p) f) (joined_none f es (alternatives_quiet c))
        (node.Choice ms, at, subst (λ v. AlternativesGive g x more p v f es) front_member (alternatives_fail d c))
