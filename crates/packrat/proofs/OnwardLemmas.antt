-- How a task goes on after its first child.
-- Serves: Packrat::match_unit
use Rattle.std.proofs.Common.{◌≡◌, inl, inr, ℕ, Bool, true, false, zero, suc, ◌+◌, ◌<◌, ◌≤◌, List, [], ◌∷◌}
use Rattle.std.proofs.Common.{length, get_or, Some, refl, sym, subst, ap, arith, Vec, Global}
use Rattle.std.specs.Prelude.{slice_get, ◌==◌}
use Rattle.std.proofs.lemmas.Bool.{eqb-true}
use Rattle.std.proofs.lemmas.List.{length-map}
use Rattle.std.proofs.lemmas.Option.{slice_get_past, slice_get-get_or}
use Rattle.pegread.specs.PegViews.{rules_of}
use Rattle.gramcheck.specs.Grammar.{Grammar, IsSoundGrammar}
use Rattle.pegread.specs.Pattern.{Pattern}
use Rattle.pegmatch.specs.declared.leaves.Tried.{Tried}
use Rattle.gramcheck.specs.Outcome as Outcomes
use Rattle.pegnodes.specs.Nodes as node
use Rattle.pegnodes.specs.Nodes.{Shape, Spells, shapes_of, shape_of}
use Rattle.pegnodes.proofs.NodeSpellsLemmas.{is_there}
use Rattle.pegnodes.specs.declared.node.Node.{Node}
use Rattle.pegnodes.specs.declared.node.Node.TheVariants as code
use Rattle.memo.specs.declared.found.Found.{Found}
use Rattle.memo.specs.declared.found.Found.TheVariants.{Failed, Took}
use Rattle.pegmatch.specs.Answers.{WasEnough}
use Rattle.gramcheck.specs.Outcome.{Event}
use Rattle.pegmatch.specs.Visits.{NodeTakes, NodeFails}
use Rattle.packrat.specs.TaskGives.{joined}
use Rattle.pegmatch.specs.KeptEvents.{SpellsSome, quiet_outcome}
use Rattle.pegmatch.proofs.AsksLemmas.{goes_onward}
use Rattle.gramcheck.proofs.LongerInputLemmas.{ends_by}
use Rattle.memo.specs.KeyLog.{row_of}
use Rattle.memo.specs.declared.task.MatchTask.{MatchTask}
use Rattle.memo.specs.declared.task.MatchTask.TheVariants.{Eval, Tail}
use Rattle.pegnodes.specs.NodeWays.{way_of}
use Rattle.packrat.proofs.TaskGivesLemmas as L
use Rattle.packrat.specs.declared.onward.Onward.{Onward}
use Rattle.packrat.specs.declared.onward.Onward.TheVariants.{Gives, Same, Passes, Enters}
use Rattle.packrat.specs.declared.onward.Begun.{Begun}
use Rattle.packrat.specs.declared.onward.Begun.TheVariants as begun
use Rattle.packrat.specs.declared.onward.Start.TheVariants as start
use Rattle.packrat.specs.Begins.{AfterNone, IsLeaf}
use Rattle.packrat.specs.Onward.{IsWell, AfterOne, GoesOn, HasMember, AfterStart, IsLed, entering_of}
use Rattle.packrat.specs.TaskSteps.{FirstBy, TailFirstBy, IsFirst}

-- a node that spells an expression is one of the grammar's nodes
row_spelled : (g : Grammar) (n : ℕ) → SpellsSome (rules_of g.rules) (shapes_of g.nodes) n → n < length g.nodes
row_spelled g n s =
    let same : length (shapes_of g.nodes) ≡ length g.nodes = length-map g.nodes shape_of in
    subst (λ v. n < v) same (is_there (rules_of g.rules) (shapes_of g.nodes) s.1)

-- the node of a task of the grammar is one of its nodes
pub row_within : (g : Grammar) (x : List ℕ) (a : MatchTask) → IsWell g x a → row_of a < length g.nodes
row_within g x (Eval n p) w = row_spelled g n w.0
row_within g x (Tail n i p) w = row_spelled g n w.0

module _ (g : Grammar) (x : List ℕ) (more : Bool) (some : WasEnough x more 0) (sound : IsSoundGrammar g) where
  abbrev SG : MatchTask → Found → List Event → Type 0
  SG a f events = L.SG g x more some sound a f events

  abbrev F : MatchTask → MatchTask → Type 0
  F a j = IsFirst (rules_of g.rules) (shapes_of g.nodes) g.bodies x a j

  abbrev At : ℕ → Shape → Type 0
  At n shape = slice_get (shapes_of g.nodes) n ≡ Some shape

  abbrev pub After : MatchTask → Found → Onward → Type 0
  After a found o =
      (j : MatchTask) → F a j → (events : List Event) → SG j found events → AfterOne g x more a j found events o

  abbrev pub Then : MatchTask → Found → MatchTask → Type 0
  Then a found k = (j : MatchTask) → F a j → (events : List Event) → SG j found events → GoesOn g x more a j events k

  by_first : (n p : ℕ) (shape : Shape) → At n shape → (j : MatchTask) → F (Eval n p) j
      → FirstBy (rules_of g.rules) (shapes_of g.nodes) g.bodies x (way_of n shape) n p j
  by_first n p shape at j h =
      let same : h.0 ≡ shape = cc (h.1, at) in
      subst (λ v. FirstBy (rules_of g.rules) (shapes_of g.nodes) g.bodies x (way_of n v) n p j) same h.2

  by_rest : (n i p : ℕ) (shape : Shape) → At n shape → (j : MatchTask) → F (Tail n i p) j
      → TailFirstBy (rules_of g.rules) (shapes_of g.nodes) g.bodies x (way_of n shape) n i p j
  by_rest n i p shape at j h =
      let same : h.0 ≡ shape = cc (h.1, at) in
      subst (λ v. TailFirstBy (rules_of g.rules) (shapes_of g.nodes) g.bodies x (way_of n v) n i p j) same h.2

  abbrev NF : ℕ → ℕ → Type 0
  NF k p = L.NF g x more some sound k p

  abbrev NT : ℕ → ℕ → ℕ → List Event → Type 0
  NT k p q events = L.NT g x more some sound k p q events

  module _ (k p : ℕ) (j : MatchTask) (found : Found) (es : List Event) (by : j ≡ Eval k p) (d : SG j found es) where
    kid_fails : found ≡ Failed → NF k p
    kid_fails is = L.fails_of g x more some sound k p found es (subst (λ v. SG v found es) by d) is

    kid_takes : (q : ℕ) → found ≡ Took q → NT k p q es
    kid_takes q is = L.takes_of g x more some sound k p q found es (subst (λ v. SG v found es) by d) is

    kid_quiet : found ≡ Failed → es ≡ []
    kid_quiet is = L.none_of g x more some sound k p found es (subst (λ v. SG v found es) by d) is

  takes_there : (k p q : ℕ) (es : List Event) → NT k p q es
      → NodeTakes (rules_of g.rules) (shapes_of g.nodes) g.bodies x k p q
  takes_there k p q es t = L.took_of g x more some sound t

  fails_there : (k p : ℕ) → NF k p → NodeFails (rules_of g.rules) (shapes_of g.nodes) g.bodies x k p
  fails_there k p d = L.failed_of g x more some sound d

  ends_within : (k p q : ℕ) (es : List Event) → p ≤ length x → NT k p q es → q ≤ length x
  ends_within k p q es le t = (goes_onward (rules_of g.rules) g.start (shapes_of g.nodes) g.bodies g.ranks x sound k p q
      le (takes_there k p q es t)).high

  -- after what is taken within the window a task stands before the window's end, if it stood so before
  takes_near : (k p q : ℕ) (es : List Event) → NT k p q es → (more ≡ true → p < length x) → more ≡ true → q < length x
  takes_near k p q es t near is =
      let le = ends_by (rules_of g.rules) x t.gives.gives in
      let far = t.enough is in
      let lt = near is in
      omega (arith, le, far, lt)

  one_kid : (j k : MatchTask) → j ≡ k → j ∷ [] ≡ k ∷ []
  one_kid j k is = ap (λ v. v ∷ []) is

  two_kids : (j k l : MatchTask) → j ≡ k → j ∷ (l ∷ []) ≡ k ∷ (l ∷ [])
  two_kids j k l is = ap (λ v. v ∷ (l ∷ [])) is

  -- a comparison
  pub leaf_after : (n p : ℕ) (tried : Tried) (o : Begun) (e : Pattern) → L.K g x more some sound (Eval n p) []
      → Spells (rules_of g.rules) (shapes_of g.nodes) n e
      → Outcomes.Gives (rules_of g.rules) x e p (quiet_outcome tried.found) tried.looked → tried.looked ≤ length x
      → IsLeaf tried (length x) more o → AfterNone g x more (Eval n p) o
  leaf_after n p tried (begun.Starts (start.Gives f)) e k s d le h = (
    k,
    subst (λ v. SG (Eval n p) v []) (sym h.0)
        (L.leaf_task g x more some sound n p tried.found tried.looked e s d
        (λ is. let ne = h.1 is in omega (arith, ne, le))),
  )
  leaf_after n p tried (begun.Starts (start.Marks b)) e k s d le h = absurd h
  leaf_after n p tried (begun.Starts (start.Leads b c)) e k s d le h = absurd h
  leaf_after n p tried (begun.Starts (start.Passes b c)) e k s d le h = absurd h
  leaf_after n p tried (begun.Starts (start.Enters b)) e k s d le h = absurd h
  leaf_after n p tried (begun.Knows b) e k s d le h = absurd h
  leaf_after n p tried (begun.Takes b) e k s d le h = absurd h
  leaf_after n p tried (begun.Skips b) e k s d le h = absurd h
  leaf_after n p tried (begun.Repeats b) e k s d le h = absurd h
  leaf_after n p tried begun.Need e k s d le h = (
    h.0,
    (
      quiet_outcome tried.found,
      record {
        expr = e;
        spelled = s;
        gives = subst (λ v. Outcomes.Gives (rules_of g.rules) x e p (quiet_outcome tried.found) v) h.1 d;
      },
    ),
  )

  module _ (n k p : ℕ) (found : Found) (w : IsWell g x (Eval n p)) where
    pub star_none : At n (node.Star k) → found ≡ Failed → After (Eval n p) found (Gives (Took p))
    star_none at is j h es d =
        let by : j ≡ Eval k p = by_first n p (node.Star k) at j h in
        let nf = kid_fails k p j found es by d is in (
          (node.Star k, at, inl (fails_there k p nf, one_kid j (Eval k p) by)),
          L.star_ends g x more some sound n k p w.0 at nf,
        )

    pub star_more : (q : ℕ) → At n (node.Star k) → found ≡ Took q → After (Eval n p) found (Passes n q)
    star_more q at is j h es d =
        let by : j ≡ Eval k p = by_first n p (node.Star k) at j h in
        let nt = kid_takes k p j found es by d q is in (
          (
            (node.Star k, at, inr (q, takes_there k p q es nt, two_kids j (Eval k p) (Eval n q) by)),
            (λ f fs e. L.star_goes g x more some sound n k p w.0 q f es fs at nt e),
          ),
          (w.0, ends_within k p q es w.1 nt),
          takes_near k p q es nt,
        )

    pub plus_none : (s : ℕ) → At n (node.Plus k s) → found ≡ Failed → After (Eval n p) found (Gives Failed)
    plus_none s at is j h es d =
        let by : j ≡ Eval k p = by_first n p (node.Plus k s) at j h in
        let nf = kid_fails k p j found es by d is in (
          (node.Plus k s, at, inl (fails_there k p nf, one_kid j (Eval k p) by)),
          L.plus_failed g x more some sound n k p w.0 s at nf,
        )

    pub plus_more : (s q : ℕ) → At n (node.Plus k s) → found ≡ Took q → After (Eval n p) found (Passes s q)
    plus_more s q at is j h es d =
        let by : j ≡ Eval k p = by_first n p (node.Plus k s) at j h in
        let nt = kid_takes k p j found es by d q is in (
          (
            (node.Plus k s, at, inr (q, takes_there k p q es nt, two_kids j (Eval k p) (Eval s q) by)),
            (λ f fs e. L.plus_goes g x more some sound n k p w.0 s q f es fs at nt e),
          ),
          (L.plus_repeats g x more some sound n k p w.0 s at, ends_within k p q es w.1 nt),
          takes_near k p q es nt,
        )

    pub not_none : At n (node.Not k) → found ≡ Failed → After (Eval n p) found (Gives (Took p))
    not_none at is j h es d =
        let by : j ≡ Eval k p = by_first n p (node.Not k) at j h in (
          (node.Not k, at, one_kid j (Eval k p) by),
          L.not_took g x more some sound n k p w.0 at (kid_fails k p j found es by d is),
        )

    pub not_some : (q : ℕ) → At n (node.Not k) → found ≡ Took q → After (Eval n p) found (Gives Failed)
    not_some q at is j h es d =
        let by : j ≡ Eval k p = by_first n p (node.Not k) at j h in (
          (node.Not k, at, one_kid j (Eval k p) by),
          L.not_failed g x more some sound n k p w.0 q es at (kid_takes k p j found es by d q is),
        )

    pub opt_nothing : At n (node.Opt k) → found ≡ Failed → After (Eval n p) found (Gives (Took p))
    opt_nothing at is j h es d =
        let by : j ≡ Eval k p = by_first n p (node.Opt k) at j h in (
          (node.Opt k, at, one_kid j (Eval k p) by),
          L.opt_none g x more some sound n k p w.0 at (kid_fails k p j found es by d is),
        )

    pub opt_some : (q : ℕ) → At n (node.Opt k) → found ≡ Took q → After (Eval n p) found Same
    opt_some q at is j h es d =
        let by : j ≡ Eval k p = by_first n p (node.Opt k) at j h in (
          (node.Opt k, at, one_kid j (Eval k p) by),
          subst (λ v. SG (Eval n p) v es) (sym is)
              (L.opt_took g x more some sound n k p w.0 q es at (kid_takes k p j found es by d q is)),
        )

    pub and_none : At n (node.And k) → found ≡ Failed → After (Eval n p) found (Gives Failed)
    and_none at is j h es d =
        let by : j ≡ Eval k p = by_first n p (node.And k) at j h in (
          (node.And k, at, one_kid j (Eval k p) by),
          L.and_failed g x more some sound n k p w.0 at (kid_fails k p j found es by d is),
        )

    pub and_some : (q : ℕ) → At n (node.And k) → found ≡ Took q → After (Eval n p) found (Gives (Took p))
    and_some q at is j h es d =
        let by : j ≡ Eval k p = by_first n p (node.And k) at j h in (
          (node.And k, at, one_kid j (Eval k p) by),
          L.and_took g x more some sound n k p w.0 q es at (kid_takes k p j found es by d q is),
        )

    pub name_on : At n (node.Name k) → After (Eval n p) found Same
    name_on at j h es d =
        let by = by_first n p (node.Name k) at j h in
        let e = subst (λ v. SG v found es) by.2 d in (
          (node.Name k, at, (by.0, by.1, one_kid j (Eval by.0 p) by.2)),
          subst (SG (Eval n p) found) (sym (L.joined_none g x more some sound found es e.3))
              (L.name_task g x more some sound n k by.0 p found es w.0 at by.1 e),
        )

  module _ (n p : ℕ) (ms : List ℕ) (found : Found) (w : IsWell g x (Eval n p)) where
    pub seq_on : At n (node.Seq ms) → After (Eval n p) found Same
    seq_on at j h es d =
        let by = by_first n p (node.Seq ms) at j h in (
          (node.Seq ms, at, inr (by.0, by.1, one_kid j (Tail n zero p) by.2)),
          L.seq_task g x more some sound n p ms found es w.0 at (subst (λ v. SG v found es) by.2 d),
        )

    pub choice_on : At n (node.Choice ms) → After (Eval n p) found Same
    choice_on at j h es d =
        let by = by_first n p (node.Choice ms) at j h in (
          (node.Choice ms, at, inr (by.0, by.1, one_kid j (Tail n zero p) by.2)),
          L.choice_task g x more some sound n p ms found es w.0 at (subst (λ v. SG v found es) by.2 d),
        )

  pub leaf_on : (n p : ℕ) (shape : Shape) (found : Found) → At n shape
      → ((j : MatchTask) → FirstBy (rules_of g.rules) (shapes_of g.nodes) g.bodies x (way_of n shape) n p j → ⊥)
      → After (Eval n p) found Same
  leaf_on n p shape found at none j h es d = absurd (none j (by_first n p shape at j h))

  module _ (n i p : ℕ) (ms : List ℕ) (found : Found) (w : IsWell g x (Tail n i p)) where
    pub member_none : At n (node.Seq ms) → found ≡ Failed → After (Tail n i p) found (Gives Failed)
    member_none at is j h es d =
        let by = by_rest n i p (node.Seq ms) at j h in
        let nf = kid_fails by.0 p j found es by.2 d is in (
          (node.Seq ms, at, (by.0, by.1, inl (inl (fails_there by.0 p nf), one_kid j (Eval by.0 p) by.2))),
          L.rest_fails_at g x more some sound n i p by.0 ms by.1 at nf,
        )

    pub member_last : (q : ℕ) → At n (node.Seq ms) → found ≡ Took q → length ms ≤ suc i
        → After (Tail n i p) found Same
    member_last q at is le j h es d =
        let by = by_rest n i p (node.Seq ms) at j h in
        let nt = kid_takes by.0 p j found es by.2 d q is in (
          (node.Seq ms, at, (by.0, by.1, inl (inr (slice_get_past ms (suc i) le), one_kid j (Eval by.0 p) by.2))),
          subst (λ v. SG (Tail n i p) v es) (sym is) (L.rest_last g x more some sound n i p by.0 ms by.1 q es at nt le),
        )

    pub member_more : (q e : ℕ) → suc i ≡ e → At n (node.Seq ms) → found ≡ Took q → suc i < length ms
        → Then (Tail n i p) found (Tail n e q)
    member_more q e same at is lt j h es d =
        let by = by_rest n i p (node.Seq ms) at j h in
        let nt = kid_takes by.0 p j found es by.2 d q is in
        let kids = inr (
          get_or ms (suc i) 0,
          q,
          slice_get-get_or ms (suc i) 0 lt,
          takes_there by.0 p q es nt,
          two_kids j (Eval by.0 p) (Tail n (suc i) q) by.2,
        ) in
        subst (λ v. GoesOn g x more (Tail n i p) j es (Tail n v q)) same (
          (
            (node.Seq ms, at, (by.0, by.1, kids)),
            (λ f fs c. L.rest_goes g x more some sound n i p by.0 ms by.1 q f es fs at nt c),
          ),
          (w.0, ends_within by.0 p q es w.1 nt, (node.Seq ms, at, lt)),
          takes_near by.0 p q es nt,
        )

    pub other_some : (q : ℕ) → At n (node.Choice ms) → found ≡ Took q → After (Tail n i p) found Same
    other_some q at is j h es d =
        let by = by_rest n i p (node.Choice ms) at j h in
        let nt = kid_takes by.0 p j found es by.2 d q is in (
          (node.Choice ms, at, (by.0, by.1, inl (inl (q, takes_there by.0 p q es nt), one_kid j (Eval by.0 p) by.2))),
          subst (λ v. SG (Tail n i p) v es) (sym is) (L.other_takes g x more some sound n i p by.0 ms by.1 q es at nt),
        )

    pub other_end : At n (node.Choice ms) → found ≡ Failed → length ms ≤ suc i → After (Tail n i p) found (Gives Failed)
    other_end at is le j h es d =
        let by = by_rest n i p (node.Choice ms) at j h in
        let nf = kid_fails by.0 p j found es by.2 d is in (
          (node.Choice ms, at, (by.0, by.1, inl (inr (slice_get_past ms (suc i) le), one_kid j (Eval by.0 p) by.2))),
          L.other_last g x more some sound n i p by.0 ms by.1 at nf le,
        )

    pub other_more : (e : ℕ) → suc i ≡ e → At n (node.Choice ms) → found ≡ Failed → suc i < length ms
        → Then (Tail n i p) found (Tail n e p)
    other_more e same at is lt j h es d =
        let by = by_rest n i p (node.Choice ms) at j h in
        let nf = kid_fails by.0 p j found es by.2 d is in
        let none = kid_quiet by.0 p j found es by.2 d is in
        let kids = inr (
          get_or ms (suc i) 0,
          slice_get-get_or ms (suc i) 0 lt,
          fails_there by.0 p nf,
          two_kids j (Eval by.0 p) (Tail n (suc i) p) by.2,
        ) in
        subst (λ v. GoesOn g x more (Tail n i p) j v (Tail n e p)) (sym none)
        (subst (λ v. GoesOn g x more (Tail n i p) j [] (Tail n v p)) same (
          (
            (node.Choice ms, at, (by.0, by.1, kids)),
            (λ f fs c. L.other_goes g x more some sound n i p by.0 ms by.1 f fs at nf c),
          ),
          (w.0, w.1, (node.Choice ms, at, lt)),
          λ near. near,
        ))

  module _ (n i p m : ℕ) (ms : List ℕ) (there : slice_get ms i ≡ Some m) (w : IsWell g x (Tail n i p)) where
    -- the last tail of a sequence or a choice gives what its member gives
    seq_last : At n (node.Seq ms) → length ms ≤ suc i → (f : Found) (es : List Event) → SG (Eval m p) f es
        → SG (Tail n i p) f (joined f [] es)
    seq_last at le Failed es d = L.rest_fails_at g x more some sound n i p m ms there at
        (L.fails_of g x more some sound m p Failed es d refl)
    seq_last at le (Took q) es d = L.rest_last g x more some sound n i p m ms there q es at
        (L.takes_of g x more some sound m p q (Took q) es d refl) le

    choice_last : At n (node.Choice ms) → length ms ≤ suc i → (f : Found) (es : List Event) → SG (Eval m p) f es
        → SG (Tail n i p) f (joined f [] es)
    choice_last at le Failed es d = L.other_last g x more some sound n i p m ms there at
        (L.fails_of g x more some sound m p Failed es d refl) le
    choice_last at le (Took q) es d = L.other_takes g x more some sound n i p m ms there q es at
        (L.takes_of g x more some sound m p q (Took q) es d refl)

    -- how a tail begins: it leads to its member, and passes on what that gives if it is the last one
    pub seq_led : (only : Bool) → only ≡ (i + 1 == length ms) → At n (node.Seq ms)
        → IsLed g x more only (Tail n i p) (Eval m p)
    seq_led true is at =
        let le : length ms ≤ suc i = let e = eqb-true (i + 1) (length ms) (sym is) in omega (arith, e) in (
          (node.Seq ms, at, (m, there, refl)),
          (L.member_spells_at g x more some sound n i m ms there w.0 (inl at), w.1),
          (
            (node.Seq ms, at, (m, there, inl (inr (slice_get_past ms (suc i) le), refl))),
            seq_last at le,
          ),
        )
    seq_led false is at = (
      (node.Seq ms, at, (m, there, refl)),
      (L.member_spells_at g x more some sound n i m ms there w.0 (inl at), w.1),
    )

    pub choice_led : (only : Bool) → only ≡ (i + 1 == length ms) → At n (node.Choice ms)
        → IsLed g x more only (Tail n i p) (Eval m p)
    choice_led true is at =
        let le : length ms ≤ suc i = let e = eqb-true (i + 1) (length ms) (sym is) in omega (arith, e) in (
          (node.Choice ms, at, (m, there, refl)),
          (L.member_spells_at g x more some sound n i m ms there w.0 (inr at), w.1),
          (
            (node.Choice ms, at, (m, there, inl (inr (slice_get_past ms (suc i) le), refl))),
            choice_last at le,
          ),
        )
    choice_led false is at = (
      (node.Choice ms, at, (m, there, refl)),
      (L.member_spells_at g x more some sound n i m ms there w.0 (inr at), w.1),
    )

  -- a name, and a sequence or a choice with members
  pub name_led : (n p k m : ℕ) → IsWell g x (Eval n p) → At n (node.Name k) → slice_get g.bodies k ≡ Some m
      → IsWell g x (Eval m p) → AfterStart g x more (Eval n p) (start.Passes m p)
  name_led n p k m w at body well = (
    (node.Name k, at, (m, body, refl)),
    well,
    ((node.Name k, at, (m, body, refl)), (λ f es d. L.name_task g x more some sound n k m p f es w.0 at body d)),
  )

  module _ (n p : ℕ) (ms : List ℕ) (w : IsWell g x (Eval n p)) (lt : 0 < length ms) where
    pub members_led : At n (node.Seq ms) → IsLed g x more true (Eval n p) (Tail n 0 p)
    members_led at =
        let there = slice_get-get_or ms 0 0 lt in (
          (node.Seq ms, at, (get_or ms 0 0, there, refl)),
          (w.0, w.1, (node.Seq ms, at, lt)),
          (
            (node.Seq ms, at, inr (get_or ms 0 0, there, refl)),
            (λ f es d. L.eval_joined g x more some sound n p ms f es w.0
                (L.seq_task g x more some sound n p ms f es w.0 at d)),
          ),
        )

    pub alternatives_led : At n (node.Choice ms) → IsLed g x more true (Eval n p) (Tail n 0 p)
    alternatives_led at =
        let there = slice_get-get_or ms 0 0 lt in (
          (node.Choice ms, at, (get_or ms 0 0, there, refl)),
          (w.0, w.1, (node.Choice ms, at, lt)),
          (
            (node.Choice ms, at, inr (get_or ms 0 0, there, refl)),
            (λ f es d. L.eval_joined g x more some sound n p ms f es w.0
                (L.choice_task g x more some sound n p ms f es w.0 at d)),
          ),
        )

  -- a tail of a choice that is entered leads to its alternative
  pub choice_enters : (n i p : ℕ) (ms : List ℕ) → At n (node.Choice ms) → IsWell g x (Tail n i p) → i < length ms
      → IsLed g x more (i + 1 == length ms) (Tail n i p) (Eval (get_or ms i 0) p)
  choice_enters n i p ms at w lt = led (i + 1 == length ms) refl
    where
      led : (only : Bool) → only ≡ (i + 1 == length ms) → IsLed g x more only (Tail n i p) (Eval (get_or ms i 0) p)
      led true is = choice_led n i p (get_or ms i 0) ms (slice_get-get_or ms i 0 lt) w true is at
      led false is = choice_led n i p (get_or ms i 0) ms (slice_get-get_or ms i 0 lt) w false is at

  -- a sequence or a choice with members enters its first tail
  module _ (n p : ℕ) (ms : List ℕ) (w : IsWell g x (Eval n p)) (lt : 0 < length ms) where
    pub members_enter : At n (node.Seq ms) → AfterStart g x more (Eval n p) (start.Enters (entering_of g.keys n ms 0 p))
    members_enter at = (
      members_led n p ms w lt at,
      led (0 + 1 == length ms) refl,
      refl,
    )
      where
        led : (only : Bool) → only ≡ (0 + 1 == length ms) → IsLed g x more only (Tail n 0 p) (Eval (get_or ms 0 0) p)
        led true is = seq_led n 0 p (get_or ms 0 0) ms (slice_get-get_or ms 0 0 lt)
            (w.0, w.1, (node.Seq ms, at, lt)) true is at
        led false is = seq_led n 0 p (get_or ms 0 0) ms (slice_get-get_or ms 0 0 lt)
            (w.0, w.1, (node.Seq ms, at, lt)) false is at

  -- a tail enters the next one
  module _ (n i p : ℕ) (ms : List ℕ) (found : Found) (w : IsWell g x (Tail n i p)) where
    pub member_enters : (q e : ℕ) → suc i ≡ e → At n (node.Seq ms) → found ≡ Took q → e < length ms
        → After (Tail n i p) found (Enters (entering_of g.keys n ms e q))
    member_enters q e same at is lt j h es d =
        let more_of = member_more n i p ms found w q e same at is (omega (arith, same, lt)) j h es d in
        (more_of, led more_of.1 (e + 1 == length ms) refl, refl)
      where
        led : IsWell g x (Tail n e q) → (only : Bool) → only ≡ (e + 1 == length ms)
            → IsLed g x more only (Tail n e q) (Eval (get_or ms e 0) q)
        led v true is = seq_led n e q (get_or ms e 0) ms (slice_get-get_or ms e 0 lt) v true is at
        led v false is = seq_led n e q (get_or ms e 0) ms (slice_get-get_or ms e 0 lt) v false is at

    pub other_enters : (e : ℕ) → suc i ≡ e → At n (node.Choice ms) → found ≡ Failed → e < length ms
        → After (Tail n i p) found (Enters (entering_of g.keys n ms e p))
    other_enters e same at is lt j h es d =
        let more_of = other_more n i p ms found w e same at is (omega (arith, same, lt)) j h es d in
        (more_of, choice_enters n e p ms at more_of.1 lt, refl)

pub some_of : (ms : List ℕ) → (length ms ≡ 0 → ⊥) → 0 < length ms
some_of [] h = absurd (h refl)
some_of (m ∷ ms) h = omega arith

module _ (i : ℕ) where
  pub no_member : (n : Node) → ((v : Vec ℕ Global) → n ≡ code.Seq v → ⊥) → ((v : Vec ℕ Global)
      → n ≡ code.Choice v → ⊥) → HasMember (shape_of n) i
      → ⊥
  no_member code.Any a b h = absurd h
  no_member (code.Bytes bs) a b h = absurd h
  no_member (code.Set s) a b h = absurd h
  no_member (code.Name id) a b h = absurd h
  no_member (code.Seq ms) a b h = a ms refl
  no_member (code.Choice ms) a b h = b ms refl
  no_member (code.Star k) a b h = absurd h
  no_member (code.Plus k s) a b h = absurd h
  no_member (code.Opt k) a b h = absurd h
  no_member (code.And k) a b h = absurd h
  no_member (code.Not k) a b h = absurd h
  no_member (code.Act t) a b h = absurd h
  no_member code.Open a b h = absurd h
  no_member code.Close a b h = absurd h
