-- The steps of a task, form by form.
-- Serves: begin_task, go_on.
use Rattle.std.proofs.Common.{◌≡◌, ◌⊎◌, inl, inr, ℕ, zero, suc, ◌+◌, ◌≤◌, Bool, true, false, List, [], ◌∷◌, ◌++◌}
use Rattle.std.proofs.Common.{length, drop, Some, max, refl, sym, ◌∙◌, ap, subst, arith, Vec, Global}
use Rattle.std.specs.Prelude.{slice_get}
use Rattle.std.proofs.lemmas.List.{drop_more}
use Rattle.std.proofs.lemmas.Option.{slice_get_within, get_or_from_slice_get}
use Rattle.gramcheck.specs.Grammar.{Grammar, IsSoundGrammar}
use Rattle.gramcheck.specs.Outcome.{Event, Outcome, Takes, Gives, GivesAll, all_done, one_fails, rest_fails}
use Rattle.gramcheck.specs.Outcome.{rest_takes, GivesFirst, all_failed, first_takes, first_fails, seq, choice}
use Rattle.memo.specs.declared.found.Found.{Found}
use Rattle.memo.specs.declared.found.Found.TheVariants.{Failed, Took}
use Rattle.memo.specs.declared.task.MatchTask.{MatchTask}
use Rattle.memo.specs.declared.task.MatchTask.TheVariants.{Eval, Tail}
use Rattle.pegmatch.proofs.AsksLemmas.{asks_body, goes_onward, leads_to}
use Rattle.pegmatch.proofs.GivesLemmas.{name_gives, opt_gives_takes, opt_gives_none, and_gives_takes, and_gives_fails}
use Rattle.pegmatch.proofs.GivesLemmas.{not_gives_takes, not_gives_fails, star_gives_none, star_gives_more}
use Rattle.pegmatch.proofs.GivesLemmas.{star_never_fails, plus_gives_fails, plus_gives_takes, plus_star}
use Rattle.pegmatch.proofs.NodeGivesLemmas.{gives_as, same_node}
use Rattle.pegmatch.specs.KeptEvents.{SpellsSome, outcome_of}
use Rattle.pegmatch.specs.Visits.{NodeGives, NodeTakes, NodeFails, AsksMember, member_here, member_later}
use Rattle.pegmatch.specs.Visits.{AsksAlternative, alternative_here, alternative_later, AsksBy, Asks}
use Rattle.pegnodes.proofs.HasShapeLemmas.{has_shape}
use Rattle.pegnodes.specs.Nodes as node
use Rattle.pegnodes.specs.declared.node.Node.{Node}
use Rattle.pegnodes.specs.declared.node.Node.TheVariants as code
use Rattle.pegnodes.specs.Nodes.{Shape, Spells, SpellAll, spell_none, spell_more, shape_of, shapes_of}
use Rattle.pegread.specs.Pattern as expr
use Rattle.pegread.specs.Pattern.{Pattern, Patterns, Rule}
use Rattle.pegread.specs.PegViews.{rules_of}
use Rattle.matchfailure.specs.FailureTasks.{AlternativesFind, find_none, find_first, find_later, HasMemberAt}
use Rattle.matchfailure.specs.FailureTasks.{HasOperand}
use Rattle.matchfailure.specs.FailureTasks.{IsFirst, IsWell, MembersFind, find_end, find_fails, find_takes, NodeFinds}
use Rattle.matchfailure.specs.FailureTasks.{TailAsks, TailFinds, TaskAsks, TaskHas, HasTails}
use Rattle.matchfailure.specs.Farthest.{IsDenial}
use Rattle.matchfailure.specs.FailureSteps.{GoesOn, IsBegun, IsStepAfter}
use Rattle.matchfailure.specs.declared.tasks.steps.TaskStep.{TaskStep}
use Rattle.matchfailure.specs.declared.tasks.steps.TaskStep.TheVariants as step

-- a node of another form has no operand
pub no_operand : (k : ℕ) (denied : Bool) (n : Node) → ((m : ℕ) → n ≡ code.Star m → ⊥)
    → ((m i : ℕ) → n ≡ code.Plus m i → ⊥) → ((m : ℕ) → n ≡ code.Opt m → ⊥) → ((m : ℕ) → n ≡ code.And m → ⊥)
    → ((m : ℕ) → n ≡ code.Not m → ⊥) → HasOperand (shape_of n) k denied → ⊥
no_operand k denied code.Any a b c d e h = absurd h
no_operand k denied (code.Bytes bs) a b c d e h = absurd h
no_operand k denied (code.Set s) a b c d e h = absurd h
no_operand k denied (code.Name id) a b c d e h = absurd h
no_operand k denied (code.Seq ms) a b c d e h = absurd h
no_operand k denied (code.Choice ms) a b c d e h = absurd h
no_operand k denied (code.Star m) a b c d e h = a m refl
no_operand k denied (code.Plus m i) a b c d e h = b m i refl
no_operand k denied (code.Opt m) a b c d e h = c m refl
no_operand k denied (code.And m) a b c d e h = d m refl
no_operand k denied (code.Not m) a b c d e h = e m refl
no_operand k denied (code.Act t) a b c d e h = absurd h
no_operand k denied code.Open a b c d e h = absurd h
no_operand k denied code.Close a b c d e h = absurd h

-- a node of another form has no tails
pub no_tails : (n : Node) → ((v : Vec ℕ Global) → n ≡ code.Seq v → ⊥) → ((v : Vec ℕ Global) → n ≡ code.Choice v → ⊥)
    → HasTails (shape_of n) → ⊥
no_tails code.Any a b h = absurd h
no_tails (code.Bytes bs) a b h = absurd h
no_tails (code.Set s) a b h = absurd h
no_tails (code.Name id) a b h = absurd h
no_tails (code.Seq ms) a b h = a ms refl
no_tails (code.Choice ms) a b h = b ms refl
no_tails (code.Star m) a b h = absurd h
no_tails (code.Plus m i) a b h = absurd h
no_tails (code.Opt m) a b h = absurd h
no_tails (code.And m) a b h = absurd h
no_tails (code.Not m) a b h = absurd h
no_tails (code.Act t) a b h = absurd h
no_tails code.Open a b h = absurd h
no_tails code.Close a b h = absurd h

-- members from one that is there on
member_drop : (ms : List ℕ) (i k : ℕ) → slice_get ms i ≡ Some k → drop i ms ≡ k ∷ drop (i + 1) ms
member_drop ms i k at = drop_more ms i 0 (slice_get_within ms i k at)
    ∙ ap (λ v. v ∷ drop (i + 1) ms) (get_or_from_slice_get ms i k 0 at)

module _ (g : Grammar) (x : List ℕ) (sound : IsSoundGrammar g) where
  abbrev Rs : List Rule
  Rs = rules_of g.rules

  abbrev Ns : List Shape
  Ns = shapes_of g.nodes

  abbrev pub Finds : ℕ → ℕ → Found → Type 0
  Finds n p f = NodeFinds g x n p f

  takes_same : (n p q r : ℕ) → Finds n p (Took q) → NodeTakes Rs Ns g.bodies x n p r → r ≡ q
  takes_same n p q r t u = let s = same_node Rs Ns sound.defined g.bodies x u.gives t.gives in cc s.outcome

  not_both : (n p q : ℕ) → Finds n p (Took q) → NodeFails Rs Ns g.bodies x n p → ⊥
  not_both n p q t f = let s = same_node Rs Ns sound.defined g.bodies x t.gives f.gives in cc s.outcome

  as_own : {n p k : ℕ} {o : Outcome} {e : Pattern} → Spells Rs Ns n e → NodeGives Rs Ns g.bodies x n p o k
      → Gives Rs x e p o k
  as_own s d = gives_as Rs Ns sound.defined g.bodies x s d

  -- what members give, a sequence of them gives
  record AllFind (es : Patterns) (p : ℕ) (f : Found) : Type 0 where
    pub events : List Event
    pub looked : ℕ
    pub gives : GivesAll Rs x es p (outcome_of f events) looked

  one_more : {p q k : ℕ} {es : List Event} (e : Pattern) (rest : Patterns) (f : Found)
      → Gives Rs x e p (Takes q es) k → AllFind rest q f → AllFind (expr.more e rest) p f
  one_more {k = k} e rest Failed d l =
      record { events = []; looked = max k l.looked; gives = rest_fails d l.gives }
  one_more {k = k} {es = es} e rest (Took r) d l =
      record { events = es ++ l.events; looked = max k l.looked; gives = rest_takes d l.gives }

  all_find : {ms : List ℕ} {p : ℕ} {f : Found} → MembersFind g x ms p f → (es : Patterns) → SpellAll Rs Ns ms es
      → AllFind es p f
  all_find find_end es spell_none = record { events = []; looked = 0; gives = all_done }
  all_find (find_fails t) es (spell_more s ss) =
      record { events = []; looked = t.looked; gives = one_fails (as_own s t.gives) }
  all_find (find_takes {f = f} t l) es (spell_more {p = e} {ps = rest} s ss) =
      one_more e rest f (as_own s t.gives) (all_find l rest ss)

  record FirstFinds (es : Patterns) (p : ℕ) (f : Found) : Type 0 where
    pub events : List Event
    pub looked : ℕ
    pub gives : GivesFirst Rs x es p (outcome_of f events) looked

  first_finds : {p : ℕ} {ms : List ℕ} {f : Found} → AlternativesFind g x p ms f → (es : Patterns)
      → SpellAll Rs Ns ms es → FirstFinds es p f
  first_finds find_none es spell_none = record { events = []; looked = 0; gives = all_failed }
  first_finds (find_first t) es (spell_more s ss) =
      record { events = t.events; looked = t.looked; gives = first_takes (as_own s t.gives) }
  first_finds (find_later t l) es (spell_more {ps = rest} s ss) =
      let h = first_finds l rest ss in
      record { events = h.events; looked = max t.looked h.looked; gives = first_fails (as_own s t.gives) h.gives }

  -- what a node gives by its expression
  pub by_gives : {n p k : ℕ} {e : Pattern} (f : Found) (events : List Event) → Spells Rs Ns n e
      → Gives Rs x e p (outcome_of f events) k → Finds n p f
  by_gives {k = k} {e = e} Failed events s d =
      record { looked = k; gives = record { expr = e; spelled = s; gives = d } }
  by_gives {k = k} {e = e} (Took q) events s d =
      record { events = events; looked = k; gives = record { expr = e; spelled = s; gives = d } }

  module _ (n p : ℕ) (s : SpellsSome Rs Ns n) (le : p ≤ length x) where
    asks_as : (shape : Shape) (m q : ℕ) → slice_get Ns n ≡ Some shape → Asks Rs Ns g.bodies x n p m q
        → AsksBy Rs Ns g.bodies x shape n p m q
    asks_as shape m q at a = let same : a.shape ≡ shape = cc (a.at, at) in
        subst (λ v. AsksBy Rs Ns g.bodies x v n p m q) same a.by

    seq_finds : (ms : List ℕ) (f : Found) → slice_get Ns n ≡ Some (node.Seq ms) → MembersFind g x ms p f → Finds n p f
    seq_finds ms f at t =
        let like = has_shape Rs Ns s.1 (node.Seq ms) at in
        let l = all_find t like.0 like.2 in
        by_gives f l.events (subst (Spells Rs Ns n) like.1 s.1) (seq l.gives)

    choice_finds : (ms : List ℕ) (f : Found) → slice_get Ns n ≡ Some (node.Choice ms) → AlternativesFind g x p ms f
        → Finds n p f
    choice_finds ms f at t =
        let like = has_shape Rs Ns s.1 (node.Choice ms) at in
        let l = first_finds t like.0 like.2 in
        by_gives f l.events (subst (Spells Rs Ns n) like.1 s.1) (choice l.gives)

    -- a node without operands
    pub leaf_begins : (shape : Shape) (f : Found) (events : List Event) (e : Pattern) (k : ℕ)
        → slice_get Ns n ≡ Some shape → ((m q : ℕ) → AsksBy Rs Ns g.bodies x shape n p m q → ⊥) → s.0 ≡ e
        → Gives Rs x e p (outcome_of f events) k → IsBegun g x (Eval n p) (step.Gives f)
    leaf_begins shape f events e k at none is d = (
      by_gives f events (subst (Spells Rs Ns n) is s.1) d,
      λ m q a. none m q (asks_as shape m q at a.1),
    )

    -- it is no `!`
    other_shape : (shape : Shape) → slice_get Ns n ≡ Some shape → ((k : ℕ) → shape ≡ node.Not k → ⊥)
        → IsDenial Ns n → ⊥
    other_shape shape at other d = other d.0 (cc (at, d.1))

    name_finds : (id m : ℕ) (f : Found) → slice_get Ns n ≡ Some (node.Name id) → slice_get g.bodies id ≡ Some m
        → Finds m p f → Finds n p f
    name_finds id m Failed at body t =
        record {
          looked = t.looked;
          gives = name_gives Rs g.start Ns g.bodies g.ranks x sound n id m p t.looked _ s at
              body t.gives;
        }
    name_finds id m (Took q) at body t =
        record {
          events = t.events;
          looked = t.looked;
          gives = name_gives Rs g.start Ns g.bodies g.ranks x sound n id m p t.looked _ s at body t.gives;
        }

    pub name_begins : (id m : ℕ) → slice_get Ns n ≡ Some (node.Name id) → slice_get g.bodies id ≡ Some m
        → IsBegun g x (Eval n p) (step.Becomes (Eval m p))
    name_begins id m at body =
        let asks = asks_body Rs Ns g.bodies x n p id m at body in
        record {
          well = ((leads_to Rs g.start Ns g.bodies g.ranks x sound n p m p s le asks).spelled, le);
          finds = λ f t. name_finds id m f at body t;
          whole = λ k q a. let by = asks_as (node.Name id) k q at a.1 in inr (cc (by.0, body), by.1);
          only = λ k q h. (other_shape (node.Name id) at (λ j is. cc is), rw (h.0, h.1) asks);
        }

    pub seq_begins : (ms : List ℕ) → slice_get Ns n ≡ Some (node.Seq ms)
        → IsBegun g x (Eval n p) (step.Becomes (Tail n 0 p))
    seq_begins ms at = record {
      well = (s, le, (node.Seq ms, at, tt));
      finds = λ f t. let same : t.0 ≡ node.Seq ms = cc (t.1, at) in
          seq_finds ms f at (subst (λ v. TailFinds g x v 0 p f) same t.2);
      whole = λ m q a. inr (node.Seq ms, at, asks_as (node.Seq ms) m q at a.1);
      only = λ m q h. (
        other_shape (node.Seq ms) at (λ j is. cc is),
        let same : h.0 ≡ node.Seq ms = cc (h.1, at) in
            record { shape = node.Seq ms; at = at; by = subst (λ v. TailAsks g x v 0 p m q) same h.2 },
      );
    }

    pub choice_begins : (ms : List ℕ) → slice_get Ns n ≡ Some (node.Choice ms)
        → IsBegun g x (Eval n p) (step.Becomes (Tail n 0 p))
    choice_begins ms at = record {
      well = (s, le, (node.Choice ms, at, tt));
      finds = λ f t. let same : t.0 ≡ node.Choice ms = cc (t.1, at) in
          choice_finds ms f at (subst (λ v. TailFinds g x v 0 p f) same t.2);
      whole = λ m q a. inr (node.Choice ms, at, asks_as (node.Choice ms) m q at a.1);
      only = λ m q h. (
        other_shape (node.Choice ms) at (λ j is. cc is),
        let same : h.0 ≡ node.Choice ms = cc (h.1, at) in
            record { shape = node.Choice ms; at = at; by = subst (λ v. TailAsks g x v 0 p m q) same h.2 },
      );
    }

    -- the operand that was asked for, at the node's position
    abbrev After : ℕ → TaskStep → Type 0
    After m t = IsStepAfter g x (Some (record { node = m; position = p })) (Eval n p) t

    pub goes_on : (m : ℕ) (shape : Shape) (found : Found) (t : TaskStep) → slice_get Ns n ≡ Some shape
        → ((k : ℕ) (denied : Bool) → HasOperand shape k denied → k ≡ m) → (Finds m p found → After m t)
        → GoesOn g x (Eval n p) found t
    goes_on m shape found t at operand after = λ k q denied first finds.
        let same : first.1.0 ≡ shape = cc (first.1.1, at) in
        let is = operand k denied (subst (λ v. HasOperand v k denied) same first.1.2) in
        subst (λ v. IsStepAfter g x (Some (record { node = k; position = v })) (Eval n p) t) (sym first.0)
        (subst (λ v. IsStepAfter g x (Some (record { node = v; position = p })) (Eval n p) t) (sym is)
        (after (subst (λ v. Finds v p found) is (subst (λ v. Finds k v found) first.0 finds))))

    pub star_fails : (m : ℕ) → slice_get Ns n ≡ Some (node.Star m) → Finds m p Failed → After m (step.Gives (Took p))
    star_fails m at t = (
      record {
        events = [];
        looked = t.looked;
        gives = star_gives_none Rs g.start Ns g.bodies g.ranks x sound n m s p t.looked at t.gives;
      },
      λ k q a. elim (asks_as (node.Star m) k q at a.1) [
        | inl is ↦ is
        | inr is ↦ absurd (not_both m p q is.1 t)
      ],
    )

    star_finds : (m q : ℕ) (f : Found) → slice_get Ns n ≡ Some (node.Star m) → Finds m p (Took q) → Finds n q f
        → Finds n p f
    star_finds m q Failed at t l =
        absurd (star_never_fails Rs g.start Ns g.bodies g.ranks x sound n m s q l.looked at l.gives)
    star_finds m q (Took r) at t l =
        record {
          events = t.events ++ l.events;
          looked = max t.looked l.looked;
          gives = star_gives_more Rs g.start Ns g.bodies g.ranks x sound n m s p q r t.looked l.looked t.events
              l.events at t.gives l.gives;
        }

    pub star_takes : (m q : ℕ) → slice_get Ns n ≡ Some (node.Star m) → Finds m p (Took q)
        → After m (step.Becomes (Eval n q))
    star_takes m q at t = record {
      well = (s, (goes_onward Rs g.start Ns g.bodies g.ranks x sound m p q le t).high);
      finds = λ f l. star_finds m q f at t l;
      whole = λ k r a. elim (asks_as (node.Star m) k r at a.1) [
        | inl is ↦ inl is
        | inr is ↦ inr (is.0, takes_same m p q r t is.1)
      ];
      only = λ k r h. (
        other_shape (node.Star m) at (λ j is. cc is),
        record { shape = node.Star m; at = at; by = inr (h.0, rw h.1 t) },
      );
    }

    pub plus_fails : (m i : ℕ) → slice_get Ns n ≡ Some (node.Plus m i) → Finds m p Failed → After m (step.Gives Failed)
    plus_fails m i at t = (
      record {
        looked = t.looked;
        gives = plus_gives_fails Rs g.start Ns g.bodies g.ranks x sound n m s i p t.looked at t.gives;
      },
      λ k q a. elim (asks_as (node.Plus m i) k q at a.1) [
        | inl is ↦ is
        | inr is ↦ absurd (not_both m p q is.1 t)
      ],
    )

    plus_finds : (m i q : ℕ) (f : Found) → slice_get Ns n ≡ Some (node.Plus m i) → Finds m p (Took q) → Finds i q f
        → Finds n p f
    plus_finds m i q Failed at t l =
        let star = plus_star Rs g.start Ns g.bodies g.ranks x sound n m s i at in
        absurd (star_never_fails Rs g.start Ns g.bodies g.ranks x sound i m star.0 q l.looked star.1 l.gives)
    plus_finds m i q (Took r) at t l =
        record {
          events = t.events ++ l.events;
          looked = max t.looked l.looked;
          gives = plus_gives_takes Rs g.start Ns g.bodies g.ranks x sound n m s i p q r t.looked l.looked t.events
              l.events at t.gives l.gives;
        }

    pub plus_takes : (m i q : ℕ) → slice_get Ns n ≡ Some (node.Plus m i) → Finds m p (Took q)
        → After m (step.Becomes (Eval i q))
    plus_takes m i q at t = record {
      well = (
        (plus_star Rs g.start Ns g.bodies g.ranks x sound n m s i at).0,
        (goes_onward Rs g.start Ns g.bodies g.ranks x sound m p q le t).high,
      );
      finds = λ f l. plus_finds m i q f at t l;
      whole = λ k r a. elim (asks_as (node.Plus m i) k r at a.1) [
        | inl is ↦ inl is
        | inr is ↦ inr (is.0, takes_same m p q r t is.1)
      ];
      only = λ k r h. (
        other_shape (node.Plus m i) at (λ j is. cc is),
        record { shape = node.Plus m i; at = at; by = inr (h.0, rw h.1 t) },
      );
    }

    pub opt_fails : (m : ℕ) → slice_get Ns n ≡ Some (node.Opt m) → Finds m p Failed → After m (step.Gives (Took p))
    opt_fails m at t = (
      record {
        events = [];
        looked = t.looked;
        gives = opt_gives_none Rs g.start Ns g.bodies g.ranks x sound n m s p t.looked at t.gives;
      },
      λ k q a. asks_as (node.Opt m) k q at a.1,
    )

    pub opt_takes : (m q : ℕ) → slice_get Ns n ≡ Some (node.Opt m) → Finds m p (Took q) → After m (step.Gives (Took q))
    opt_takes m q at t = (
      record {
        events = t.events;
        looked = t.looked;
        gives = opt_gives_takes Rs g.start Ns g.bodies g.ranks x sound n m s p q t.looked t.events at t.gives;
      },
      λ k r a. asks_as (node.Opt m) k r at a.1,
    )

    pub and_fails : (m : ℕ) → slice_get Ns n ≡ Some (node.And m) → Finds m p Failed → After m (step.Gives Failed)
    and_fails m at t = (
      record {
        looked = t.looked;
        gives = and_gives_fails Rs g.start Ns g.bodies g.ranks x sound n m s p t.looked at t.gives;
      },
      λ k q a. asks_as (node.And m) k q at a.1,
    )

    pub and_takes : (m q : ℕ) → slice_get Ns n ≡ Some (node.And m) → Finds m p (Took q) → After m (step.Gives (Took p))
    and_takes m q at t = (
      record {
        events = [];
        looked = t.looked;
        gives = and_gives_takes Rs g.start Ns g.bodies g.ranks x sound n m s p q t.looked t.events at t.gives;
      },
      λ k r a. asks_as (node.And m) k r at a.1,
    )

    pub not_fails : (m : ℕ) → slice_get Ns n ≡ Some (node.Not m) → Finds m p Failed → After m (step.Gives (Took p))
    not_fails m at t = (
      record {
        events = [];
        looked = t.looked;
        gives = not_gives_takes Rs g.start Ns g.bodies g.ranks x sound n m s p t.looked at t.gives;
      },
      λ k q a. asks_as (node.Not m) k q at a.1,
    )

    pub not_takes : (m q : ℕ) → slice_get Ns n ≡ Some (node.Not m) → Finds m p (Took q) → After m (step.Gives Failed)
    not_takes m q at t = (
      record {
        looked = t.looked;
        gives = not_gives_fails Rs g.start Ns g.bodies g.ranks x sound n m s p q t.looked t.events at t.gives;
      },
      λ k r a. asks_as (node.Not m) k r at a.1,
    )

    -- the tail of a sequence or a choice from member i on
    module _ (i : ℕ) where
      abbrev AfterTail : ℕ → TaskStep → Type 0
      AfterTail k t = IsStepAfter g x (Some (record { node = k; position = p })) (Tail n i p) t

      pub tail_goes_on : (shape : Shape) (found : Found) (t : TaskStep) → slice_get Ns n ≡ Some shape
          → ((k : ℕ) → HasMemberAt shape i k → Finds k p found → AfterTail k t) → GoesOn g x (Tail n i p) found t
      tail_goes_on shape found t at after = λ k q denied first finds.
          let same : first.2.0 ≡ shape = cc (first.2.1, at) in
          subst (λ v. IsStepAfter g x (Some (record { node = k; position = v })) (Tail n i p) t) (sym first.0)
          (after k (subst (λ v. HasMemberAt v i k) same first.2.2) (subst (λ v. Finds k v found) first.0 finds))

      module _ (ms : List ℕ) (at : slice_get Ns n ≡ Some (node.Seq ms)) where
        seq_asks : (m q : ℕ) → TaskAsks g x (Tail n i p) m q → AsksMember Rs Ns g.bodies x (drop i ms) p m q
        seq_asks m q a = let same : a.0 ≡ node.Seq ms = cc (a.1, at) in subst (λ v. TailAsks g x v i p m q) same a.2

        pub seq_ends : drop i ms ≡ [] → IsBegun g x (Tail n i p) (step.Gives (Took p))
        seq_ends none = (
          (node.Seq ms, at, subst (λ v. MembersFind g x v p (Took p)) (sym none) find_end),
          λ m q a. no_member (subst (λ v. AsksMember Rs Ns g.bodies x v p m q) none (seq_asks m q a)),
        )
          where
            no_member : {m q : ℕ} → AsksMember Rs Ns g.bodies x [] p m q → ⊥
            no_member a = elim a [ ]

        module _ (k : ℕ) (here : slice_get ms i ≡ Some k) where
          pub seq_fails : Finds k p Failed → AfterTail k (step.Gives Failed)
          seq_fails t = (
            (node.Seq ms, at, subst (λ v. MembersFind g x v p Failed) (sym (member_drop ms i k here)) (find_fails t)),
            λ m q a. first_only (subst (λ v. AsksMember Rs Ns g.bodies x v p m q) (member_drop ms i k here)
                (seq_asks m q a)),
          )
            where
              first_only : {m q : ℕ} → AsksMember Rs Ns g.bodies x (k ∷ drop (i + 1) ms) p m q → (m ≡ k) × (q ≡ p)
              first_only member_here = (refl, refl)
              first_only (member_later {r = r} u a) = absurd (not_both k p r u t)

          pub seq_takes : (q : ℕ) → Finds k p (Took q) → AfterTail k (step.Becomes (Tail n (i + 1) q))
          seq_takes q t = record {
            well = (
              s,
              (goes_onward Rs g.start Ns g.bodies g.ranks x sound k p q le t).high,
              (node.Seq ms, at, tt),
            );
            finds = λ f l. let same : l.0 ≡ node.Seq ms = cc (l.1, at) in (
              node.Seq ms,
              at,
              subst (λ v. MembersFind g x v p f) (sym (member_drop ms i k here))
                  (find_takes t (subst (λ v. TailFinds g x v (i + 1) q f) same l.2)),
            );
            whole = λ m r a. by (subst (λ v. AsksMember Rs Ns g.bodies x v p m r) (member_drop ms i k here)
                (seq_asks m r a));
            only = λ m r h. let same : h.0 ≡ node.Seq ms = cc (h.1, at) in (
              node.Seq ms,
              at,
              subst (λ v. AsksMember Rs Ns g.bodies x v p m r) (sym (member_drop ms i k here))
                  (member_later t (subst (λ v. TailAsks g x v (i + 1) q m r) same h.2)),
            );
          }
            where
              by : {m r : ℕ} → AsksMember Rs Ns g.bodies x (k ∷ drop (i + 1) ms) p m r
                  → ((m ≡ k) × (r ≡ p)) ⊎ TaskHas g x (Tail n (i + 1) q) m r
              by member_here = inl (refl, refl)
              by {m = m} {r = r} (member_later {r = z} u a) = inr (
                node.Seq ms,
                at,
                subst (λ v. AsksMember Rs Ns g.bodies x (drop (i + 1) ms) v m r) (takes_same k p q z t u) a,
              )

      module _ (ms : List ℕ) (at : slice_get Ns n ≡ Some (node.Choice ms)) where
        choice_asks : (m q : ℕ) → TaskAsks g x (Tail n i p) m q
            → AsksAlternative Rs Ns g.bodies x p (drop i ms) m × (q ≡ p)
        choice_asks m q a = let same : a.0 ≡ node.Choice ms = cc (a.1, at) in
            subst (λ v. TailAsks g x v i p m q) same a.2

        pub choice_ends : drop i ms ≡ [] → IsBegun g x (Tail n i p) (step.Gives Failed)
        choice_ends none = (
          (node.Choice ms, at, subst (λ v. AlternativesFind g x p v Failed) (sym none) find_none),
          λ m q a. no_alternative (subst (λ v. AsksAlternative Rs Ns g.bodies x p v m) none (choice_asks m q a).0),
        )
          where
            no_alternative : {m : ℕ} → AsksAlternative Rs Ns g.bodies x p [] m → ⊥
            no_alternative a = elim a [ ]

        module _ (k : ℕ) (here : slice_get ms i ≡ Some k) where
          pub choice_takes : (q : ℕ) → Finds k p (Took q) → AfterTail k (step.Gives (Took q))
          choice_takes q t = (
            (
              node.Choice ms,
              at,
              subst (λ v. AlternativesFind g x p v (Took q)) (sym (member_drop ms i k here)) (find_first t),
            ),
            λ m r a. let by = choice_asks m r a in (
              first_only (subst (λ v. AsksAlternative Rs Ns g.bodies x p v m) (member_drop ms i k here) by.0),
              by.1,
            ),
          )
            where
              first_only : {m : ℕ} → AsksAlternative Rs Ns g.bodies x p (k ∷ drop (i + 1) ms) m → m ≡ k
              first_only alternative_here = refl
              first_only (alternative_later u a) = absurd (not_both k p q t u)

          pub choice_fails : Finds k p Failed → AfterTail k (step.Becomes (Tail n (i + 1) p))
          choice_fails t = record {
            well = (s, le, (node.Choice ms, at, tt));
            finds = λ f l. let same : l.0 ≡ node.Choice ms = cc (l.1, at) in (
              node.Choice ms,
              at,
              subst (λ v. AlternativesFind g x p v f) (sym (member_drop ms i k here))
                  (find_later t (subst (λ v. TailFinds g x v (i + 1) p f) same l.2)),
            );
            whole = λ m r a. let asked = choice_asks m r a in
                by asked.1 (subst (λ v. AsksAlternative Rs Ns g.bodies x p v m) (member_drop ms i k here) asked.0);
            only = λ m r h. let same : h.0 ≡ node.Choice ms = cc (h.1, at) in
                let later = subst (λ v. TailAsks g x v (i + 1) p m r) same h.2 in (
                  node.Choice ms,
                  at,
                  (
                    subst (λ v. AsksAlternative Rs Ns g.bodies x p v m) (sym (member_drop ms i k here))
                        (alternative_later t later.0),
                    later.1,
                  ),
                );
          }
            where
              by : {m r : ℕ} → r ≡ p → AsksAlternative Rs Ns g.bodies x p (k ∷ drop (i + 1) ms) m
                  → ((m ≡ k) × (r ≡ p)) ⊎ TaskHas g x (Tail n (i + 1) p) m r
              by is alternative_here = inl (refl, is)
              by is (alternative_later u a) = inr (node.Choice ms, at, (a, is))

  -- the child that a task asks for first
  operand_asked : (shape : Shape) (n p k : ℕ) (denied : Bool) → HasOperand shape k denied
      → AsksBy Rs Ns g.bodies x shape n p k p
  operand_asked node.Any n p k denied h = absurd h
  operand_asked (node.Bytes bs) n p k denied h = absurd h
  operand_asked (node.Set b) n p k denied h = absurd h
  operand_asked (node.Name id) n p k denied h = absurd h
  operand_asked (node.Seq ms) n p k denied h = absurd h
  operand_asked (node.Choice ms) n p k denied h = absurd h
  operand_asked (node.Star m) n p k denied h = inl (h.0, refl)
  operand_asked (node.Plus m i) n p k denied h = inl (h.0, refl)
  operand_asked (node.Opt m) n p k denied h = (h.0, refl)
  operand_asked (node.And m) n p k denied h = (h.0, refl)
  operand_asked (node.Not m) n p k denied h = (h.0, refl)
  operand_asked (node.Act t) n p k denied h = absurd h
  operand_asked node.Open n p k denied h = absurd h
  operand_asked node.Close n p k denied h = absurd h

  denied_shape : (shape : Shape) (k : ℕ) → HasOperand shape k true → (j : ℕ) × (shape ≡ node.Not j)
  denied_shape node.Any k h = absurd h
  denied_shape (node.Bytes bs) k h = absurd h
  denied_shape (node.Set b) k h = absurd h
  denied_shape (node.Name id) k h = absurd h
  denied_shape (node.Seq ms) k h = absurd h
  denied_shape (node.Choice ms) k h = absurd h
  denied_shape (node.Star m) k h = absurd (cc h.1)
  denied_shape (node.Plus m i) k h = absurd (cc h.1)
  denied_shape (node.Opt m) k h = absurd (cc h.1)
  denied_shape (node.And m) k h = absurd (cc h.1)
  denied_shape (node.Not m) k h = (m, refl)
  denied_shape (node.Act t) k h = absurd h
  denied_shape node.Open k h = absurd h
  denied_shape node.Close k h = absurd h

  -- a `!` asks for nothing outside of it
  pub denied_asks : (a : MatchTask) (k q m r : ℕ) → IsFirst g a k q true → TaskAsks g x a m r → ⊥
  denied_asks (Eval n p) k q m r first asks =
      let is = denied_shape first.1.0 k first.1.2 in
      asks.0 (is.0, first.1.1 ∙ ap Some is.1)
  denied_asks (Tail n i p) k q m r first asks = absurd (cc first.1)

  node_first : (n p k q : ℕ) (denied : Bool) → IsFirst g (Eval n p) k q denied → Asks Rs Ns g.bodies x n p k q
  node_first n p k q denied first = record {
    shape = first.1.0;
    at = first.1.1;
    by = subst (λ v. AsksBy Rs Ns g.bodies x first.1.0 n p k v) (sym first.0)
        (operand_asked first.1.0 n p k denied first.1.2);
  }

  pub first_asks : (a : MatchTask) (k q : ℕ) → IsFirst g a k q false → TaskAsks g x a k q
  first_asks (Eval n p) k q first = (
    λ d. let same : first.1.0 ≡ node.Not d.0 = cc (first.1.1, d.1) in
        let is = subst (λ v. HasOperand v k false) same first.1.2 in absurd (cc is.1),
    node_first n p k q false first,
  )
  first_asks (Tail n i p) k q first = (
    first.2.0,
    first.2.1,
    subst (λ v. TailAsks g x first.2.0 i p k v) (sym first.0) (member_asked first.2.0 i first.2.2),
  )
    where
      member_asked : (shape : Shape) (i : ℕ) → HasMemberAt shape i k → TailAsks g x shape i p k p
      member_asked (node.Seq ms) i h = subst (λ v. AsksMember Rs Ns g.bodies x v p k p) (sym (member_drop ms i k h))
          member_here
      member_asked (node.Choice ms) i h = (
        subst (λ v. AsksAlternative Rs Ns g.bodies x p v k) (sym (member_drop ms i k h)) alternative_here,
        refl,
      )
      member_asked node.Any i h = absurd h
      member_asked (node.Bytes bs) i h = absurd h
      member_asked (node.Set b) i h = absurd h
      member_asked (node.Name id) i h = absurd h
      member_asked (node.Star m) i h = absurd h
      member_asked (node.Plus m j) i h = absurd h
      member_asked (node.Opt m) i h = absurd h
      member_asked (node.And m) i h = absurd h
      member_asked (node.Not m) i h = absurd h
      member_asked (node.Act t) i h = absurd h
      member_asked node.Open i h = absurd h
      member_asked node.Close i h = absurd h

  member_spelled : {ms : List ℕ} (i k : ℕ) → (es : Patterns) → SpellAll Rs Ns ms es → slice_get ms i ≡ Some k
      → SpellsSome Rs Ns k
  member_spelled i k es spell_none at = absurd (cc at)
  member_spelled zero k es (spell_more {p = e} s ss) at =
      (e, subst (λ v. Spells Rs Ns v e) (cc at) s)
  member_spelled (suc i) k es (spell_more {ps = rest} s ss) at = member_spelled i k rest ss at

  pub first_well : (a : MatchTask) (k q : ℕ) (denied : Bool) → IsWell g x a → IsFirst g a k q denied
      → IsWell g x (Eval k q)
  first_well (Eval n p) k q denied well first =
      let l = leads_to Rs g.start Ns g.bodies g.ranks x sound n p k q well.0 well.1 (node_first n p k q denied first) in
      (l.spelled, l.high)
  first_well (Tail n i p) k q denied well first = (
    by first.2.0 first.2.1 first.2.2,
    omega (arith, first.0, well.1),
  )
    where
      by : (shape : Shape) → slice_get Ns n ≡ Some shape → HasMemberAt shape i k → SpellsSome Rs Ns k
      by (node.Seq ms) at h = let like = has_shape Rs Ns well.0.1 (node.Seq ms) at in
          member_spelled i k like.0 like.2 h
      by (node.Choice ms) at h = let like = has_shape Rs Ns well.0.1 (node.Choice ms) at in
          member_spelled i k like.0 like.2 h
      by node.Any at h = absurd h
      by (node.Bytes bs) at h = absurd h
      by (node.Set b) at h = absurd h
      by (node.Name id) at h = absurd h
      by (node.Star m) at h = absurd h
      by (node.Plus m j) at h = absurd h
      by (node.Opt m) at h = absurd h
      by (node.And m) at h = absurd h
      by (node.Not m) at h = absurd h
      by (node.Act t) at h = absurd h
      by node.Open at h = absurd h
      by node.Close at h = absurd h
