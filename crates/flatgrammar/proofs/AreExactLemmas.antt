-- The tables of a flat grammar are exact.
-- Serves: lower, judge.
use Rattle.std.proofs.Common.{◌≡◌, ◌⊎◌, inl, inr, ℕ, Bool, Option, List, [], Vec, Global, sym, ◌∙◌, ap, subst}
use Rattle.flatgrammar.specs.declared.flat_node.Node as code_node
use Rattle.flatgrammar.specs.declared.closure.DottedRule.{DottedRule}
use Rattle.flatgrammar.specs.declared.closure.ItemClosure as code_closure
use Rattle.flatgrammar.specs.declared.inlined.Inlined.{Inlined}
use Rattle.flatgrammar.specs.declared.dot_list.DotList.{DotList}
use Rattle.flatgrammar.specs.declared.tables.Tables as code_flat
use Rattle.flatgrammar.specs.FlatViews.{nodes_of}
use Rattle.flatgrammar.specs.NodeSteps.{flat_of}
use Rattle.flatgrammar.specs.Positions.{In}
use Rattle.flatgrammar.specs.Targets.{AreTargets}
use Rattle.flatgrammar.specs.TableViews.{GiveTargets, AreNulls}
use Rattle.flatgrammar.specs.ItemClosures.{ItemClosure, AreDotLists, AreExact, AreOwners, owner_of}
use Rattle.flatgrammar.specs.Inlines.{AreInlines}
use Rattle.flatgrammar.specs.PredictionClosures.{IsCalled, IsPast, SomeOf, Grows, IsAtOwner, ArePredictionClosures}
use Rattle.flatgrammar.proofs.PredictionClosureLemmas.{prediction_tables, inlines_alone}

abbrev pub tables : Vec code_node.Node Global → Vec ℕ Global → Vec (Option ℕ) Global → Vec Bool Global
    → Vec (Option Inlined) Global → Vec code_closure.ItemClosure Global → Vec DotList Global → ℕ → ℕ → code_flat.Tables
tables nodes bodies targets nulls inlines closures lists whole limit =
    record {
      nodes = nodes;
      bodies = bodies;
      targets = targets;
      nulls = nulls;
      inlines = inlines;
      closures = closures;
      lists = lists;
      start = whole;
      limit = limit;
    }

module _ (nodes : Vec code_node.Node Global) (bodies : Vec ℕ Global) (targets : Vec (Option ℕ) Global)
    (nulls : Vec Bool Global) (nobody inlines : Vec (Option Inlined) Global)
    (none closures : Vec code_closure.ItemClosure Global) (unlisted lists : Vec DotList Global) (whole limit : ℕ)
    (ns : List code_node.Node) (bs : List ℕ) (is_ns : ns ≡ nodes.items) (is_bs : bs ≡ bodies.items)
    (are_targets : AreTargets (nodes_of ns) bs targets.items)
    (are_nulls : AreNulls (record { nodes = nodes_of nodes.items; bodies = bodies.items; start = whole; limit = limit })
    nulls.items)
    (are_inlines : AreInlines (tables nodes bodies targets nulls nobody none unlisted whole limit) inlines.items)
    (made : ArePredictionClosures
    (tables nodes bodies targets nulls nobody none unlisted whole limit) inlines.items closures.items)
    (are_lists : AreDotLists (tables nodes bodies targets nulls inlines closures lists whole limit)) where
  gives_targets : GiveTargets
      (flat_of (tables nodes bodies targets nulls inlines closures lists whole limit)) targets.items
  gives_targets = let r = subst (λ v. AreTargets (nodes_of nodes.items) v targets.items) is_bs
      (subst (λ v. AreTargets (nodes_of v) bs targets.items) is_ns are_targets) in
      λ s t. ((λ is. r.sound s t is), (λ target. r.whole s t target))

  -- inner nodes and closures look at nodes, targets and marks alone
  same_inlines : AreInlines (tables nodes bodies targets nulls inlines closures lists whole limit) inlines.items
  same_inlines t i is = let one = are_inlines t i is in record {
    above = one.above;
    within = one.within;
    begins = one.begins;
    call = one.call;
    moves = one.moves;
    owner = one.owner;
    whole = one.whole;
    only = one.only;
  }

  same_grows : (P : DottedRule → Type 0) (old new : ItemClosure)
      → Grows (tables nodes bodies targets nulls nobody none unlisted whole limit) inlines.items P old new →
      Grows (tables nodes bodies targets nulls inlines closures lists whole limit) inlines.items P old new
  same_grows P old new g = record {
    dots = g.dots;
    calls = λ t. ((λ h. to_call t (((g.calls t).0) h)), (λ h. (g.calls t).1 (from_call t h)));
    passes = λ r. ((λ h. to_pass r (((g.passes r).0) h)), (λ h. (g.passes r).1 (from_pass r h)));
    different = g.different;
  }
    where
      to_call : (t : ℕ) → In t old.calls ⊎ SomeOf P
          (λ p. IsCalled (tables nodes bodies targets nulls nobody none unlisted whole limit) inlines.items p t) →
          In t old.calls ⊎ SomeOf P
          (λ p. IsCalled (tables nodes bodies targets nulls inlines closures lists whole limit)
          inlines.items p t)
      to_call t (inl h) = inl h
      to_call t (inr s) = inr (record {
        dot = s.dot;
        stands = s.stands;
        is = record { next = s.is.next; call = s.is.call; own = s.is.own };
      })

      from_call : (t : ℕ) → In t old.calls ⊎ SomeOf P
          (λ p. IsCalled (tables nodes bodies targets nulls inlines closures lists whole limit) inlines.items p t) →
          In t old.calls ⊎ SomeOf P (λ p. IsCalled (tables nodes bodies targets nulls nobody none unlisted whole limit)
          inlines.items p t)
      from_call t (inl h) = inl h
      from_call t (inr s) = inr (record {
        dot = s.dot;
        stands = s.stands;
        is = record { next = s.is.next; call = s.is.call; own = s.is.own };
      })

      to_pass : (r : DottedRule) → In r old.passes ⊎ SomeOf P
          (λ p. IsPast (tables nodes bodies targets nulls nobody none unlisted whole limit) p r) →
          In r old.passes ⊎ SomeOf P
          (λ p. IsPast (tables nodes bodies targets nulls inlines closures lists whole limit) p r)
      to_pass r (inl h) = inl h
      to_pass r (inr s) = inr (record {
        dot = s.dot;
        stands = s.stands;
        is = record {
          target = s.is.target;
          call = s.is.call;
          null = s.is.null;
          free = s.is.free;
          node = s.is.node;
          moves = s.is.moves;
        };
      })

      from_pass : (r : DottedRule) → In r old.passes ⊎ SomeOf P
          (λ p. IsPast (tables nodes bodies targets nulls inlines closures lists whole limit) p r) →
          In r old.passes ⊎ SomeOf P (λ p. IsPast (tables nodes bodies targets nulls nobody none unlisted whole limit)
          p r)
      from_pass r (inl h) = inl h
      from_pass r (inr s) = inr (record {
        dot = s.dot;
        stands = s.stands;
        is = record {
          target = s.is.target;
          call = s.is.call;
          null = s.is.null;
          free = s.is.free;
          node = s.is.node;
          moves = s.is.moves;
        };
      })

  -- a closure has the nodes of its prediction
  are_owners : AreOwners (tables nodes bodies targets nulls inlines closures lists whole limit)
  are_owners = record {
    dots = λ h p at. at_owner h p (((made h).dots p).0 at);
    passes = λ h p at. past_owner h p (((made h).passes p).0 at);
    inlines = λ t inlined is. sym (are_inlines t inlined is).owner;
  }
    where
      at_owner : (h : ℕ) (p : DottedRule) → In p []
          ⊎ IsAtOwner (tables nodes bodies targets nulls nobody none unlisted whole limit) inlines.items h p
          → owner_of (tables nodes bodies targets nulls inlines closures lists whole limit) p.node ≡ h
      at_owner h p (inl at) = elim at [ ]
      at_owner h p (inr at) = at.0

      past_owner : (h : ℕ) (p : DottedRule) → In p []
          ⊎ SomeOf (IsAtOwner (tables nodes bodies targets nulls nobody none unlisted whole limit) inlines.items h)
          (λ q. IsPast (tables nodes bodies targets nulls nobody none unlisted whole limit) q p)
          → owner_of (tables nodes bodies targets nulls inlines closures lists whole limit) p.node ≡ h
      past_owner h p (inl at) = elim at [ ]
      past_owner h p (inr s) =
          ap (λ v. owner_of (tables nodes bodies targets nulls inlines closures lists whole limit) v) s.is.node
          ∙ s.stands.0

  pub tables_exact : AreExact (tables nodes bodies targets nulls inlines closures lists whole limit)
  tables_exact = record {
    targets = gives_targets;
    nulls = are_nulls;
    closures = prediction_tables
        (tables nodes bodies targets nulls inlines closures lists whole limit) gives_targets inlines.items
        same_inlines (λ h. same_grows _ _ _ (made h));
    inlines = λ t i is. inlines_alone
        (tables nodes bodies targets nulls inlines closures lists whole limit) gives_targets
        inlines.items
        same_inlines (λ h. same_grows _ _ _ (made h)) t i is;
    lists = are_lists;
    owners = are_owners;
  }
