-- The worklist: what it adds stands in the item set, and a set that is worked on is closed.
-- Serves: judge.
use Rattle.std.proofs.Common.{◌≡◌, ℕ, ◌<◌, true, false, inl, inr, Bool, Option, Some, None, List, [], length, slice_get}
use Rattle.std.proofs.Common.{refl, sym, ◌∙◌, ap, subst, arith}
use Rattle.std.proofs.lemmas.Bool.{false≢true}
use Rattle.flatgrammar.specs.Flat.{Node, at}
use Rattle.flatgrammar.specs.Holds.{Holds}
use Rattle.flatgrammar.specs.Nullable.{Passes, Nullable}
use Rattle.flatgrammar.specs.Positions.{In}
use Rattle.flatgrammar.proofs.PositionsLemmas.{holds_origin}
use Rattle.flatgrammar.proofs.FlatNullableLemmas.{passes_where_begun, passes_at_once}
use Rattle.flatgrammar.specs.declared.flat_item.Item.{Item}
use Rattle.flatgrammar.specs.declared.flat_node.Node as code_node
use Rattle.flatgrammar.specs.declared.tables.Tables as code_flat
use Rattle.flatgrammar.specs.FlatViews.{node_of}
use Rattle.flatgrammar.specs.NodeSteps.{flat_of}
use Rattle.earleyitems.specs.ItemSets.{waiting_or, IsAdvanced, IsNextOf}
use Rattle.flatgrammar.specs.TableViews.{done_in, GiveTargets, AreNulls, null_in, takes_of}
use Rattle.flatgrammar.specs.Targets.{Target, own, named}
use Rattle.earleyitems.specs.Closed.{Hold, HoldAll, IsClosed}
use Rattle.earleyitems.specs.Worklist.{AdvancesNullable, IsWorked}
use Rattle.flatgrammar.proofs.CallOfLemmas.{get_map, below_get, called_of, takes_true}
use Rattle.flatgrammar.proofs.NodeStepsLemmas.{done_is}

nullable_up : {nodes : List Node} {bodies : List ℕ} {s t : ℕ} → Target nodes bodies s t → Nullable nodes bodies t
    → Nullable nodes bodies s
nullable_up (own is differs) n = n
nullable_up (named is at_r r) n = Nullable.named is at_r (nullable_up r n)

not_true : (b : Bool) → (b ≡ true → ⊥) → b ≡ false
not_true true h = absurd (h refl)
not_true false h = refl

mark_is : (o : Option Bool) → null_in o ≡ true → o ≡ Some true
mark_is None h = absurd cc
mark_is (Some marked) h = ap Some h

module _ (flat : code_flat.Tables) (targets : GiveTargets (flat_of flat) flat.targets.items)
    (nulls : AreNulls (flat_of flat) flat.nulls.items)
    (x : List ℕ) (sets : List (List Item)) (earlier : HoldAll (flat_of flat) x sets) where
  pub passed_holds : (item a : Item) → Holds (flat_of flat) x (length sets) (at item.node item.step) item.origin
      → AdvancesNullable flat item a →
      Holds (flat_of flat) x (length sets) (at a.node a.step) a.origin
  passed_holds item a h p =
      let c = called_of flat targets item p.target a.step p.call in
      let n = (nulls p.target).0 (mark_is (slice_get flat.nulls.items p.target) p.null) in
      let made : Holds (flat_of flat) x (length sets) (at item.node a.step) item.origin =
      passes_at_once (flat_of flat) x h c.calls
      (λ t. absurd (false≢true (sym p.free ∙ takes_true flat item.node item.step item.origin t)))
      (nullable_up c.rooted n) in
      subst (λ v. Holds (flat_of flat) x (length sets) (at a.node a.step) v) (sym p.origin)
      (subst (λ v. Holds (flat_of flat) x (length sets) (at v a.step) item.origin) (sym p.node) made)

  pub none_hold : Hold (flat_of flat) x (length sets) []
  none_hold a h = elim h [ ]

  done_null : (t k : ℕ) (o : Option code_node.Node) → slice_get flat.nodes.items t ≡ o → done_in o k ≡ true
      → Passes (flat_of flat).nodes (flat_of flat).bodies t k → Nullable (flat_of flat).nodes (flat_of flat).bodies t
  done_null t k None is h passes = absurd cc
  done_null t k (Some node) is h passes = Nullable.done passes (get_map node_of flat.nodes.items t is)
      (done_is (node_of node) k h)

  module _ (set : List Item) (hold : Hold (flat_of flat) x (length sets) set)
      (worked : IsWorked flat sets set set) where
    goes_back : (by a : Item) → In by set → (o : Option (List Item)) → slice_get sets by.origin ≡ o
        → done_in (slice_get flat.nodes.items by.node) by.step ≡ true →
        (r : IsAdvanced flat by.node (waiting_or set o) a) → (takes_of flat r.from ≡ true → by.origin < length sets)
        → In a set
    goes_back by a stands (Some old) is d r later =
        worked by stands a (inr (record {
          done = d;
          advanced = subst (λ v. IsAdvanced flat by.node (waiting_or [] v)
              a) (sym is) r;
        }))
    goes_back by a stands None is d r later =
        let h = hold by stands in
        let one = holds_origin (flat_of flat) h in
        let two = below_get sets by.origin is in
        let same : by.origin ≡ length sets = omega (arith, one, two) in
        let n = done_null by.node by.step (slice_get flat.nodes.items by.node) refl d
        (passes_where_begun (flat_of flat) x h same) in
        let free = not_true (takes_of flat r.from) (λ t. let lt = later t in omega (arith, lt, same)) in
        worked r.from r.stands a (inl (inr (record {
          target = by.node;
          call = r.call;
          null = ap null_in ((nulls by.node).1 n);
          free = free;
          node = r.node;
          origin = r.origin;
        })))

    pub worked_closed : IsClosed flat sets set
    worked_closed a n = by n.next
      where
        by : IsNextOf flat sets set n.by a → In a set
        by (inl p) = worked n.by n.stands a (inl (inl p))
        by (inr c) =
            goes_back n.by a n.stands (slice_get sets n.by.origin) refl c.completed.done c.completed.advanced c.later
