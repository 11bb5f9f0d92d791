-- What an item asks for stands in the item sets.
-- Serves: judge.
use Rattle.std.proofs.Common.{◌≡◌, ℕ, ◌<◌, ◌≤◌, true, Option, Some, None, List, length, slice_get, refl, sym, subst}
use Rattle.std.proofs.Common.{arith}
use Rattle.flatgrammar.specs.Flat.{at}
use Rattle.flatgrammar.specs.Holds.{Holds, called, returned}
use Rattle.flatgrammar.specs.Positions.{In}
use Rattle.flatgrammar.proofs.PositionsLemmas.{holds_origin}
use Rattle.flatgrammar.specs.declared.flat_item.Item.{Item}
use Rattle.flatgrammar.specs.declared.tables.Tables as code_flat
use Rattle.flatgrammar.specs.NodeSteps.{flat_of}
use Rattle.flatgrammar.specs.TableViews.{GiveTargets, takes_of}
use Rattle.earleyitems.specs.ItemSets.{waiting_or, IsPredicted, IsCompleted}
use Rattle.earleyitems.specs.Closed.{Hold, HoldAll}
use Rattle.flatgrammar.proofs.CallOfLemmas.{done_ends, begun_starts, below_get, called_of, takes_true}

module _ (flat : code_flat.Tables) (targets : GiveTargets (flat_of flat) flat.targets.items) where
  module _ (x : List ℕ) (sets : List (List Item)) (seen : List Item)
      (earlier : HoldAll (flat_of flat) x sets) (hold : Hold (flat_of flat) x (length sets) seen) where
    pub predicted_holds : (item a : Item) → Holds (flat_of flat) x (length sets) (at item.node item.step) item.origin
        → IsPredicted flat (length sets) item a →
        Holds (flat_of flat) x (length sets) (at a.node a.step) a.origin
    predicted_holds item a h p =
        let c = called_of flat targets item p.target p.next p.call in
        let st = begun_starts flat targets p.target a.step c.callee (slice_get flat.nodes.items p.target) refl p.begun.1
        c.rooted in
        let made : Holds (flat_of flat) x (length sets) (at p.target a.step) (length sets) = called h c.calls st in
        let n = sym p.begun.0 in
        let o = sym p.begun.2 in
        subst (λ v. Holds (flat_of flat) x (length sets) (at a.node a.step) v) o
        (subst (λ v. Holds (flat_of flat) x (length sets) (at v a.step) (length sets)) n made)

    waited_holds : (item from : Item) (o : Option (List Item)) → slice_get sets item.origin ≡ o
        → In from (waiting_or seen o)
        → item.origin ≤ length sets →
        Holds (flat_of flat) x item.origin (at from.node from.step) from.origin
    waited_holds item from (Some set) is h le = earlier item.origin set is from h
    waited_holds item from None is h le =
        let past = below_get sets item.origin is in
        let same : length sets ≡ item.origin = omega (arith, past, le) in
        subst (λ v. Holds (flat_of flat) x v (at from.node from.step) from.origin) same (hold from h)

    pub completed_holds : (item a : Item) → Holds (flat_of flat) x (length sets) (at item.node item.step) item.origin
        → (p : IsCompleted flat sets seen item a) →
        (takes_of flat p.advanced.from ≡ true → item.origin < length sets)
        → Holds (flat_of flat) x (length sets) (at a.node a.step) a.origin
    completed_holds item a h p later =
        let r = p.advanced in
        let c = called_of flat targets r.from item.node a.step r.call in
        let e = done_ends flat targets item.node item.step c.callee (slice_get flat.nodes.items item.node) refl p.done
        c.rooted in
        let w = waited_holds item r.from (slice_get sets item.origin) refl r.stands (holds_origin (flat_of flat) h) in
        let made : Holds (flat_of flat) x (length sets) (at r.from.node a.step) r.from.origin =
        returned h e w c.calls (λ t. later (takes_true flat r.from.node r.from.step r.from.origin t)) in
        subst (λ v. Holds (flat_of flat) x (length sets) (at a.node a.step) v) (sym r.origin)
        (subst (λ v. Holds (flat_of flat) x (length sets) (at v a.step) r.from.origin) (sym r.node) made)
