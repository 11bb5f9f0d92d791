-- No iterations that take a letter are counted.
-- Serves: new.
use Rattle.std.proofs.Common.{◌≡◌, ℕ, ◌+◌, ◌<◌, ◌≤◌, List, length, ap, sym, ◌∙◌, subst, arith, ◌⊎◌, inl, inr}
use Rattle.std.proofs.lemmas.Bool.{cases_lt}
use Rattle.std.proofs.lemmas.List.{length-map}
use Rattle.std.proofs.lemmas.Option.{slice_get-map, slice_get_within}
use Rattle.std.specs.Prelude.{slice_get, Some, option_map}
use Rattle.flatgrammar.specs.Flat.{Iterations}
use Rattle.flatgrammar.specs.FlatViews.{node_of, nodes_of}
use Rattle.flatgrammar.specs.NodeSteps.{flat_of}
use Rattle.flatgrammar.specs.declared.flat_node.Node as code_node
use Rattle.flatgrammar.specs.declared.tables.Tables as code_flat
use Rattle.flatgrammar.specs.Stacks.{AreUncounted}

abbrev pub CountsIterations : code_node.Node → Type 0
CountsIterations node = (b : ℕ) × (m : ℕ) × (node_of node ≡ Iterations (Some b) m)

-- none of the first k nodes counts them
abbrev pub AreUncountedTo : List code_node.Node → ℕ → Type 0
AreUncountedTo nodes k = (s b m : ℕ) → s < k → slice_get (nodes_of nodes) s ≡ Some (Iterations (Some b) m) → ⊥

pub none_to_zero : (nodes : List code_node.Node) → AreUncountedTo nodes 0
none_to_zero nodes s b m lt is = absurd (omega (arith, lt))

pub none_to_next : (nodes : List code_node.Node) (k : ℕ) (node : code_node.Node) → slice_get nodes k ≡ Some node
    → (CountsIterations node → ⊥) → AreUncountedTo nodes k → AreUncountedTo nodes (k + 1)
none_to_next nodes k node at_k never before s b m lt is = by (cases_lt s k)
  where
    by : (s < k) ⊎ (k ≤ s) → ⊥
    by (inl less) = before s b m less is
    by (inr le) =
        let here : s ≡ k = omega (arith, le, lt) in
        let reported : slice_get (nodes_of nodes) k ≡ Some (node_of node) =
        slice_get-map node_of nodes k ∙ ap (λ v. option_map node_of v) at_k in
        let both : Some (node_of node) ≡ Some (Iterations (Some b) m) =
        sym reported ∙ subst (λ v. slice_get (nodes_of nodes) v ≡ Some (Iterations (Some b) m)) here is in
        let same : node_of node ≡ Iterations (Some b) m = cc both in
        never (b, m, same)

pub none_to_end : (tables : code_flat.Tables) (k : ℕ) → length tables.nodes.items ≤ k
    → AreUncountedTo tables.nodes.items k → AreUncounted (flat_of tables)
none_to_end tables k le before s b m is =
    let within = slice_get_within (nodes_of tables.nodes.items) s (Iterations (Some b) m) is in
    let size = length-map tables.nodes.items node_of in
    before s b m (omega (arith, within, size, le)) is
