-- What a node of a given shape spells.
-- Serves: check_peg
use Rattle.std.proofs.Common.{◌≡◌, ℕ, List, Some, refl, subst, zero, suc, ◌<◌, [], ◌∷◌, length, get_or, sym, ap, arith}
use Rattle.std.specs.Prelude.{slice_get}
use Rattle.pegread.specs.Pattern.{Pattern, Patterns, Rule}
use Rattle.pegnodes.specs.Nodes.{Shape, id_of, Spells, spells_any, spells_bytes, spells_set, spells_name, spells_seq}
use Rattle.pegnodes.specs.Nodes.{spells_choice, spells_star, spells_plus, spells_opt, spells_and, spells_not}
use Rattle.pegnodes.specs.Nodes.{spells_act, spells_open, spells_close, SpellAll, shape_of, shapes_of}
use Rattle.std.proofs.lemmas.List.{length-map}
use Rattle.pegnodes.specs.declared.node.Node.{Node}
use Rattle.pegread.specs.Pattern as expr
use Rattle.pegnodes.specs.Nodes as node

-- nodes of the code, read as shapes
pub node_at : (nodes : List Node) (n : ℕ) (v : Node) → n < length nodes → v ≡ get_or nodes n v
    → slice_get (shapes_of nodes) n ≡ Some (shape_of v)
node_at [] n v lt is = absurd (omega arith)
node_at (node ∷ nodes) zero v lt is = ap (λ w. Some (shape_of w)) (sym is)
node_at (node ∷ nodes) (suc n) v lt is = let less : n < length nodes = omega arith in node_at nodes n v less is

pub length-shapes : (nodes : List Node) → length (shapes_of nodes) ≡ length nodes
length-shapes nodes = length-map nodes shape_of

module _ (rules : List Rule) (nodes : List Shape) where
  -- p has this shape, and its operands are spelled by the shape's
  abbrev pub HasShape : Shape → Pattern → Type 0
  HasShape node.Any p = p ≡ expr.Any
  HasShape (node.Bytes bs) p = p ≡ expr.Bytes bs
  HasShape (node.Set s) p = p ≡ expr.Set s
  HasShape (node.Name id) p = (word : List ℕ) × (p ≡ expr.Name word) × (id_of rules word ≡ id)
  HasShape (node.Seq ms) p = (ps : Patterns) × (p ≡ expr.Seq ps) × SpellAll rules nodes ms ps
  HasShape (node.Choice ms) p = (ps : Patterns) × (p ≡ expr.Choice ps) × SpellAll rules nodes ms ps
  HasShape (node.Star m) p = (q : Pattern) × (p ≡ expr.Star q) × Spells rules nodes m q
  HasShape (node.Plus m k) p = (q : Pattern) × (p ≡ expr.Plus q) × Spells rules nodes m q
      × (slice_get nodes k ≡ Some (node.Star m))
  HasShape (node.Opt m) p = (q : Pattern) × (p ≡ expr.Opt q) × Spells rules nodes m q
  HasShape (node.And m) p = (q : Pattern) × (p ≡ expr.And q) × Spells rules nodes m q
  HasShape (node.Not m) p = (q : Pattern) × (p ≡ expr.Not q) × Spells rules nodes m q
  HasShape (node.Act t) p = p ≡ expr.Act t
  HasShape node.Open p = p ≡ expr.Open
  HasShape node.Close p = p ≡ expr.Close

  pub has_shape : {n : ℕ} {p : Pattern} → Spells rules nodes n p → (shape : Shape) → slice_get nodes n ≡ Some shape
      → HasShape shape p
  has_shape (spells_any g) shape h = let same : node.Any ≡ shape = cc in subst (λ v. HasShape v expr.Any) same refl
  has_shape (spells_bytes {bs = bs} g) shape h = let same : node.Bytes bs ≡ shape = cc in
      subst (λ v. HasShape v (expr.Bytes bs)) same refl
  has_shape (spells_set {s = s} g) shape h = let same : node.Set s ≡ shape = cc in
      subst (λ v. HasShape v (expr.Set s)) same refl
  has_shape (spells_name {name = word} g) shape h =
      let same : node.Name (id_of rules word) ≡ shape = cc in subst (λ v. HasShape v (expr.Name word)) same
      (word, refl, refl)
  has_shape (spells_seq {ms = ms} {ps = ps} g s) shape h = let same : node.Seq ms ≡ shape = cc in
      subst (λ v. HasShape v (expr.Seq ps)) same (ps, refl, s)
  has_shape (spells_choice {ms = ms} {ps = ps} g s) shape h = let same : node.Choice ms ≡ shape = cc in
      subst (λ v. HasShape v (expr.Choice ps)) same (ps, refl, s)
  has_shape (spells_star {m = m} {p = q} g s) shape h = let same : node.Star m ≡ shape = cc in
      subst (λ v. HasShape v (expr.Star q)) same (q, refl, s)
  has_shape (spells_plus {m = m} {k = k} {p = q} g s a) shape h = let same : node.Plus m k ≡ shape = cc in
      subst (λ v. HasShape v (expr.Plus q)) same (q, refl, s, a)
  has_shape (spells_opt {m = m} {p = q} g s) shape h = let same : node.Opt m ≡ shape = cc in
      subst (λ v. HasShape v (expr.Opt q)) same (q, refl, s)
  has_shape (spells_and {m = m} {p = q} g s) shape h = let same : node.And m ≡ shape = cc in
      subst (λ v. HasShape v (expr.And q)) same (q, refl, s)
  has_shape (spells_not {m = m} {p = q} g s) shape h = let same : node.Not m ≡ shape = cc in
      subst (λ v. HasShape v (expr.Not q)) same (q, refl, s)
  has_shape (spells_act {t = t} g) shape h = let same : node.Act t ≡ shape = cc in
      subst (λ v. HasShape v (expr.Act t)) same refl
  has_shape (spells_open g) shape h = let same : node.Open ≡ shape = cc in subst (λ v. HasShape v expr.Open) same refl
  has_shape (spells_close g) shape h = let same : node.Close ≡ shape = cc in
      subst (λ v. HasShape v expr.Close) same refl
