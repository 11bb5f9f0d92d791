-- The templates of a grammar's actions are cut, node by node.
-- Serves: check_peg, SoundPeg::template
use Rattle.std.proofs.Common.{◌≡◌, ℕ, suc, zero, ◌+◌, ◌<◌, ◌≤◌, List, [], ◌∷◌, ◌++◌, length, get_or}
use Rattle.std.proofs.Common.{refl, ap, arith, ◌∙◌, Some, Vec, Global, append-nil, subst}
use Rattle.std.specs.Prelude.{slice_get}
use borrow.Author.Count.{below_more}
use Rattle.std.proofs.lemmas.List.{length-map}
use Rattle.std.proofs.lemmas.Option.{slice_get-map, slice_get_within, get_or_from_slice_get}
use Rattle.pegnodes.specs.declared.node.Node.{Node}
use Rattle.pegnodes.specs.declared.template.Template.{Template}
use Rattle.pegnodes.specs.Nodes.{Act, shape_of, shapes_of}
use Rattle.pegnodes.specs.Slots.{IsCut, HasCut, AreCuts}

pub get_before : {A : Type 0} (xs ys : List A) (k : ℕ) {x : A} → slice_get xs k ≡ Some x
    → slice_get (xs ++ ys) k ≡ Some x
get_before [] ys k is = cc
get_before (x ∷ xs) ys zero is = is
get_before (x ∷ xs) ys (suc k) is = get_before xs ys k is

pub get_new : {A : Type 0} (xs : List A) (x : A) → slice_get (xs ++ x ∷ []) (length xs) ≡ Some x
get_new [] x = refl
get_new (y ∷ xs) x = get_new xs x

act_of : (node : Node) (text : List ℕ) → shape_of node ≡ Act text → (t : Vec ℕ Global) × (node ≡ Node.Act t)
    × (t.items ≡ text)
act_of (Node.Act t) text is = (t, refl, cc)
act_of _ text is = absurd cc

-- each action below a number has the cut of its template
abbrev pub AreCutsBelow : List Node → ℕ → List ℕ → List Template → Type 0
AreCutsBelow nodes i positions cuts = (n : ℕ) → n < i → (text : List ℕ) → slice_get (shapes_of nodes) n
    ≡ Some (Act text) →
    HasCut positions cuts n text

HasCut-kept : (positions : List ℕ) (cuts : List Template) (p : ℕ) (more : List Template) (n : ℕ) (text : List ℕ) →
    HasCut positions cuts n text → HasCut (positions ++ p ∷ []) (cuts ++ more) n text
HasCut-kept positions cuts p more n text h = record {
  position = h.position;
  cut = h.cut;
  at = get_before positions (p ∷ []) n h.at;
  there = get_before cuts more h.position h.there;
  is_cut = h.is_cut;
}

module _ (nodes : List Node) (i : ℕ) (positions : List ℕ) (cuts : List Template) (long : length positions ≡ i)
    (are : AreCutsBelow nodes i positions cuts) (node : Node) (at : slice_get nodes i ≡ Some node)
    (k : ℕ) (count : k ≡ length cuts) where
  shape_here : slice_get (shapes_of nodes) i ≡ Some (shape_of node)
  shape_here = slice_get-map shape_of nodes i ∙ rw at refl

  -- the node is no action
  pub AreCutsBelow-other : ((t : Vec ℕ Global) → node ≡ Node.Act t → ⊥) →
      AreCutsBelow nodes (i + 1) (positions ++ k ∷ []) cuts
  AreCutsBelow-other other = below_more
      (λ n. (text : List ℕ) → slice_get (shapes_of nodes) n ≡ Some (Act text) →
      HasCut (positions ++ k ∷ []) cuts n text) i
      (λ n lt text s. subst (λ v. HasCut (positions ++ k ∷ []) v n text) (append-nil cuts)
      (HasCut-kept positions cuts k [] n text (are n lt text s)))
      (λ text s.
      let same : shape_of node ≡ Act text = cc (shape_here, s) in
      let acts = act_of node text same in
      absurd (other acts.0 acts.1))

  -- the node is an action
  pub AreCutsBelow-act : (t : Vec ℕ Global) → node ≡ Node.Act t → (cut : Template) → IsCut t.items cut →
      AreCutsBelow nodes (i + 1) (positions ++ k ∷ []) (cuts ++ cut ∷ [])
  AreCutsBelow-act t is cut h = below_more
      (λ n. (text : List ℕ) → slice_get (shapes_of nodes) n ≡ Some (Act text) →
      HasCut (positions ++ k ∷ []) (cuts ++ cut ∷ []) n text) i
      (λ n lt text s. HasCut-kept positions cuts k (cut ∷ []) n text (are n lt text s))
      (λ text s.
      let same : t.items ≡ text = cc (shape_here, s, is) in
      record {
        position = k;
        cut = cut;
        at = subst (λ j. slice_get (positions ++ k ∷ []) j ≡ Some k) long (get_new positions k);
        there = rw count (get_new cuts cut);
        is_cut = subst (λ v. IsCut v cut) same h;
      })

pub AreCuts-all : (nodes : List Node) (i : ℕ) (positions : List ℕ) (cuts : List Template) → length nodes ≤ i →
    AreCutsBelow nodes i positions cuts → AreCuts (shapes_of nodes) positions cuts
AreCuts-all nodes i positions cuts long are n text s =
    let less : n < length (shapes_of nodes) = slice_get_within (shapes_of nodes) n (Act text) s in
    are n (omega (arith, length-map nodes shape_of)) text s

-- what the cut of a node's template says of the numbers and the cut that are read for it
module _ (positions : List ℕ) (cuts : List Template) (n : ℕ) (text : List ℕ) (has : HasCut positions cuts n text) where
  pub position_within : n < length positions
  position_within = slice_get_within positions n has.position has.at

  module _ (p : ℕ) (read : p ≡ get_or positions n p) where
    position_is : p ≡ has.position
    position_is = read ∙ get_or_from_slice_get positions n has.position p has.at

    pub cut_within : p < length cuts
    cut_within = rw position_is (slice_get_within cuts has.position has.cut has.there)

    pub cut_is_read : (cut : Template) → cut ≡ get_or cuts p cut → IsCut text cut
    cut_is_read cut same =
        let is : cut ≡ has.cut = same ∙ ap (λ j. get_or cuts j cut) position_is
        ∙ get_or_from_slice_get cuts has.position has.cut cut has.there in
        rw is has.is_cut
