-- What the shape of a node says of the expression that it spells.
-- Serves: Plain::match_unit, write_event
use Rattle.std.proofs.Common.{◌≡◌, ℕ, ◌<◌, List, [], ◌∷◌, ◌++◌, length, map, refl, sym, ap, ◌∙◌, Some, arith}
use Rattle.std.proofs.Common.{append-nil, option_map, Vec, Global}
use Rattle.std.proofs.lemmas.List.{length-map}
use Rattle.std.specs.Prelude.{slice_get, Result, IfOk}
use Rattle.std.proofs.lemmas.Result.{IfOk-weaker}
use Rattle.std.proofs.lemmas.Option.{slice_get-map, slice_get_within}
use Rattle.pegread.specs.Pattern as e
use Rattle.pegread.specs.Pattern.{Pattern, Rule}
use Rattle.pegnodes.specs.declared.node.Node.{Node}
use Rattle.pegnodes.specs.Nodes as shape
use Rattle.pegnodes.specs.Nodes.{Shape, shape_of, shapes_of, Spells}
use Rattle.gramcheck.specs.Outcome.{Outcome, Fails, Takes, Gives, GivesAll, GivesFirst, name, seq, choice, act, open_at}
use Rattle.gramcheck.specs.Outcome.{close_at}
use Rattle.pegnodes.proofs.OwnIdLemmas.{body_at_id}
use Rattle.pegnodes.proofs.HasShapeLemmas.{has_shape}
use Rattle.pegmatch.specs.KeptEvents.{no_event, one_event, opened, closed, acted, quiet_outcome, MatchesBy, IsMatch}
use Rattle.pegmatch.specs.KeptEvents.{IsMatchOver, IsMatchOfAll, IsMatchOfFirst}
use Rattle.pegmatch.specs.declared.event.Kept.{Kept}
use Rattle.memo.specs.declared.found.Found.{Found}
use Rattle.pegmatch.specs.declared.leaves.Tried.{Tried}

pub shape_at : (nodes : List Node) (n : ℕ) (node : Node) → slice_get nodes n ≡ Some node → slice_get (shapes_of nodes) n
    ≡ Some (shape_of node)
shape_at nodes n node is = slice_get-map shape_of nodes n ∙ ap (λ v. option_map shape_of v) is

module _ (rules : List Rule) (nodes : List Shape) where
  -- whatever one gives, so does the other
  map_by : (F G : Outcome → ℕ → Type 0) → ((o : Outcome) (k : ℕ) → F o k → G o k)
      → (found : Found) (k : ℕ) (old new : List Kept) →
      MatchesBy nodes F found k old new → MatchesBy nodes G found k old new
  map_by F G f Found.Failed k old new (d, is) = (f Fails k d, is)
  map_by F G f (Found.Took q) k old new (added, events, stand, d, is) =
      (added, events, stand, f (Takes q events) k d, is)

  -- a node that leaves no event
  quiet_by : (x : List ℕ) (p : ℕ) (c : Pattern) (found : Found) (k : ℕ) (old : List Kept) →
      Gives rules x c p (quiet_outcome found) k → MatchesBy nodes (Gives rules x c p) found k old old
  quiet_by x p c Found.Failed k old d = (d, refl)
  quiet_by x p c (Found.Took q) k old d = ([], [], no_event, d, sym (append-nil old))

-- a success that takes nothing and keeps one event
abbrev pub kept_one : ℕ → Tried
kept_one p = record { found = Found.Took p; looked = 0 }

module _ {rules : List Rule} {nodes : List Shape} {n : ℕ} where
  -- a node whose shape spells one expression alone
  pub quiet_match : {x : List ℕ} {p : ℕ} {b : Pattern} (tried : Tried) (old : List Kept)
      → ((c : Pattern) → Spells rules nodes n c → c ≡ b) →
      Gives rules x b p (quiet_outcome tried.found) tried.looked → IsMatch rules nodes x n p tried old old
  quiet_match {x} {p} {b} tried old spelt d = λ c s.
      rw (spelt c s) (quiet_by rules nodes x p b tried.found tried.looked old d)

-- a node, from what is found for another node or for its operands, if there is no error
module _ {E : Type 0} (r : Result Tried E) (rules : List Rule) (nodes : List Shape) (n : ℕ) (x : List ℕ) (p : ℕ)
    (old new : List Kept) where
  pub name_match : {id m : ℕ} {body : Pattern}
      → slice_get nodes n ≡ Some (shape.Name id) →
      slice_get (map (λ rule. rule.body) rules) id ≡ Some body → Spells rules nodes m body →
      IfOk r (λ tried. IsMatch rules nodes x m p tried old new)
      → IfOk r (λ tried. IsMatch rules nodes x n p tried old new)
  name_match {id} {m} {body} at there spelled = IfOk-weaker r _ _ (λ tried h c s.
      let is = has_shape rules nodes s (shape.Name id) at in
      let found = body_at_id rules is.0 ∙ ap (λ v. slice_get (map (λ rule. rule.body) rules) v) is.2 ∙ there in
      rw is.1 (map_by rules nodes (Gives rules x body p) (Gives rules x (e.Name is.0) p) (λ o k d. name found d)
      tried.found tried.looked old new (h body spelled)))

  -- a node with one operand
  pub over_match : (form : Pattern → Pattern) {m : ℕ} →
      ((c : Pattern) → Spells rules nodes n c → (q : Pattern) × (c ≡ form q) × Spells rules nodes m q) →
      IfOk r (λ tried. IsMatchOver form rules nodes x m p tried old new)
      → IfOk r (λ tried. IsMatch rules nodes x n p tried old new)
  over_match form spelt = IfOk-weaker r _ _ (λ tried h c s. let is = spelt c s in rw is.1 (h is.0 is.2))

  pub all_match : {ms : List ℕ} → slice_get nodes n ≡ Some (shape.Seq ms)
      → IfOk r (λ tried. IsMatchOfAll rules nodes x ms p tried old new)
      → IfOk r (λ tried. IsMatch rules nodes x n p tried old new)
  all_match {ms} at = IfOk-weaker r _ _ (λ tried h c s.
      let is = has_shape rules nodes s (shape.Seq ms) at in
      rw is.1 (map_by rules nodes (GivesAll rules x is.0 p) (Gives rules x (e.Seq is.0) p) (λ o k d. seq d)
      tried.found tried.looked old new (h is.0 is.2)))

  pub first_match : {ms : List ℕ}
      → slice_get nodes n ≡ Some (shape.Choice ms)
      → IfOk r (λ tried. IsMatchOfFirst rules nodes x ms p tried old new)
      → IfOk r (λ tried. IsMatch rules nodes x n p tried old new)
  first_match {ms} at = IfOk-weaker r _ _ (λ tried h c s.
      let is = has_shape rules nodes s (shape.Choice ms) at in
      rw is.1 (map_by rules nodes (GivesFirst rules x is.0 p) (Gives rules x (e.Choice is.0) p) (λ o k d. choice d)
      tried.found tried.looked old new (h is.0 is.2)))

  -- a node that keeps one event
  pub act_match : {t : List ℕ} → slice_get nodes n ≡ Some (shape.Act t)
      → IfOk r (λ tried. (tried ≡ kept_one p) × (new ≡ old ++ Kept.Acted n ∷ []))
      → IfOk r (λ tried. IsMatch rules nodes x n p tried old new)
  act_match {t = t} at = IfOk-weaker r _ _ (λ tried h c s. rw (h.0, has_shape rules nodes s (shape.Act t) at)
      (_, _, one_event (acted at) no_event, act, h.1))

  pub open_match : slice_get nodes n ≡ Some shape.Open
      → IfOk r (λ tried. (tried ≡ kept_one p) × (new ≡ old ++ Kept.Opened p ∷ []))
      → IfOk r (λ tried. IsMatch rules nodes x n p tried old new)
  open_match at = IfOk-weaker r _ _ (λ tried h c s. rw (h.0, has_shape rules nodes s shape.Open at)
      (_, _, one_event opened no_event, open_at, h.1))

  pub close_match : slice_get nodes n ≡ Some shape.Close
      → IfOk r (λ tried. (tried ≡ kept_one p) × (new ≡ old ++ Kept.Closed p ∷ []))
      → IfOk r (λ tried. IsMatch rules nodes x n p tried old new)
  close_match at = IfOk-weaker r _ _ (λ tried h c s. rw (h.0, has_shape rules nodes s shape.Close at)
      (_, _, one_event closed no_event, close_at, h.1))

pub node_within : (nodes : List Node) (n : ℕ) (s : Shape) → slice_get (shapes_of nodes) n ≡ Some s → n < length nodes
node_within nodes n s is = let less = slice_get_within (shapes_of nodes) n s is in grind (arith, less, length-map)

-- a node that has the shape of an action is an action
pub node_acts : (nodes : List Node) (n : ℕ) (t : List ℕ) (node : Node) → slice_get (shapes_of nodes) n
    ≡ Some (shape.Act t) →
    slice_get nodes n ≡ Some node → ((template : Vec ℕ Global) → node ≡ Node.Act template → ⊥) → ⊥
node_acts nodes n t node is at other =
    let here = shape_at nodes n node at in
    let same : shape_of node ≡ shape.Act t = cc in
    no_other node same other
  where
    no_other : (node : Node) → shape_of node ≡ shape.Act t
        → ((template : Vec ℕ Global) → node ≡ Node.Act template → ⊥) → ⊥
    no_other (Node.Act template) is other = other template refl
    no_other _ is other = cc
