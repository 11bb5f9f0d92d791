-- Nodes that are added one by one, each an operand of one other at most.
-- Serves: lower.
use Rattle.std.proofs.Common.{◌≡◌, ◌⊎◌, inl, inr, ℕ, zero, suc, ◌<◌, ◌≤◌, List, [], ◌∷◌, ◌++◌, length, Some, refl}
use Rattle.std.proofs.Common.{sym, ◌∙◌, ap, subst, arith, length-append}
use Rattle.std.specs.Prelude.{slice_get}
use Rattle.flatgrammar.specs.Flat.{Node, Letters, Concat, Alt, Rep, Iterations, Opt, Name, Nothing}
use Rattle.flatgrammar.specs.Operands.{IsOperand, AreOrdered}
use Rattle.flatgrammar.proofs.SliceGetLemmas.{get_below, push_cases}
use Rattle.lowering.specs.Lowered.{AreTrees, IsRoot, OperandAt}
use Rattle.lowering.specs.Numbers.{ArePlanted}

pub is_operand : (node : Node) (i m : ℕ) → OperandAt node i m → IsOperand node m
is_operand (Letters sets) i m h = h
is_operand (Concat ms) i m h = (i, h)
is_operand (Alt ms) i m h = (i, h)
is_operand (Rep a b d) i m h = h.1
is_operand (Iterations b d) i m h = h.1
is_operand (Opt d) i m h = h.1
is_operand (Name r) i m h = h
is_operand Nothing i m h = h

-- the last node is no operand
pub last_is_root : (nodes : List Node) (node : Node) → AreOrdered (nodes ++ node ∷ [])
    → IsRoot (nodes ++ node ∷ []) (length nodes)
last_is_root nodes node o s i d is h =
    let lt = o.before s (length nodes) d is (is_operand d i (length nodes) h) in
    let within = get_below (nodes ++ node ∷ []) s is in
    let long = length-append nodes (node ∷ []) in
    absurd (omega (arith, lt, within, long))

pub none_planted : (nodes : List Node) → ArePlanted nodes nodes []
none_planted nodes = record {
  forest = λ f. f;
  roots = λ m lt r. r;
  fresh = λ k m is. absurd (cc is);
  apart = λ k l m is. absurd (cc is);
}

one_at : (n k m : ℕ) → slice_get (n ∷ []) k ≡ Some m → (k ≡ 0) × (n ≡ m)
one_at n zero m is = (refl, cc is)
one_at n (suc k) m is = absurd (cc is)

-- one more node, whose operands are these
pub planted_push : (first nodes : List Node) (node : Node) (tops : List ℕ) → length first ≤ length nodes
    → AreOrdered (nodes ++ node ∷ []) → ArePlanted first nodes tops
    → ((i m : ℕ) → OperandAt node i m → slice_get tops i ≡ Some m)
    → ArePlanted first (nodes ++ node ∷ []) (length nodes ∷ [])
planted_push first nodes node tops long ordered p operands = record {
  forest = λ f s t i j m d e at_s at_t h g. both (p.forest f) s t i j m d e (push_cases nodes node s d at_s)
      (push_cases nodes node t e at_t) h g;
  roots = λ m lt r s i d at_s h. still m lt (p.roots m lt r) s i d (push_cases nodes node s d at_s) h;
  fresh = λ k m is.
      let one = one_at (length nodes) k m is in
      let same : length nodes ≡ m = one.1 in
      (omega (arith, long, same), subst (λ v. IsRoot (nodes ++ node ∷ []) v) same (last_is_root nodes node ordered));
  apart = λ k l m is at.
      let one = one_at (length nodes) k m is in
      let other = one_at (length nodes) l m at in
      one.0 ∙ sym other.0;
}
  where
    Pushed : ℕ → Node → Type 0
    Pushed s d = (slice_get nodes s ≡ Some d) ⊎ ((s ≡ length nodes) × (node ≡ d))

    of_node : (d : Node) (i m : ℕ) → node ≡ d → OperandAt d i m → slice_get tops i ≡ Some m
    of_node d i m same h = operands i m (subst (λ v. OperandAt v i m) (sym same) h)

    both : AreTrees nodes → (s t i j m : ℕ) (d e : Node) → Pushed s d → Pushed t e → OperandAt d i m → OperandAt e j m
        → (s ≡ t) × (i ≡ j)
    both f s t i j m d e (inl at_s) (inl at_t) h g = f s t i j m d e at_s at_t h g
    both f s t i j m d e (inl at_s) (inr last) h g =
        absurd ((p.fresh j m (of_node e j m last.1 g)).1 s i d at_s h)
    both f s t i j m d e (inr last) (inl at_t) h g =
        absurd ((p.fresh i m (of_node d i m last.1 h)).1 t j e at_t g)
    both f s t i j m d e (inr last) (inr other) h g =
        (last.0 ∙ sym other.0, p.apart i j m (of_node d i m last.1 h) (of_node e j m other.1 g))

    still : (m : ℕ) → m < length first → IsRoot nodes m → (s i : ℕ) (d : Node) → Pushed s d → OperandAt d i m → ⊥
    still m lt r s i d (inl at_s) h = r s i d at_s h
    still m lt r s i d (inr last) h =
        let new = (p.fresh i m (of_node d i m last.1 h)).0 in absurd (omega (arith, lt, new))

-- nodes with these tops, and then those with one more
pub planted_more : (first mid new : List Node) (tops : List ℕ) (n : ℕ) → length first ≤ length mid
    → ((k m : ℕ) → slice_get tops k ≡ Some m → m < length mid) → ArePlanted first mid tops
    → ArePlanted mid new (n ∷ []) → ArePlanted first new (tops ++ n ∷ [])
planted_more first mid new tops n long below p q = record {
  forest = λ f. q.forest (p.forest f);
  roots = λ m lt r. q.roots m (omega (arith, lt, long)) (p.roots m lt r);
  fresh = λ k m is. at k m (push_cases tops n k m is);
  apart = λ k l m is other. one k l m (push_cases tops n k m is) (push_cases tops n l m other);
}
  where
    In : ℕ → ℕ → Type 0
    In k m = (slice_get tops k ≡ Some m) ⊎ ((k ≡ length tops) × (n ≡ m))

    at : (k m : ℕ) → In k m → (length first ≤ m) × IsRoot new m
    at k m (inl is) = let was = p.fresh k m is in (was.0, q.roots m (below k m is) was.1)
    at k m (inr last) =
        let is = q.fresh 0 m (ap Some last.1) in
        let from = is.0 in
        (omega (arith, long, from), is.1)

    one : (k l m : ℕ) → In k m → In l m → k ≡ l
    one k l m (inl is) (inl other) = p.apart k l m is other
    one k l m (inl is) (inr last) =
        let lt = below k m is in
        let from = (q.fresh 0 m (ap Some last.1)).0 in
        absurd (omega (arith, lt, from))
    one k l m (inr last) (inl other) =
        let lt = below l m other in
        let from = (q.fresh 0 m (ap Some last.1)).0 in
        absurd (omega (arith, lt, from))
    one k l m (inr last) (inr other) = last.0 ∙ sym other.0

-- one of the tops
pub one_planted : (first new : List Node) (tops : List ℕ) (k m : ℕ) → ArePlanted first new tops
    → slice_get tops k ≡ Some m → ArePlanted first new (m ∷ [])
one_planted first new tops k m p is = record {
  forest = p.forest;
  roots = p.roots;
  fresh = λ l n at. subst (λ v. (length first ≤ v) × IsRoot new v) (one_at m l n at).1 (p.fresh k m is);
  apart = λ i j n at other. (one_at m i n at).0 ∙ sym (one_at m j n other).0;
}
