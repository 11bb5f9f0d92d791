-- Nodes that one node asks for, at a fixed distance.
use Rattle.std.specs.Prelude.{◌≡◌, ◌⊎◌, ℕ, ◌+◌, List, ◌∷◌, slice_get, Some, Contains}
use Rattle.pegnodes.specs.Nodes.{Shape, Any, Bytes, Set, Name, Seq, Choice, Star, Plus, Opt, And, Not, Act, Open}
use Rattle.pegnodes.specs.Nodes.{Close}
use Rattle.pegread.specs.Pattern.{Rule}
use Rattle.pegmatch.specs.Visits.{Asks, Visits}
use Rattle.pegnodes.specs.Width.{Width}

-- m stands once in the list
pub data Once (m : ℕ) : List ℕ → Type 0 where
  once_here : {ms : List ℕ} → (Contains ms m → ⊥) → Once m (m ∷ ms)
  once_later : {k : ℕ} {ms : List ℕ} → (k ≡ m → ⊥) → Once m ms → Once m (k ∷ ms)

module _ (nodes : List Shape) (bodies : List ℕ) where
  -- m stands once in the list, after members that together take d bytes
  pub data MemberAt (m : ℕ) : List ℕ → ℕ → Type 0 where
    at_first : {ms : List ℕ} → (Contains ms m → ⊥) → MemberAt m (m ∷ ms) 0
    at_later : {k w d : ℕ} {ms : List ℕ} → (m ≡ k → ⊥) → Width nodes bodies k w → MemberAt m ms d
        → MemberAt m (k ∷ ms) (w + d)

  -- a node of this shape asks for node m, if it does, d bytes after its own position, and by one of its operands alone
  abbrev pub OffsetBy : Shape → ℕ → ℕ → ℕ → Type 0
  OffsetBy Any n m d = ⊥
  OffsetBy (Bytes bs) n m d = ⊥
  OffsetBy (Set s) n m d = ⊥
  OffsetBy (Name id) n m d = (slice_get bodies id ≡ Some m) × (d ≡ 0)
  OffsetBy (Seq ms) n m d = MemberAt m ms d
  OffsetBy (Choice ms) n m d = Once m ms × (d ≡ 0)
  OffsetBy (Star k) n m d = (m ≡ k) × (d ≡ 0) × (m ≡ n → ⊥)
  OffsetBy (Plus k s) n m d = (m ≡ k) × (d ≡ 0) × (m ≡ s → ⊥)
  OffsetBy (Opt k) n m d = (m ≡ k) × (d ≡ 0)
  OffsetBy (And k) n m d = (m ≡ k) × (d ≡ 0)
  OffsetBy (Not k) n m d = (m ≡ k) × (d ≡ 0)
  OffsetBy (Act t) n m d = ⊥
  OffsetBy Open n m d = ⊥
  OffsetBy Close n m d = ⊥

  -- a node n of this shape names node m
  abbrev pub NamesBy : Shape → ℕ → ℕ → Type 0
  NamesBy Any n m = ⊥
  NamesBy (Bytes bs) n m = ⊥
  NamesBy (Set s) n m = ⊥
  NamesBy (Name id) n m = slice_get bodies id ≡ Some m
  NamesBy (Seq ms) n m = Contains ms m
  NamesBy (Choice ms) n m = Contains ms m
  NamesBy (Star k) n m = (m ≡ k) ⊎ (m ≡ n)
  NamesBy (Plus k s) n m = (m ≡ k) ⊎ (m ≡ s)
  NamesBy (Opt k) n m = m ≡ k
  NamesBy (And k) n m = m ≡ k
  NamesBy (Not k) n m = m ≡ k
  NamesBy (Act t) n m = ⊥
  NamesBy Open n m = ⊥
  NamesBy Close n m = ⊥

  -- node n names node m
  pub record Names (n m : ℕ) : Type 0 where
    pub shape : Shape
    pub at : slice_get nodes n ≡ Some shape
    pub by : NamesBy shape n m

  -- The static mark: node m has the one asker n, at the fixed distance d; it is not the start rule's body.
  pub record Offset (start n d m : ℕ) : Type 0 where
    pub shape : Shape
    pub at : slice_get nodes n ≡ Some shape
    pub by : OffsetBy shape n m d
    pub only : (i : ℕ) → Names i m → i ≡ n
    pub not_root : slice_get bodies start ≡ Some m → ⊥

-- The evaluation (m, q) is asked for by the evaluation of n that stands d bytes before it, and by no other evaluation.
pub record IsAskedBy (rules : List Rule) (start : ℕ) (nodes : List Shape) (bodies x : List ℕ) (n d m q : ℕ)
    : Type 0 where
  pub position : ℕ
  pub distance : q ≡ position + d
  pub visited : Visits rules nodes bodies x start n position
  pub asks : Asks rules nodes bodies x n position m q
  pub only : (i p : ℕ) → Asks rules nodes bodies x i p m q → (i ≡ n) × (p ≡ position)
