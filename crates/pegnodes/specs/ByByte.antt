-- Nodes whose outcome at a position is decided by the byte there alone.
use Rattle.std.specs.Prelude.{◌≡◌, ℕ, zero, suc, ◌+◌, Bool, true, false, List, [], ◌∷◌, slice_get}
use Rattle.std.specs.Prelude.{Some, None}
use Rattle.pegnodes.specs.Nodes.{Shape, Any, Bytes, Set, Name, Seq, Choice, Star, Plus, Opt, And, Not, Act, Open}
use Rattle.pegnodes.specs.Nodes.{Close}
use Rattle.pegnodes.specs.declared.by_byte.ByteVerdict.{ByteVerdict}
use Rattle.pegnodes.specs.declared.by_byte.ByteVerdict.TheVariants.{Takes, Stays, Fails}

abbrev pub Succeeds : ByteVerdict → Type 0
Succeeds Takes = Unit {0}
Succeeds Stays = Unit {0}
Succeeds Fails = ⊥

-- a node of this shape takes nothing, and leaves an event
abbrev pub LeavesEvent : Shape → Type 0
LeavesEvent Any = ⊥
LeavesEvent (Bytes bs) = ⊥
LeavesEvent (Set s) = ⊥
LeavesEvent (Name id) = ⊥
LeavesEvent (Seq ms) = ⊥
LeavesEvent (Choice ms) = ⊥
LeavesEvent (Star m) = ⊥
LeavesEvent (Plus m s) = ⊥
LeavesEvent (Opt m) = ⊥
LeavesEvent (And m) = ⊥
LeavesEvent (Not m) = ⊥
LeavesEvent (Act t) = Unit {0}
LeavesEvent Open = Unit {0}
LeavesEvent Close = Unit {0}

-- `marks m`: node m is a key; `tails n i`: what is left of node n from its member i on is one; b: the byte at the
-- position
module _ (nodes : List Shape) (bodies : List ℕ) (marks : ℕ → Bool) (tails : ℕ → ℕ → Bool) (b : ℕ) where
  mutual
    -- Byte b alone decides that node n takes it, succeeds without it, or fails. That evaluates so many evaluations of a
    -- node and the position, and none of them but n's is a key.
    pub data ByByte : ℕ → ByteVerdict → ℕ → Type 0 where
      by_shape : {n c : ℕ} {v : ByteVerdict} {s : Shape} → slice_get nodes n ≡ Some s → ByShape n s v c → ByByte n v c

    -- likewise node m below, which is no key itself
    pub data Below : ℕ → ByteVerdict → ℕ → Type 0 where
      below : {m c : ℕ} {v : ByteVerdict} → marks m ≡ false → ByByte m v c → Below m v c

    -- likewise node n of this shape
    pub data ByShape : ℕ → Shape → ByteVerdict → ℕ → Type 0 where
      by_any : {n : ℕ} → ByShape n Any Takes 1
      by_set_in : {n : ℕ} {s : ℕ → Bool} → s b ≡ true → ByShape n (Set s) Takes 1
      by_set_out : {n : ℕ} {s : ℕ → Bool} → s b ≡ false → ByShape n (Set s) Fails 1
      by_no_bytes : {n : ℕ} → ByShape n (Bytes []) Stays 1
      by_one_byte : {n c : ℕ} → c ≡ b → ByShape n (Bytes (c ∷ [])) Takes 1
      by_other_byte : {n c : ℕ} {cs : List ℕ} → (c ≡ b → ⊥) → ByShape n (Bytes (c ∷ cs)) Fails 1
      by_name : {n id m c : ℕ} {v : ByteVerdict} → slice_get bodies id ≡ Some m → Below m v c
          → ByShape n (Name id) v (1 + c)
      by_members : {n c : ℕ} {ms : List ℕ} {v : ByteVerdict} → ByMembers n ms 0 v c → ByShape n (Seq ms) v (1 + c)
      by_alternatives : {n c : ℕ} {ms : List ℕ} {v : ByteVerdict} → ByAlternatives n ms 0 v c
          → ByShape n (Choice ms) v (1 + c)
      by_opt_some : {n m c : ℕ} {v : ByteVerdict} → Succeeds v → Below m v c → ByShape n (Opt m) v (1 + c)
      by_opt_none : {n m c : ℕ} → Below m Fails c → ByShape n (Opt m) Stays (1 + c)
      by_and : {n m c : ℕ} {v : ByteVerdict} → Succeeds v → Below m v c → ByShape n (And m) Stays (1 + c)
      by_and_fails : {n m c : ℕ} → Below m Fails c → ByShape n (And m) Fails (1 + c)
      by_not : {n m c : ℕ} → Below m Fails c → ByShape n (Not m) Stays (1 + c)
      by_not_fails : {n m c : ℕ} {v : ByteVerdict} → Succeeds v → Below m v c → ByShape n (Not m) Fails (1 + c)
      by_no_iteration : {n m c : ℕ} → Below m Fails c → ByShape n (Star m) Stays (1 + c)
      by_no_plus : {n m s c : ℕ} → Below m Fails c → ByShape n (Plus m s) Fails (1 + c)

    -- Of the members of a sequence from the i-th on, one that fails ends it, and only the last one takes the byte. One
    -- that leaves an event is passed if a later one fails.
    pub data ByMembers : ℕ → List ℕ → ℕ → ByteVerdict → ℕ → Type 0 where
      members_end : {n i : ℕ} {ms : List ℕ} → slice_get ms i ≡ None → ByMembers n ms i Stays 0
      member_stays : {n i m c d : ℕ} {ms : List ℕ} {v : ByteVerdict}
          → slice_get ms i ≡ Some m → tails n i ≡ false → Below m Stays c
          → ByMembers n ms (suc i) v d → ByMembers n ms i v (c + d)
      member_fails : {n i m c : ℕ} {ms : List ℕ} → slice_get ms i ≡ Some m → tails n i ≡ false → Below m Fails c
          → ByMembers n ms i Fails c
      member_takes : {n i m c : ℕ} {ms : List ℕ}
          → slice_get ms i ≡ Some m → slice_get ms (suc i) ≡ None → tails n i ≡ false
          → Below m Takes c → ByMembers n ms i Takes c
      member_leaves : {n i m c : ℕ} {ms : List ℕ} {s : Shape} → slice_get ms i ≡ Some m → tails n i ≡ false
          → marks m ≡ false → slice_get nodes m ≡ Some s → LeavesEvent s → ByMembers n ms (suc i) Fails c
          → ByMembers n ms i Fails (1 + c)

    -- Of the alternatives of a choice from the i-th on, the first one that succeeds decides.
    pub data ByAlternatives : ℕ → List ℕ → ℕ → ByteVerdict → ℕ → Type 0 where
      alternatives_end : {n i : ℕ} {ms : List ℕ} → slice_get ms i ≡ None → ByAlternatives n ms i Fails 0
      alternative_fails : {n i m c d : ℕ} {ms : List ℕ} {v : ByteVerdict}
          → slice_get ms i ≡ Some m → tails n i ≡ false → Below m Fails c
          → ByAlternatives n ms (suc i) v d → ByAlternatives n ms i v (c + d)
      alternative_succeeds : {n i m c : ℕ} {ms : List ℕ} {v : ByteVerdict}
          → slice_get ms i ≡ Some m → tails n i ≡ false → Succeeds v
          → Below m v c → ByAlternatives n ms i v c

module _ (nodes : List Shape) (bodies x : List ℕ) (marks : ℕ → Bool) (tails : ℕ → ℕ → Bool) where
  -- The bytes from position a on decide that node k takes each of n of them. The iterations of a repetition of k over
  -- them are so many evaluations: those of the repetition, and those that each iteration's evaluation of k begins.
  pub data AreIterations (k a : ℕ) : ℕ → ℕ → Type 0 where
    iterations_none : AreIterations k a zero zero
    iterations_more : {n c d b : ℕ} → AreIterations k a n c → slice_get x (a + n) ≡ Some b
        → ByByte nodes bodies marks tails b k Takes d → AreIterations k a (suc n) (c + (1 + d))
