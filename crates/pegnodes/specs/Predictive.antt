-- Grammars of which the next byte says which way to go, as it does in LL(1) grammars: no node is asked for twice at a
-- position.
use Rattle.std.specs.Prelude.{◌≡◌, ◌⊎◌, ℕ, suc, Bool, List, [], ◌∷◌, Option, Some, None, drop, slice_get}
use Rattle.std.specs.Prelude.{◌==◌, ◌<◌, ◌≤◌, nat_lt, if◌then◌else◌, length}
use Rattle.pegnodes.specs.Nodes.{Shape, Any, Bytes, Set, Name, Seq, Choice, Star, Plus, Opt, And, Not, Act, Open}
use Rattle.pegnodes.specs.Nodes.{Close}
use Rattle.pegnodes.specs.declared.by_byte.ByteVerdict.{ByteVerdict}
use Rattle.pegnodes.specs.declared.by_byte.ByteVerdict.TheVariants.{Takes, Stays, Fails}
use Rattle.pegnodes.specs.NodeWays.{Iterations, way_of}

-- What a byte decides of the rest of a sequence: None where it leaves that open.
abbrev pub then_rest : Option ByteVerdict → List ℕ → Option ByteVerdict → Option ByteVerdict
then_rest None rest after = None
then_rest (Some Fails) rest after = Some Fails
then_rest (Some Stays) rest after = after
then_rest (Some Takes) [] after = Some Takes
then_rest (Some Takes) (m ∷ ms) after = None

abbrev pub or_other : Option ByteVerdict → Option ByteVerdict → Option ByteVerdict
or_other None after = None
or_other (Some Fails) after = after
or_other (Some Stays) after = Some Stays
or_other (Some Takes) after = Some Takes

-- of members in order, and of alternatives in order
abbrev pub of_members : (ℕ → Option ByteVerdict) → List ℕ → Option ByteVerdict
of_members of [] = Some Stays
of_members of (m ∷ ms) = then_rest (of m) ms (of_members of ms)

abbrev pub of_alternatives : (ℕ → Option ByteVerdict) → List ℕ → Option ByteVerdict
of_alternatives of [] = Some Fails
of_alternatives of (m ∷ ms) = or_other (of m) (of_alternatives of ms)

-- of a repetition, of one that must succeed once, of an option and of predicates, by their operands
abbrev pub of_star : Option ByteVerdict → Option ByteVerdict
of_star None = None
of_star (Some Fails) = Some Stays
of_star (Some Stays) = None
of_star (Some Takes) = None

abbrev pub of_plus : Option ByteVerdict → Option ByteVerdict
of_plus None = None
of_plus (Some Fails) = Some Fails
of_plus (Some Stays) = None
of_plus (Some Takes) = None

abbrev pub of_opt : Option ByteVerdict → Option ByteVerdict
of_opt None = None
of_opt (Some Fails) = Some Stays
of_opt (Some Stays) = Some Stays
of_opt (Some Takes) = Some Takes

abbrev pub of_and : Option ByteVerdict → Option ByteVerdict
of_and None = None
of_and (Some Fails) = Some Fails
of_and (Some Stays) = Some Stays
of_and (Some Takes) = Some Stays

abbrev pub of_not : Option ByteVerdict → Option ByteVerdict
of_not None = None
of_not (Some Fails) = Some Stays
of_not (Some Stays) = Some Fails
of_not (Some Takes) = Some Fails

-- of a literal
abbrev pub of_bytes : ℕ → List ℕ → Option ByteVerdict
of_bytes b [] = Some Stays
of_bytes b (c ∷ []) = if c == b then Some Takes else Some Fails
of_bytes b (c ∷ (d ∷ cs)) = if c == b then None else Some Fails

-- Of a class: that of a number from 256 on is left open, since nothing says that no such number is a member.
abbrev pub of_class : ℕ → (ℕ → Bool) → Option ByteVerdict
of_class b s = if nat_lt b 256 then (if s b then Some Takes else Some Fails) else None

abbrev pub of_body : (ℕ → Option ByteVerdict) → Option ℕ → Option ByteVerdict
of_body of None = None
of_body of (Some m) = of m

-- What byte b decides of a node of this shape, by what it decides of others.
abbrev pub of_shape : List ℕ → ℕ → (ℕ → Option ByteVerdict) → Shape → Option ByteVerdict
of_shape bodies b of Any = Some Takes
of_shape bodies b of (Bytes bs) = of_bytes b bs
of_shape bodies b of (Set s) = of_class b s
of_shape bodies b of (Name id) = of_body of (slice_get bodies id)
of_shape bodies b of (Seq ms) = of_members of ms
of_shape bodies b of (Choice ms) = of_alternatives of ms
of_shape bodies b of (Star k) = of_star (of k)
of_shape bodies b of (Plus k s) = of_plus (of k)
of_shape bodies b of (Opt k) = of_opt (of k)
of_shape bodies b of (And k) = of_and (of k)
of_shape bodies b of (Not k) = of_not (of k)
of_shape bodies b of (Act t) = Some Stays
of_shape bodies b of Open = Some Stays
of_shape bodies b of Close = Some Stays

module _ (nodes : List Shape) (bodies : List ℕ) where
  abbrev pub At : ℕ → Shape → Type 0
  At n shape = slice_get nodes n ≡ Some shape

  mutual
    -- node n may succeed and take nothing
    pub data Empty : ℕ → Type 0 where
      empty_bytes : {n : ℕ} → At n (Bytes []) → Empty n
      empty_act : {n : ℕ} {t : List ℕ} → At n (Act t) → Empty n
      empty_open : {n : ℕ} → At n Open → Empty n
      empty_close : {n : ℕ} → At n Close → Empty n
      empty_name : {n id m : ℕ} → At n (Name id) → slice_get bodies id ≡ Some m → Empty m → Empty n
      empty_seq : {n : ℕ} {ms : List ℕ} → At n (Seq ms) → AllEmpty ms → Empty n
      empty_choice : {n : ℕ} {ms : List ℕ} → At n (Choice ms) → AnyEmpty ms → Empty n
      empty_star : {n k : ℕ} → At n (Star k) → Empty n
      empty_plus : {n k s : ℕ} → At n (Plus k s) → Empty k → Empty n
      empty_opt : {n k : ℕ} → At n (Opt k) → Empty n
      empty_and : {n k : ℕ} → At n (And k) → Empty n
      empty_not : {n k : ℕ} → At n (Not k) → Empty n

    pub data AllEmpty : List ℕ → Type 0 where
      all_none : AllEmpty []
      all_more : {m : ℕ} {ms : List ℕ} → Empty m → AllEmpty ms → AllEmpty (m ∷ ms)

    pub data AnyEmpty : List ℕ → Type 0 where
      any_here : {m : ℕ} {ms : List ℕ} → Empty m → AnyEmpty (m ∷ ms)
      any_later : {m : ℕ} {ms : List ℕ} → AnyEmpty ms → AnyEmpty (m ∷ ms)

  mutual
    -- node n may ask for node l at its own position, or is node l
    pub data Near : ℕ → ℕ → Type 0 where
      near_own : {n : ℕ} → Near n n
      near_name : {n id m l : ℕ} → At n (Name id) → slice_get bodies id ≡ Some m → Near m l → Near n l
      near_seq : {n l : ℕ} {ms : List ℕ} → At n (Seq ms) → NearMembers ms l → Near n l
      near_choice : {n l : ℕ} {ms : List ℕ} → At n (Choice ms) → NearAlternatives ms l → Near n l
      near_star : {n k l : ℕ} → At n (Star k) → Near k l → Near n l
      near_plus : {n k s l : ℕ} → At n (Plus k s) → Near k l → Near n l
      near_opt : {n k l : ℕ} → At n (Opt k) → Near k l → Near n l
      near_and : {n k l : ℕ} → At n (And k) → Near k l → Near n l
      near_not : {n k l : ℕ} → At n (Not k) → Near k l → Near n l

    -- likewise members in order, where the first one begins
    pub data NearMembers : List ℕ → ℕ → Type 0 where
      near_first : {m l : ℕ} {ms : List ℕ} → Near m l → NearMembers (m ∷ ms) l
      near_after : {m l : ℕ} {ms : List ℕ} → Empty m → NearMembers ms l → NearMembers (m ∷ ms) l

    pub data NearAlternatives : List ℕ → ℕ → Type 0 where
      near_here : {m l : ℕ} {ms : List ℕ} → Near m l → NearAlternatives (m ∷ ms) l
      near_later : {m l : ℕ} {ms : List ℕ} → NearAlternatives ms l → NearAlternatives (m ∷ ms) l

  mutual
    -- node n may ask for node l where n ends
    pub data Last : ℕ → ℕ → Type 0 where
      last_empty : {n l : ℕ} → Empty n → Near n l → Last n l
      last_name : {n id m l : ℕ} → At n (Name id) → slice_get bodies id ≡ Some m → Last m l → Last n l
      last_seq : {n l : ℕ} {ms : List ℕ} → At n (Seq ms) → LastMembers ms l → Last n l
      last_choice : {n l : ℕ} {ms : List ℕ} → At n (Choice ms) → LastAlternatives ms l → Last n l
      last_star : {n k l : ℕ} → At n (Star k) → Last k l → Last n l
      last_plus : {n k s l : ℕ} → At n (Plus k s) → Last s l → Last n l
      last_opt : {n k l : ℕ} → At n (Opt k) → Last k l → Last n l

    pub data LastMembers : List ℕ → ℕ → Type 0 where
      last_here : {m l : ℕ} {ms : List ℕ} → Last m l → AllEmpty ms → LastMembers (m ∷ ms) l
      last_after : {m l : ℕ} {ms : List ℕ} → LastMembers ms l → LastMembers (m ∷ ms) l

    pub data LastAlternatives : List ℕ → ℕ → Type 0 where
      last_this : {m l : ℕ} {ms : List ℕ} → Last m l → LastAlternatives (m ∷ ms) l
      last_later : {m l : ℕ} {ms : List ℕ} → LastAlternatives ms l → LastAlternatives (m ∷ ms) l

  -- of n: what a byte decides of node n
  module _ (of : ℕ → Option ByteVerdict) where
    mutual
      -- node n may fail at that byte after it asked for nodes at later positions
      pub data Late : ℕ → Type 0 where
        late_name : {n id m : ℕ} → At n (Name id) → slice_get bodies id ≡ Some m → Late m → Late n
        late_seq : {n : ℕ} {ms : List ℕ} → At n (Seq ms) → of n ≡ None → Late n
        late_choice : {n : ℕ} {ms : List ℕ} → At n (Choice ms) → LateAlternatives ms → Late n
        late_plus : {n k s : ℕ} → At n (Plus k s) → Late k → Late n

      pub data LateAlternatives : List ℕ → Type 0 where
        late_here : {m : ℕ} {ms : List ℕ} → Late m → of_alternatives of ms ≡ Some Fails → LateAlternatives (m ∷ ms)
        late_later : {m : ℕ} {ms : List ℕ} → LateAlternatives ms → LateAlternatives (m ∷ ms)

    mutual
      -- node n may succeed before that byte after it asked for nodes at positions after it
      pub data Over : ℕ → Type 0 where
        over_name : {n id m : ℕ} → At n (Name id) → slice_get bodies id ≡ Some m → Over m → Over n
        over_seq : {n : ℕ} {ms : List ℕ} → At n (Seq ms) → OverMembers ms → Over n
        over_choice : {n : ℕ} {ms : List ℕ} → At n (Choice ms) → OverAlternatives ms → Over n
        over_star : {n k : ℕ} → At n (Star k) → Late k → Over n
        over_again : {n k : ℕ} → At n (Star k) → Over k → Over n
        over_plus : {n k s : ℕ} → At n (Plus k s) → Over s → Over n
        over_none : {n k : ℕ} → At n (Opt k) → Late k → Over n
        over_opt : {n k : ℕ} → At n (Opt k) → Over k → Over n

      pub data OverMembers : List ℕ → Type 0 where
        over_here : {m : ℕ} {ms : List ℕ} → Over m → of_members of ms ≡ Some Stays → OverMembers (m ∷ ms)
        over_after : {m : ℕ} {ms : List ℕ} → OverMembers ms → OverMembers (m ∷ ms)

      pub data OverAlternatives : List ℕ → Type 0 where
        over_this : {m : ℕ} {ms : List ℕ} → Over m → OverAlternatives (m ∷ ms)
        over_other : {m : ℕ} {ms : List ℕ} → Late m → of_alternatives of ms ≡ Some Stays → OverAlternatives (m ∷ ms)
        over_later : {m : ℕ} {ms : List ℕ} → OverAlternatives ms → OverAlternatives (m ∷ ms)

  -- succeeds or fails, and takes nothing
  abbrev pub Settled : Option ByteVerdict → Type 0
  Settled None = ⊥
  Settled (Some Fails) = Unit {0}
  Settled (Some Stays) = Unit {0}
  Settled (Some Takes) = ⊥

  -- a predicate of an operand
  abbrev pub IsAhead : Shape → ℕ → Type 0
  IsAhead shape k = (shape ≡ And k) ⊎ (shape ≡ Not k)

  -- Node l is not asked for both where a member or an iteration may end and where the rest may begin, nor at one
  -- position in two alternatives.
  pub record IsApart (l : ℕ) : Type 0 where
    pub members : (n i m : ℕ) (ms : List ℕ) → At n (Seq ms) → slice_get ms i ≡ Some m → Last m l
        → NearMembers (drop (suc i) ms) l → ⊥
    pub alternatives : (n i m : ℕ) (ms : List ℕ) → At n (Choice ms) → slice_get ms i ≡ Some m → Near m l
        → NearAlternatives (drop (suc i) ms) l → ⊥
    pub iterations : (n k s : ℕ) (shape : Shape) → At n shape → way_of n shape ≡ Iterations k s → Last k l
        → Near s l → ⊥

  -- Where a node asked for nodes after its end, or failed after it asked for nodes after its position, the byte there
  -- decides the rest; and it decides each operand of a predicate.
  pub record IsSettled (of : ℕ → Option ByteVerdict) : Type 0 where
    pub after : (n i m : ℕ) (ms : List ℕ) → At n (Seq ms) → slice_get ms i ≡ Some m → Over of m
        → Settled (of_members of (drop (suc i) ms))
    pub again : (n k s : ℕ) (shape : Shape) → At n shape → way_of n shape ≡ Iterations k s → Over of k
        → of k ≡ Some Fails
    pub others : (n i m : ℕ) (ms : List ℕ) → At n (Choice ms) → slice_get ms i ≡ Some m → Late of m
        → Settled (of_alternatives of (drop (suc i) ms))
    pub ahead : (n k : ℕ) (shape : Shape) → At n shape → IsAhead shape k → of k ≡ None → ⊥

  -- these are what byte b decides of each node
  abbrev pub AreVerdicts : ℕ → (ℕ → Option ByteVerdict) → Type 0
  AreVerdicts b of = (n : ℕ) (shape : Shape) → At n shape → of n ≡ of_shape bodies b of shape

  pub record IsDecisive (b : ℕ) : Type 0 where
    pub of : ℕ → Option ByteVerdict
    pub decided : AreVerdicts b of
    pub settled : IsSettled of

  -- Each byte says which way to go.
  pub record IsPredictive : Type 0 where
    pub apart : (l : ℕ) → l < length nodes → IsApart l
    pub at : (b : ℕ) → IsDecisive b

-- a number that no byte has stands for all such numbers, and a byte for itself
abbrev pub IsLike : ℕ → ℕ → Type 0
IsLike b c = (c ≡ b) ⊎ ((256 ≤ b) × (256 ≤ c))
