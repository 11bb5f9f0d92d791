-- A machine that evaluates with a stack of levels in place of recursion.
use Rattle.std.specs.Prelude.{◌≡◌, ◌<◌, Bool, true, false, List, [], ◌∷◌, ◌++◌, length}
use Rattle.memo.specs.Parts.{IsIn, Distinct, Reach}

module _ (V : Type 0) where
  -- a vertex that is begun, and those that it has asked for so far, in order
  pub record Level : Type 0 where
    pub at : V
    pub asked : List V

  -- What the machine has: the levels, the last one first; the keys that are stored; and all that was begun.
  pub record Held : Type 0 where
    pub levels : List Level
    pub stored : List V
    pub begun : List V

  -- it is about to evaluate a vertex, or to go on with the last level
  pub data State : Type 0 where
    Asks : V → Held → State
    Works : Held → State

  abbrev pub held : State → Held
  held (Asks b h) = h
  held (Works h) = h

  abbrev pub stack_of : List Level → List V
  stack_of [] = []
  stack_of (f ∷ fs) = f.at ∷ stack_of fs

  abbrev pub store : Bool → V → List V → List V
  store true a st = a ∷ st
  store false a st = st

-- `Next a asked k`: vertex a, whose kids were so far those that it asked for, asks for k.
module _ (V : Type 0) (Kids : V → List V → Type 0) (Next : V → List V → V → Type 0) (key : V → Bool) where
  pub data Step : State V → State V → Type 0 where
    step_stored : {b : V} {fs : List (Level V)} {st bg : List V} → key b ≡ true → IsIn b st
        → Step (Asks b (record { levels = fs; stored = st; begun = bg }))
        (Works (record { levels = fs; stored = st; begun = bg }))
    step_begin : {b : V} {fs : List (Level V)} {st bg : List V} → (key b ≡ true → IsIn b st → ⊥)
        → Step (Asks b (record { levels = fs; stored = st; begun = bg }))
        (Works (record { levels = record { at = b; asked = [] } ∷ fs; stored = st; begun = b ∷ bg }))
    step_next : {a k : V} {asked st bg : List V} {fs : List (Level V)} → Next a asked k
        → Step (Works (record { levels = record { at = a; asked = asked } ∷ fs; stored = st; begun = bg }))
        (Asks k (record { levels = record { at = a; asked = asked ++ k ∷ [] } ∷ fs; stored = st; begun = bg }))
    step_last : {a : V} {asked st bg : List V} {fs : List (Level V)} → Kids a asked
        → Step (Works (record { levels = record { at = a; asked = asked } ∷ fs; stored = st; begun = bg }))
        (Works (record { levels = fs; stored = store V (key a) a st; begun = bg }))

  pub data Steps (s : State V) : State V → Type 0 where
    steps_none : Steps s s
    steps_more : {t u : State V} → Steps s t → Step t u → Steps s u

-- nothing is begun
abbrev pub start_at : (V : Type 0) → V → State V
start_at V root = Asks root (record { levels = []; stored = []; begun = [] })

-- What is asked for next is led to, and was not asked for before; at most two are; and those of a list are, in order.
pub record IsNext (V : Type 0) (Edge : V → V → Type 0) (root : V) (Kids : V → List V → Type 0)
    (Next : V → List V → V → Type 0) : Type 0 where
  pub leads : (a k : V) (asked : List V) → Next a asked k → Edge a k
  pub fresh : (a k : V) (asked : List V) → Reach V Edge root a → Next a asked k → IsIn k asked → ⊥
  pub two : (a k : V) (asked : List V) → Next a asked k → length asked < 2
  pub all : (a k : V) (asked more : List V) → Kids a (asked ++ k ∷ more) → Next a asked k

-- On the way: what was begun are reached vertices, each once; those of the stack are among them, each once, and none of
-- them is stored; what is stored are begun keys, each once, and is no longer on the stack.
pub record IsGood (V : Type 0) (Edge : V → V → Type 0) (root : V) (key : V → Bool) (h : Held V) : Type 0 where
  pub reached : (a : V) → IsIn a h.begun → Reach V Edge root a
  pub once : Distinct h.begun
  pub stack : (a : V) → IsIn a (stack_of V h.levels) → IsIn a h.begun
  pub stack_once : Distinct (stack_of V h.levels)
  pub stored : (a : V) → IsIn a h.stored → IsIn a h.begun × (key a ≡ true)
  pub stored_once : Distinct h.stored
  pub apart : (a : V) → IsIn a (stack_of V h.levels) → IsIn a h.stored → ⊥
