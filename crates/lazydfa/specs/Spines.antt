-- Continuations that are taken off what is below them, and put on something else.
use Rattle.std.specs.Prelude.{◌≡◌, ℕ, ◌≤◌, List, [], ◌∷◌, ◌++◌, length, Contains}
use Rattle.flatgrammar.specs.Flat.{Dot, at}
use Rattle.lazydfa.specs.declared.conts.Cont.{Cont}
use Rattle.lazydfa.specs.Conts.{stack_of}

-- the dotted rules of continuations
abbrev pub positions_of : List Cont → List Dot
positions_of [] = []
positions_of (c ∷ cs) = at c.node c.step ∷ positions_of cs

-- the same dotted rules stand on another stack
pub record IsMoveOn (first : List Cont) (top off : ℕ) (conts : List Cont) (id on : ℕ) : Type 0 where
  pub within : id ≤ length conts
  pub base : List Dot
  pub was : stack_of first top ≡ base ++ stack_of first off
  pub is : stack_of conts id ≡ base ++ stack_of first on

-- the id of such a one was added
pub record MovesOn (first : List Cont) (top off : ℕ) (conts : List Cont) (old new : List ℕ) (on : ℕ) : Type 0 where
  pub id : ℕ
  pub grown : new ≡ old ++ id ∷ []
  pub moved : IsMoveOn first top off conts id on

-- the ids of all of them were added, and no others
pub record AreMoved (first : List Cont) (tops : List ℕ) (off : ℕ) (conts : List Cont) (old new : List ℕ) (on : ℕ)
    : Type 0 where
  pub added : List ℕ
  pub grown : new ≡ old ++ added
  pub only : (id : ℕ) → Contains added id → (top : ℕ) × Contains tops top × IsMoveOn first top off conts id on
  pub all : (top : ℕ) → Contains tops top → (id : ℕ) × Contains added id × IsMoveOn first top off conts id on
