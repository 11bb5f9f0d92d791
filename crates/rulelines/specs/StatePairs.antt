-- Pairs of states of two grammars, and the transitions of both by one symbol.
use Rattle.std.specs.Prelude.{◌≡◌, ◌↔◌, ℕ, ◌≤◌, Bool, true, List, [], ◌∷◌, length, slice_get, Some, Contains}
use Rattle.abnfread.specs.Element.{Rule}
use Rattle.abnfcheck.specs.Derivable.{AreLetters, RuleDerives}
use Rattle.flatgrammar.specs.Flat.{Flat, Dot, Concat}
use Rattle.flatgrammar.specs.FlatVerdicts.{DerivesLine}
use Rattle.flatgrammar.specs.Stacks.{AreAlike, AreUncounted, IsStackClosure, IsNext, MarksLast}
use Rattle.rulelines.specs.FirstLines.{sort_key}

-- a state of each: the stacks whose top reads a symbol, and whether the whole is done
pub record StatePair : Type 0 where
  pub old : List (List Dot)
  pub old_ended : Bool
  pub new : List (List Dot)
  pub new_ended : Bool

module _ (old new : Flat) where
  -- one of the samples is in exactly the sets that have the symbol, and comes no later
  pub record HasSample (samples : List ℕ) (c : ℕ) : Type 0 where
    pub sample : ℕ
    pub is : Contains samples sample
    pub old_alike : AreAlike old c sample
    pub new_alike : AreAlike new c sample
    pub order : sort_key sample ≤ sort_key c

  -- each symbol of the alphabet has a sample
  abbrev pub AreSamples : (ℕ → Bool) → List ℕ → Type 0
  AreSamples has samples = (c : ℕ) → has c ≡ true → HasSample samples c

module _ (old : Flat) (old_last : Dot → Bool) (new : Flat) (new_last : Dot → Bool) where
  -- the start states of both
  pub record IsStartPair (p : StatePair) : Type 0 where
    pub old_starts : (x : List ℕ) → IsStackClosure old old_last x 0 (Contains p.old) p.old_ended []
    pub new_starts : (x : List ℕ) → IsStackClosure new new_last x 0 (Contains p.new) p.new_ended []

  -- a symbol leads from one pair to the other
  pub record PairLeads (c : ℕ) (p q : StatePair) : Type 0 where
    pub old_next : IsNext old old_last (Contains p.old) c (Contains q.old) q.old_ended
    pub new_next : IsNext new new_last (Contains p.new) c (Contains q.new) q.new_ended

  -- it leads from a pair to one of some pairs
  pub record LeadsInto (pairs : List StatePair) (c : ℕ) (p : StatePair) : Type 0 where
    pub next : StatePair
    pub is : Contains pairs next
    pub leads : PairLeads c p next

-- what a flat grammar needs so that its stacks accept exactly the lines, of at most so many symbols, which the rule of
-- that id derives
pub record AcceptsRule (has : ℕ → Bool) (rules : List Rule) (id : ℕ) (flat : Flat) (last : Dot → Bool) (most : ℕ)
    : Type 0 where
  pub body : ℕ
  pub whole : slice_get flat.nodes flat.start ≡ Some (Concat (body ∷ []))
  pub tail_positions : MarksLast flat last
  pub uncounted : AreUncounted flat
  pub derives : (x : List ℕ) → length x ≤ most → AreLetters has x → DerivesLine flat x ↔ RuleDerives has rules id x
