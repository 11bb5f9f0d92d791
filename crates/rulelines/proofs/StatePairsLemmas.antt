-- Pairs of states from symbol to symbol.
-- Serves: conclude, is_included.
use Rattle.std.proofs.Common.{◌≡◌, ℕ, zero, suc, ◌+◌, ◌<◌, ◌≤◌, List, [], ◌∷◌, length, refl, subst, arith}
use Rattle.std.specs.Prelude.{Bool, true, slice_get, Some, Contains}
use Rattle.abnfread.specs.Element.{Rule}
use Rattle.abnfcheck.specs.Derivable.{AreLetters, RuleDerives}
use Rattle.flatgrammar.specs.Flat.{Flat, Dot}
use Rattle.flatgrammar.specs.Stacks.{Accepts, AreAlike, IsStackClosure, IsNext}
use Rattle.flatgrammar.proofs.StackClosureLemmas.{next_closure, nothing_below}
use Rattle.flatgrammar.proofs.StacksLemmas.{accepted_holds, holds_accepted}
use Rattle.rulelines.specs.StatePairs.{AcceptsRule, IsStartPair, PairLeads, StatePair}

-- each number below the length has an element
pub element_at : {A : Type 0} (xs : List A) (k : ℕ) → k < length xs → (a : A) × (slice_get xs k ≡ Some a)
element_at [] k lt = absurd (omega (arith, lt))
element_at (x ∷ xs) zero lt = (x, refl)
element_at (x ∷ xs) (suc k) lt = element_at xs k (omega (arith, lt))

pub symbol_at : (has : ℕ → Bool) (x : List ℕ) (i c : ℕ) → AreLetters has x → slice_get x i ≡ Some c → has c ≡ true
symbol_at has [] i c all is = cc is
symbol_at has (b ∷ x) zero c all is = subst (λ v. has v ≡ true) (cc is) all.0
symbol_at has (b ∷ x) (suc i) c all is = symbol_at has x i c all.1 is

pub closure_on : (flat : Flat) (last : Dot → Bool) (x : List ℕ) (j c d : ℕ) → slice_get x j ≡ Some c → AreAlike flat c d
    → (tops next : List (List Dot)) (ended now : Bool) → IsStackClosure flat last x j (Contains tops) ended []
    → IsNext flat last (Contains tops) d (Contains next) now → IsStackClosure flat last x (j + 1) (Contains next) now []
closure_on flat last x j c d is alike tops next ended now closure is_next =
    next_closure flat last x j c d is alike (Contains tops) []
    (nothing_below flat last x j (Contains tops) ended closure) (Contains next) now is_next

module _ (old : Flat) (old_last : Dot → Bool) (new : Flat) (new_last : Dot → Bool) (x : List ℕ) where
  -- a pair holds the closures of both after j symbols
  pub record ArePairClosures (j : ℕ) (pair : StatePair) : Type 0 where
    pub old_closure : IsStackClosure old old_last x j (Contains pair.old) pair.old_ended []
    pub new_closure : IsStackClosure new new_last x j (Contains pair.new) pair.new_ended []

  pub start_closures : (p : StatePair) → IsStartPair old old_last new new_last p → ArePairClosures 0 p
  start_closures p starts = record { old_closure = starts.old_starts x; new_closure = starts.new_starts x }

  -- a symbol leads on where a sample does that is in the same sets
  pub next_closures : (j c d : ℕ) → slice_get x j ≡ Some c → AreAlike old c d → AreAlike new c d → (p q : StatePair)
      → PairLeads old old_last new new_last d p q → ArePairClosures j p → ArePairClosures (j + 1) q
  next_closures j c d is old_alike new_alike p q l here = record {
    old_closure = closure_on old old_last x j c d is old_alike p.old q.old p.old_ended q.old_ended here.old_closure
        l.old_next;
    new_closure = closure_on new new_last x j c d is new_alike p.new q.new p.new_ended q.new_ended here.new_closure
        l.new_next;
  }

-- what the rule derives, stacks accept
module _ (has : ℕ → Bool) (rules : List Rule) (id : ℕ) (flat : Flat) (last : Dot → Bool) (most : ℕ)
    (reports : AcceptsRule has rules id flat last most) (x : List ℕ) (le : length x ≤ most) (symbols : AreLetters has x)
  where
    pub derived_accepted : RuleDerives has rules id x → Accepts flat last x (length x)
    derived_accepted d = holds_accepted flat reports.uncounted x last reports.tail_positions reports.body reports.whole
        ((reports.derives x le symbols).1 d)

    pub accepted_derived : Accepts flat last x (length x) → RuleDerives has rules id x
    accepted_derived a = (reports.derives x le symbols).0
        (accepted_holds flat reports.uncounted x last reports.tail_positions reports.body reports.whole a)
