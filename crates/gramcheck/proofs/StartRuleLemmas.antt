-- What holds of an expression at the front of the input holds of the start rule.
-- Serves: one_outcome_of_start, some_outcome_of_start, longer_input_of_start, shorter_input_of_start
use Rattle.std.proofs.Common.{◌≡◌, ℕ, ◌<◌, ◌≤◌, List, ◌++◌, length, arith, subst}
use Rattle.pegread.specs.Pattern.{Rule}
use Rattle.gramcheck.specs.Outcome.{Outcome, Takes, Event, Gives, RuleGives}
use Rattle.gramcheck.specs.Rising.{Rise}
use Rattle.gramcheck.proofs.OneOutcomeLemmas.{gives_same, Same}
use Rattle.gramcheck.proofs.LongerInputLemmas.{gives_longer}
use Rattle.gramcheck.proofs.RiseLemmas.{gives_within}
use Rattle.gramcheck.proofs.ShorterInputLemmas.{gives_shorter}

pub same_of_start : (rules : List Rule) (start : ℕ) (x : List ℕ) (k j : ℕ) (o c : Outcome) → RuleGives rules start x o k
    → RuleGives rules start x c j → Same o k c j
same_of_start rules start x k j o c d g =
    let is : g.body ≡ d.body = cc (d.rule, g.rule) in
    gives_same rules x d.gives (subst (λ e. Gives rules x e 0 c j) is g.gives)

pub rises_of_start : (rules : List Rule) (start : ℕ) (x : List ℕ) (q k : ℕ) (events : List Event)
    → RuleGives rules start x (Takes q events) k →
    Rise 0 q events × (q ≤ length x)
rises_of_start rules start x q k events d = let front : 0 ≤ length x = omega arith in gives_within rules x d.gives front

pub grows_of_start : (rules : List Rule) (start : ℕ) (x y : List ℕ) (k : ℕ) (o : Outcome) → k < length x
    → RuleGives rules start x o k → RuleGives rules start (x ++ y) o k
grows_of_start rules start x y k o lt d = record {
  body = d.body;
  rule = d.rule;
  gives = gives_longer rules x y d.gives (omega arith) lt;
}

pub shrinks_of_start : (rules : List Rule) (start : ℕ) (x y : List ℕ) (k : ℕ) (o : Outcome) → k < length x
    → RuleGives rules start (x ++ y) o k → RuleGives rules start x o k
shrinks_of_start rules start x y k o lt d = record {
  body = d.body;
  rule = d.rule;
  gives = gives_shorter rules x y d.gives lt;
}
