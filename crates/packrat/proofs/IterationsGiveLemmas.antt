-- What a repetition gives after iterations that bytes decide, it gives before them.
-- Serves: iterations_give, iterations_whole, Packrat::match_unit
use Rattle.std.proofs.Common.{◌≡◌, ◌⊎◌, inl, inr, ℕ, zero, suc, ◌+◌, ◌<◌, ◌≤◌, max, Bool, true, List, [], length}
use Rattle.std.proofs.Common.{Some, subst, arith}
use Rattle.std.specs.Prelude.{slice_get}
use Rattle.pegread.specs.Pattern.{Rule}
use Rattle.pegread.specs.PegViews.{rules_of}
use Rattle.gramcheck.specs.Grammar.{Grammar, IsSoundGrammar}
use Rattle.pegnodes.specs.Nodes as node
use Rattle.pegnodes.specs.Nodes.{Shape, shapes_of}
use Rattle.gramcheck.specs.Outcome as outcome
use Rattle.gramcheck.specs.Outcome.{Event}
use Rattle.gramcheck.specs.Sound.{IsRanked}
use Rattle.memo.specs.declared.found.Found.{Found}
use Rattle.memo.specs.declared.found.Found.TheVariants.{Failed, Took}
use Rattle.memo.specs.declared.task.MatchTask.TheVariants.{Eval}
use Rattle.pegmatch.specs.KeptEvents.{SpellsSome}
use Rattle.pegmatch.specs.Visits.{NodeGives}
use Rattle.pegmatch.proofs.GivesLemmas.{star_gives_more, star_never_fails}
use Rattle.pegnodes.specs.declared.by_byte.ByteVerdict.TheVariants.{Stays}
use Rattle.pegnodes.specs.ByByte.{ByByte, AreIterations, iterations_none, iterations_more}
use Rattle.packrat.specs.ByteGives.{RepeatsTo}
use Rattle.packrat.specs.TaskGives.{TaskGives}
use Rattle.packrat.proofs.ByteGivesLemmas.{gives_by, star_has}

last_or_before : (i n : ℕ) → i ≤ suc n → (i ≡ suc n) ⊎ (i ≤ n)
last_or_before zero n le = inr (omega arith)
last_or_before (suc i) zero le = inl (omega arith)
last_or_before (suc i) (suc n) le = elim (last_or_before i n (omega arith)) [
  | inl e ↦ inl (omega arith)
  | inr e ↦ inr (omega arith)
]

module _ (rules : List Rule) (start : ℕ) (nodes : List Shape) (bodies ranks x : List ℕ)
    (sound : IsRanked rules start nodes bodies ranks) (marks : ℕ → Bool) (tails : ℕ → ℕ → Bool) (s k : ℕ)
    (at : slice_get nodes s ≡ Some (node.Star k)) (spelled : SpellsSome rules nodes s) where
  abbrev Repeats : ℕ → ℕ → List Event → ℕ → Type 0
  Repeats p q events most = RepeatsTo rules nodes bodies x s p q events most

  repeats_at : (p r q most : ℕ) (events : List Event) → p ≡ r → Repeats p q events most → Repeats r q events most
  repeats_at p r q most events is = subst (λ v. Repeats v q events most) is

  repeats_more : (p q most less : ℕ) (events : List Event) → less ≤ most → Repeats p q events less
      → Repeats p q events most
  repeats_more p q most less events le h =
      let lt = h.within in record { looked = h.looked; within = omega (arith, le, lt); gives = h.gives }

  pub iterations_repeat : {a n c : ℕ} → AreIterations nodes bodies x marks tails k a n c
      → (q looked : ℕ) (events : List Event)
      → NodeGives rules nodes bodies x s (a + n) (outcome.Takes q events) looked → (i : ℕ) → i ≤ n
      → Repeats (a + i) q events (max looked (a + n))
  iterations_repeat {a = a} iterations_none q looked events d i le =
      repeats_at (a + 0) (a + i) q (max looked (a + 0)) events (omega arith)
      (record { looked = looked; within = omega arith; gives = d })
  iterations_repeat {a = a} (iterations_more {n = n} {b = b} r here h) q looked events d i le =
      let g = gives_by rules start nodes bodies ranks x sound marks tails b (a + n) here h
      (star_has rules start nodes bodies ranks x sound s k at spelled) in
      let within = g.within in
      let next : a + suc n ≡ (a + n) + 1 = omega arith in
      let more = star_gives_more rules start nodes bodies ranks x sound s k spelled (a + n) ((a + n) + 1) q g.looked
      looked [] events at g.gives
      (subst (λ p. NodeGives rules nodes bodies x s p (outcome.Takes q events) looked) next d) in
      elim (last_or_before i n le) [
        | inl e ↦ repeats_at (a + suc n) (a + i) q (max looked (a + suc n)) events (omega arith)
            (record { looked = looked; within = omega arith; gives = d })
        | inr e ↦ repeats_more (a + i) q (max looked (a + suc n)) (max (max g.looked looked) (a + n)) events
            (omega (arith, within)) (iterations_repeat r q (max g.looked looked) events more i e)
      ]

  -- a repetition whose iterations end at a byte that it stays before
  pub whole_repeats : {a n c : ℕ} (b d : ℕ) → AreIterations nodes bodies x marks tails k a n c
      → slice_get x (a + n) ≡ Some b → ByByte nodes bodies marks tails b s Stays d
      → Repeats a (a + n) [] ((a + n) + 1)
  whole_repeats {a = a} {n = n} b d iterations here h =
      let g = gives_by rules start nodes bodies ranks x sound marks tails b (a + n) here h spelled in
      let within = g.within in
      let first = iterations_repeat iterations (a + n) g.looked [] g.gives 0 (omega arith) in
      repeats_at (a + 0) a (a + n) ((a + n) + 1) [] (omega arith)
      (repeats_more (a + 0) (a + n) ((a + n) + 1) (max g.looked (a + n)) [] (omega (arith, within)) first)

module _ (g : Grammar) (x : List ℕ) (more : Bool) (sound : IsSoundGrammar g) (marks : ℕ → Bool)
    (tails : ℕ → ℕ → Bool) (s k : ℕ) (at : slice_get (shapes_of g.nodes) s ≡ Some (node.Star k))
    (spelled : SpellsSome (rules_of g.rules) (shapes_of g.nodes) s) where
  pub iterations_found : {a n c : ℕ} → AreIterations (shapes_of g.nodes) g.bodies x marks tails k a n c → (f : Found)
      → (more ≡ true → a + n < length x) → TaskGives g x more (Eval s (a + n)) f → (i : ℕ) → i ≤ n
      → TaskGives g x more (Eval s (a + i)) f
  iterations_found {a = a} {n = n} iterations Failed last d i le = absurd (star_never_fails (rules_of g.rules) g.start
      (shapes_of g.nodes) g.bodies g.ranks x sound s k spelled (a + n) d.1.0 at d.1.1)
  iterations_found {a = a} {n = n} iterations (Took q) last d i le =
      let r = iterations_repeat (rules_of g.rules) g.start (shapes_of g.nodes) g.bodies g.ranks x sound marks tails s k
      at spelled iterations q d.1.0 d.0 d.1.1 i le in (
        d.0,
        (
          r.looked,
          r.gives,
          (λ is. let lt = last is in let before = d.1.2 is in let within = r.within in
              omega (arith, lt, before, within)),
          tt,
        ),
      )

  pub whole_found : {a n c : ℕ} (b d : ℕ) → AreIterations (shapes_of g.nodes) g.bodies x marks tails k a n c
      → slice_get x (a + n) ≡ Some b → ByByte (shapes_of g.nodes) g.bodies marks tails b s Stays d
      → (more ≡ true → (a + n) + 1 < length x) → TaskGives g x more (Eval s a) (Took (a + n))
  whole_found b d iterations here h last =
      let r = whole_repeats (rules_of g.rules) g.start (shapes_of g.nodes) g.bodies g.ranks x sound marks tails s k at
      spelled b d iterations here h in (
        [],
        (r.looked, r.gives, (λ is. let lt = last is in let within = r.within in omega (arith, lt, within)), tt),
      )
