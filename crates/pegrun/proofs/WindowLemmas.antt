-- What a window of at most limit + 1 bytes says of the whole rest.
-- Serves: run_peg (right)
use Rattle.std.proofs.Common.{◌≡◌, ℕ, suc, ◌<◌, ◌≤◌, List, ◌++◌, length, take, drop, sym, ◌∙◌, ap, subst, arith}
use Rattle.std.proofs.Common.{nat_lt, inl, inr}
use Rattle.std.proofs.lemmas.Bool.{cases_lt}
use Rattle.std.proofs.lemmas.Grind.{common_steps}
use Rattle.std.proofs.lemmas.List.{take-append-drop, length-take-le, take_all}
use Rattle.pegread.specs.PegViews.{rules_of}
use Rattle.gramcheck.specs.Grammar.{Grammar, IsSoundGrammar}
use Rattle.gramcheck.specs.Outcome.{Outcome, Takes, Event}
use Rattle.pegnodes.specs.Nodes.{shapes_of}
use Rattle.gramcheck.proofs.SomeOutcomeLemmas.{has_of_start}
use Rattle.gramcheck.proofs.StartRuleLemmas.{same_of_start, rises_of_start, grows_of_start, shrinks_of_start}
use Rattle.pegmatch.specs.Answers.{StartGives, WasEnough}
use Rattle.pegmatch.specs.Text.{text_of}
use Rattle.pegmatch.specs.declared.style.PrintStyle.{PrintStyle}
use Rattle.pegrun.proofs.LooksOfStartLemmas.{looks_of_start}
use Rattle.pegrun.proofs.TextOfLemmas.{text_same}

-- an outcome on the rest that looks at no more than the limit
pub record Seen (g : Grammar) (x : List ℕ) (limit : ℕ) (o : Outcome) : Type 0 where
  pub looked : ℕ
  pub gives : StartGives g x o looked
  pub within : looked ≤ limit

module _ (g : Grammar) (x : List ℕ) (limit : ℕ) where
  abbrev window : List ℕ
  window = take (suc limit) x

  abbrev after : List ℕ
  after = drop (suc limit) x

  window_whole : window ++ after ≡ x
  window_whole = take-append-drop (suc limit) x

  window_full : limit < length x → length window ≡ suc limit
  window_full h = length-take-le (suc limit) x (omega arith)

  pub window_seen : (o : Outcome) (looked : ℕ) → StartGives g window o looked
      → WasEnough window (nat_lt limit (length x))
      looked → Seen g x limit o
  window_seen o looked d enough = elim (cases_lt limit (length x)) [
    | inl more ↦
        let lt : looked < length window = enough (grind (arith, common_steps)) in
        let l = window_full more in
        record {
          looked = looked;
          gives = subst (λ t. StartGives g t o looked) window_whole
              (grows_of_start (rules_of g.rules) g.start window after looked o lt d);
          within = omega arith;
        }
    | inr all ↦
        let is : window ≡ x = take_all (suc limit) x (omega arith) in
        let there : StartGives g x o looked = subst (λ t. StartGives g t o looked) is d in
        let l = looks_of_start (rules_of g.rules) g.start x o looked there in
        record { looked = looked; gives = there; within = omega arith }
  ]

  -- the text of a success on the window
  pub seen_text : (style : PrintStyle) (k : ℕ) (events : List Event) (looked : ℕ)
      → StartGives g window (Takes k events) looked →
      text_of style window events ≡ text_of style x events
  seen_text style k events looked d =
      let r = rises_of_start (rules_of g.rules) g.start window k looked events d in
      sym (text_same style window after k events r.0 r.1) ∙ ap (λ t. text_of style t events) window_whole

  -- what compares the last byte of a full window looks at more than the limit on the rest
  pub seen_long : IsSoundGrammar g → (o : Outcome) → limit < length x → StartGives g window o (length window) →
      (c : Outcome) × (looked : ℕ) × StartGives g x c looked × (limit < looked)
  seen_long sound o more d =
      let some = has_of_start (rules_of g.rules) g.start (shapes_of g.nodes) g.bodies g.ranks sound x in
      elim (cases_lt limit some.1) [
        | inl over ↦ (some.0, some.1, some.2, over)
        | inr le ↦
            let l = window_full more in
            let there : StartGives g (window ++ after) some.0 some.1 =
            subst (λ t. StartGives g t some.0 some.1) (sym window_whole) some.2 in
            let here = shrinks_of_start (rules_of g.rules) g.start window after some.1 some.0 (omega arith) there in
            let same = same_of_start (rules_of g.rules) g.start window some.1 (length window) some.0 o here d in
            absurd (omega (arith, same.looked))
      ]
