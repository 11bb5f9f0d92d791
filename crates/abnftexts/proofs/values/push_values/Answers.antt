use Rattle.std.proofs.Common.{◌≡◌, ◌≤◌, ◌∙◌, ◌++◌, ℕ, zero, suc, min, List, [], ◌∷◌, ap, append-nil, arith, drop}
use Rattle.std.proofs.Common.{length, map, refl, sym}
use Rattle.std.specs.List.{zip}
use Rattle.abnfblocks.specs.TextLines.{numbered}
use Rattle.abnfblocks.specs.declared.found.RuleSearch.{RuleSearch}
use Rattle.abnftexts.specs.RulesGathered.{ListEntry, entry_listed}
use Rattle.abnftexts.specs.ValueRuns.{value_entry}
use Rattle.rfcvalues.specs.RuleSketches.{rule_sketched}
use Rattle.rfcvalues.specs.declared.sketch.RuleSketch.{RuleSketch}
use Rattle.abnftexts.proofs.values.push_values.Goals as goal

no-others : {A B : Type 0} (xs : List A) → zip {K = A} {X = B} xs [] ≡ []
no-others [] = refl
no-others (x ∷ xs) = refl

zip-past : {A B : Type 0} (xs : List A) (ys : List B) (i : ℕ) → min (length xs) (length ys) ≤ i
    → zip (drop i xs) (drop i ys) ≡ []
zip-past [] ys zero le = refl
zip-past [] ys (suc i) le = refl
zip-past (x ∷ xs) [] zero le = refl
zip-past (x ∷ xs) [] (suc i) le = no-others (drop i xs)
zip-past (x ∷ xs) (y ∷ ys) zero le = absurd (omega (arith, le))
zip-past (x ∷ xs) (y ∷ ys) (suc i) le = zip-past xs ys i (omega (arith, le))

pub returns : goal.returns
returns c =
    let run = c.args.run.now in
    let sketches = c.args.sketches.now in
    let list = map entry_listed c.loop-at.list.items in
    let entry : RuleSearch × RuleSketch → ListEntry = λ p. value_entry c.args.rows.now.name.now
    (map numbered c.args.rows.now.lines.items) p.0 (rule_sketched p.1) in
    let le : min (length run) (length sketches) ≤ c.loop-at.at = grind arith in
    sym (append-nil list)
    ∙ ap (λ (pairs : List (RuleSearch × RuleSketch)). list ++ map entry pairs)
    (sym (zip-past run sketches c.loop-at.at le))
    ∙ c.loop-at.invariant
