-- The verdict on a line by the sets of a chart.
-- Serves: judge, judge_many, viable, viable_few
use Rattle.std.proofs.Common.{◌≡◌, ◌↔◌, ℕ, ◌<◌, ◌≤◌, Bool, IsTrue, List, [], ◌∷◌, length, map, refl, subst, sym, arith}
use Rattle.std.proofs.lemmas.List.{length-map}
use Rattle.flatgrammar.specs.Flat.{Flat, Dot, at}
use Rattle.flatgrammar.specs.FlatVerdicts.{DerivesLine, IsFlatVerdict}
use Rattle.flatgrammar.specs.Holds.{Holds, HasItem}
use Rattle.flatgrammar.specs.Positions.{In, now}
use Rattle.flatgrammar.specs.declared.verdict.Verdict.TheVariants.{No}
use Rattle.earleyitems.specs.ChartSets.{set_at, IsSet}

some_item : (flat : Flat) (x : List ℕ) (j : ℕ) (set : List (Dot × ℕ)) → IsSet flat x j set → 0 < length set
    → HasItem flat x j
some_item flat x j [] is some = absurd (omega (arith, some))
some_item flat x j (a ∷ set) is some = record { position = a.0; origin = a.1; held = is.held a.0 a.1 (now refl) }

in_none : (a : Dot × ℕ) (set : List (Dot × ℕ)) → In a set → length set ≡ 0 → ⊥
in_none a [] h none = elim h [ ]
in_none a (b ∷ set) h none = omega (arith, none)

no_item : (flat : Flat) (x : List ℕ) (j : ℕ) (set : List (Dot × ℕ)) → IsSet flat x j set → length set ≡ 0
    → HasItem flat x j → ⊥
no_item flat x j set is none item = in_none (item.position, item.origin) set
    (is.all item.position item.origin item.held) none

pub is_no : (flat : Flat) (x : List ℕ) (sets : List (List (Dot × ℕ))) (end n : ℕ)
    → ((j : ℕ) → IsSet flat x j (set_at sets j)) → length x ≡ end → (DerivesLine flat x → ⊥) → n ≤ end
    → (0 < n → 0 < length (set_at sets n)) → ((m : ℕ) → n < m → m ≤ end → length (set_at sets m) ≡ 0)
    → IsFlatVerdict flat x (No n)
is_no flat x sets end n are size derives le some none = (
  derives,
  record {
    within = omega (arith, le, size);
    item = λ past. some_item flat x n (set_at sets n) (are n) (some past);
    last = λ m past most item.
        no_item flat x m (set_at sets m) (are m) (none m past (omega (arith, most, size))) item;
  },
)

pub derives_line : {T : Type 0} (number : T → ℕ) (flat : Flat) (line : List T) (said : Bool)
    → IsTrue said ↔ Holds flat (map number line) (length line) (at flat.start 1) 0
    → IsTrue said ↔ DerivesLine flat (map number line)
derives_line number flat line said holds =
    subst (λ n. IsTrue said ↔ Holds flat (map number line) n (at flat.start 1) 0) (sym (length-map line number)) holds
