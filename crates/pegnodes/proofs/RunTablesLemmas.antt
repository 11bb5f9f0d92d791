-- Runs of bytes that a node takes.
-- Serves: RunTable::run
use Rattle.std.proofs.Common.{◌≡◌, ℕ, zero, suc, ◌+◌, ◌-◌, ◌*◌, ◌<◌, ◌≤◌, Bool, true, List, length, take, drop, Option}
use Rattle.std.proofs.Common.{Some, None, refl, sym, subst, ap, arith, ◌∙◌, get_or, length-drop}
use Rattle.std.specs.Prelude.{slice_get, slice_index, ◌==◌}
use Rattle.std.proofs.lemmas.Bool.{eqb-true, eq-eqb}
use Rattle.std.proofs.lemmas.List.{get_or-take, get_or-drop, length-take-le}
use Rattle.std.proofs.lemmas.Option.{slice_get-get_or, get_or_from_slice_get}
use Rattle.memchr.specs.Find.{IsFirstByte, is_byte}
use Rattle.pegnodes.specs.ByByte.{ByByte, AreIterations, iterations_none, iterations_more}
use Rattle.pegnodes.specs.Nodes.{Shape}
use Rattle.pegnodes.specs.RunTables.{evals_by, iteration_evals, IterationsTo, IsRun, IsRunTo}
use Rattle.pegnodes.specs.declared.by_byte.Decided.{Decided}
use Rattle.pegnodes.specs.declared.by_byte.ByteVerdict.{ByteVerdict}
use Rattle.pegnodes.specs.declared.by_byte.ByteVerdict.TheVariants.{Takes, Stays, Fails}
use Rattle.pegnodes.specs.declared.run_table.Run.{Run}
use Rattle.pegnodes.specs.declared.run_table.StopByte.{StopByte}

module _ (nodes : List Shape) (bodies : List ℕ) (marks : ℕ → Bool) (tails : ℕ → ℕ → Bool) (b k : ℕ) where
  abbrev By : ByteVerdict → ℕ → Type 0
  By v c = ByByte nodes bodies marks tails b k v c

  -- the number of a byte that is taken
  record IsTaken (m : ℕ) : Type 0 where
    pub count : ℕ
    pub by : By Takes count
    pub is : m ≡ 1 + count

  verdict_takes : (v : ByteVerdict) (c m : ℕ) → By v c → evals_by v c ≡ m → (m ≡ 0 → ⊥) → IsTaken m
  verdict_takes Takes c m h is some = record { count = c; by = h; is = omega (arith, is) }
  verdict_takes Stays c m h is some = absurd (some (sym is))
  verdict_takes Fails c m h is some = absurd (some (sym is))

  entry_takes : (o : Option (Option Decided)) (m : ℕ) → ((d : Decided) → o ≡ Some (Some d) → By d.verdict d.count)
      → iteration_evals o ≡ m → (m ≡ 0 → ⊥) → IsTaken m
  entry_takes None m h is some = absurd (some (sym is))
  entry_takes (Some None) m h is some = absurd (some (sym is))
  entry_takes (Some (Some d)) m h is some = verdict_takes d.verdict d.count m (h d refl) is some

module _ (entries : List (Option Decided)) (x : List ℕ) (from : ℕ) where
  iterations_as : (nodes : List Shape) (bodies : List ℕ) (marks : ℕ → Bool) (tails : ℕ → ℕ → Bool) (k n m c d : ℕ) → n
      ≡ m
      → c ≡ d → AreIterations nodes bodies x marks tails k from n c
      → AreIterations nodes bodies x marks tails k from m d
  iterations_as nodes bodies marks tails k n m c d position sum h =
      subst (λ e. AreIterations nodes bodies x marks tails k from m e) sum
      (subst (λ j. AreIterations nodes bodies x marks tails k from j c) position h)

  pub iterations_begin : IterationsTo entries x from from 0
  iterations_begin nodes bodies marks tails k table =
      iterations_as nodes bodies marks tails k 0 (from - from) 0 0 (omega arith) refl iterations_none

  -- one byte more
  pub iterations_next : (to evals m b : ℕ) → from ≤ to → IterationsTo entries x from to evals → slice_get x to ≡ Some b
      → iteration_evals (slice_get entries b) ≡ m → (m ≡ 0 → ⊥) → IterationsTo entries x from (to + 1) (evals + m)
  iterations_next to evals m b le iterations at is some nodes bodies marks tails k table =
      let one = entry_takes nodes bodies marks tails b k (slice_get entries b) m (λ d e. table b d e) is some in
      let sum = one.is in
      let position : from + (to - from) ≡ to = omega (arith, le) in
      iterations_as nodes bodies marks tails k (suc (to - from)) ((to + 1) - from) (evals + (1 + one.count)) (evals + m)
      (omega (arith, le)) (omega (arith, sum))
      (iterations_more (iterations nodes bodies marks tails k table)
      (subst (λ p. slice_get x p ≡ Some b) (sym position) at) one.by)

  -- bytes that are each so many evaluations
  iterations_each : (n m : ℕ) → (m ≡ 0 → ⊥)
      → ((i : ℕ) → i < n → (b : ℕ) × (slice_get x (from + i) ≡ Some b) × (iteration_evals (slice_get entries b) ≡ m))
      → IterationsTo entries x from (from + n) (n * m)
  iterations_each zero m some each nodes bodies marks tails k table =
      iterations_as nodes bodies marks tails k 0 ((from + 0) - from) 0 (0 * m) (omega arith)
      (omega arith) iterations_none
  iterations_each (suc n) m some each nodes bodies marks tails k table =
      let last = each n (omega arith) in
      let before = iterations_each n m some (λ i lt. each i (omega arith)) in
      let next = iterations_next (from + n) (n * m) m last.0 (omega arith) before last.1 last.2 some nodes bodies marks
      tails k table in
      iterations_as nodes bodies marks tails k (((from + n) + 1) - from) ((from + suc n) - from) (n * m + m) (suc n * m)
      (omega arith) (omega arith) next

  -- the entry of the byte at a position
  pub byte_at : (to : ℕ) → to < length x → slice_get x to ≡ Some (get_or x to 0)
  byte_at to lt = slice_get-get_or x to 0 lt

  pub evals_at : (b m : ℕ) → b < length entries → m ≡ iteration_evals (Some (get_or entries b None))
      → iteration_evals (slice_get entries b) ≡ m
  evals_at b m lt is = ap iteration_evals (slice_get-get_or entries b None lt) ∙ sym is

  pub same_byte_at : (to b : ℕ) → slice_get x to ≡ Some b → get_or x to 0 ≡ b
  same_byte_at to b is = get_or_from_slice_get x to b 0 is

  module _ (s : StopByte) (end : ℕ) (run : Run) (within : end ≤ length x) (bytes : (i : ℕ) → get_or x i 0 < 256)
      (to : IsRunTo s x from end run)
      (none : iteration_evals (slice_get entries s.byte) ≡ 0) (some : 0 < s.evals)
      (others : (b : ℕ) → b < 256 → (b ≡ s.byte → ⊥) → iteration_evals (slice_get entries b) ≡ s.evals) where
    each_taken : (i : ℕ) → i < run.end - from
        → (b : ℕ) × (slice_get x (from + i) ≡ Some b) × (iteration_evals (slice_get entries b) ≡ s.evals)
    each_taken i lt =
        let high = to.high in
        let at = byte_at (from + i) (omega (arith, lt, high, within)) in
        let not = to.before (from + i) (omega arith) (omega (arith, lt)) in (
          get_or x (from + i) 0,
          at,
          others (get_or x (from + i) 0) (bytes (from + i)) (λ same. not (cc (at, same))),
        )

    pub run_is : IsRun entries x from end run
    run_is =
        let low = to.low in
        let position : from + (run.end - from) ≡ run.end = omega (arith, low) in
        record {
          low = to.low;
          high = to.high;
          iterations = subst (λ p. IterationsTo entries x from run.end p) (sym to.evals)
              (subst (λ q. IterationsTo entries x from q ((run.end - from) * s.evals)) position
              (iterations_each (run.end - from) s.evals (λ is. omega (arith, is, some)) each_taken));
          ends = λ less b is. let same = to.ends less b is in ap (λ c. iteration_evals (slice_get entries c)) same
              ∙ none;
        }

-- the search for the byte
module _ (s : StopByte) (x : List ℕ) (from to end evals : ℕ) (low : from ≤ to) (within : to ≤ length x)
    (is : evals ≡ (end - from) * s.evals) where
  abbrev Hay : List ℕ
  Hay = take (to - from) (drop from x)

  hay_at : (i : ℕ) → i < to - from → slice_index Hay i ≡ slice_index x (from + i)
  hay_at i lt = get_or-take (to - from) (drop from x) i 0 lt ∙ get_or-drop from x i 0

  hay_length : length Hay ≡ to - from
  hay_length =
      let rest = length-drop from x in
      length-take-le (to - from) (drop from x) (omega (arith, rest, low, within))

  -- before the end of the search there is no such byte
  not_before : (i : ℕ) → i < to - from → (slice_index Hay i == s.byte ≡ true → ⊥) → slice_get x (from + i) ≡ Some s.byte
      → ⊥
  not_before i lt not at =
      let here = get_or_from_slice_get x (from + i) s.byte 0 at in
      not (eq-eqb (slice_index Hay i) s.byte (hay_at i lt ∙ here))

  pub found_to : (i : ℕ) → end ≡ from + i → IsFirstByte (is_byte s.byte) Hay (Some i)
      → IsRunTo s x from to (record { end = end; evals = evals })
  found_to i at h =
      let lt = h.0.high in
      let whole = hay_length in
      record {
        low = omega (arith, at);
        high = omega (arith, at, lt, whole, low);
        before = λ j le less same.
            let position : from + (j - from) ≡ j = omega (arith, le) in
            not_before (j - from) (omega (arith, le, less, at, lt, whole))
            (h.0.before (j - from) (omega arith) (omega (arith, le, less, at)))
            (subst (λ q. slice_get x q ≡ Some s.byte) (sym position) same);
        ends = λ less b same.
            let here = get_or_from_slice_get x end b 0 same in
            let there : slice_index Hay i ≡ s.byte = eqb-true (slice_index Hay i) s.byte h.1 in
            sym here ∙ ap (λ q. slice_index x q) at ∙ sym (hay_at i (omega (arith, lt, whole))) ∙ there;
        evals = is;
      }

  pub found_none : end ≡ to → IsFirstByte (is_byte s.byte) Hay None
      → IsRunTo s x from to (record { end = end; evals = evals })
  found_none at h =
      let whole = hay_length in
      record {
        low = omega (arith, at, low);
        high = omega (arith, at);
        before = λ j le less same.
            let position : from + (j - from) ≡ j = omega (arith, le) in
            not_before (j - from) (omega (arith, le, less, at))
            (h (j - from) (omega arith) (omega (arith, le, less, at, whole)))
            (subst (λ q. slice_get x q ≡ Some s.byte) (sym position) same);
        ends = λ less b same. absurd (omega (arith, less, at));
        evals = is;
      }
