-- How many of the first alternatives a byte decides to fail, counted one by one.
-- Serves: find_tables
use Rattle.std.proofs.Common.{◌≡◌, ℕ, suc, ◌+◌, ◌<◌, List, [], ◌∷◌, ◌++◌, length, Some, subst}
use Rattle.std.proofs.Common.{sym, ◌∙◌, ⊎_elim, arith, false}
use Rattle.std.specs.Prelude.{slice_get, get_or}
use Rattle.std.proofs.lemmas.Option.{slice_get-get_or}
use Rattle.pegnodes.specs.ByByte.{Below}
use Rattle.pegnodes.specs.ChoiceTables.{FailFirst, fail_more}
use Rattle.pegnodes.specs.Decides.{mark_in, tail_in}
use Rattle.pegnodes.specs.Nodes.{Choice, shapes_of}
use Rattle.pegnodes.specs.declared.by_byte.MarkedNodes.{MarkedNodes}
use Rattle.pegnodes.specs.declared.by_byte.ByteVerdict.TheVariants.{Fails}
use Rattle.pegnodes.specs.declared.choice_table.Skip.{Skip}
use Rattle.pegnodes.proofs.ByteTablesLemmas.{get_pushed}
use Rattle.pegnodes.proofs.KeyNeedsLemmas.{tails_at}

module _ (g : MarkedNodes) (b n : ℕ) (ms : List ℕ) where
  abbrev F : ℕ → ℕ → Type 0
  F i c = FailFirst (shapes_of g.nodes.now) g.bodies.now (mark_in g) (tail_in g) b n ms i c

  pub fails_as : (i j c d : ℕ) → i ≡ j → c ≡ d → F i c → F j d
  fails_as i j c d position sum h = subst (λ e. F j e) sum (subst (λ k. F k c) position h)

  -- one alternative more
  pub fails_next : (i evals sum c : ℕ) → i < length ms → slice_get (shapes_of g.nodes.now) n ≡ Some (Choice ms)
      → sum ≡ evals + c
      → Below (shapes_of g.nodes.now) g.bodies.now (mark_in g) (tail_in g) b (get_or ms i 0) Fails c
      → F i evals → F (i + 1) sum
  fails_next i evals sum c lt at is h before =
      let no_key : tail_in g n i ≡ false =
      sym (tails_at (shapes_of g.nodes.now) g.keys.now g.after.now n i (Choice ms) at) in
      fails_as (suc i) (i + 1) (evals + c) sum (omega arith) (sym is)
      (fail_more before (slice_get-get_or ms i 0 lt) no_key h)

-- entries that are so for each byte, and one byte more
pub entries_next : (P : ℕ → Skip → Type 0) (xs new : List Skip) (x : Skip) (b : ℕ) → length xs ≡ b
    → new ≡ xs ++ x ∷ [] → ((k : ℕ) (s : Skip) → slice_get xs k ≡ Some s → P k s) → P b x
    → (k : ℕ) (s : Skip) → slice_get new k ≡ Some s → P k s
entries_next P xs new x b long is before here k s at =
    ⊎_elim (λ old. before k s old)
    (λ last. subst (λ j. P j s) (sym (last.0 ∙ long)) (subst (P b) last.1 here)) (get_pushed xs x k s (rw is at at))
