-- The parts of dotted rules: the terminals that they read, and the names that they call.
use Rattle.std.specs.Prelude.{◌≡◌, ◌≢◌, ℕ, true, List, Some, None}
use Rattle.flatgrammar.specs.Flat.{Flat, Dot, Starts}
use Rattle.flatgrammar.specs.ItemClosures.{item_at, dot}
use Rattle.flatgrammar.specs.OldItems.{HasPart, IsOld}
use Rattle.flatgrammar.specs.Positions.{In}
use Rattle.flatgrammar.specs.TableViews.{callee_of, name_of, read_of}
use Rattle.flatgrammar.specs.declared.closure.DottedRule.{DottedRule}
use Rattle.flatgrammar.specs.declared.tables.Tables as code_flat

-- a dotted rule reads a symbol of a terminal, which is the part with that step; or it calls a name, which is at step 0
pub data IsPartOf (tables : code_flat.Tables) (n k : ℕ) : DottedRule → Type 0 where
  reads : {s : DottedRule} → read_of tables (item_at 0 (dot n k)) ≢ None → s ≡ dot n k → IsPartOf tables n k s
  calls : {m next : ℕ} {s : DottedRule} → callee_of tables (item_at 0 (dot n k)) ≡ Some (m, next)
      → name_of tables m ≡ true → s ≡ dot m 0 → IsPartOf tables n k s

-- The parts that can come next after n symbols, in what began before: terminals, each with the number of its symbols
-- that were read, and names. All of them but names of rules that begin nowhere.
pub record AreAwaited (flat : Flat) (x : List ℕ) (n : ℕ) (parts : List DottedRule) : Type 0 where
  pub sound : (s : DottedRule) → In s parts → HasPart flat x n (IsOld flat x n) s.node s.step
  pub whole : (s : DottedRule) (p : Dot) → HasPart flat x n (IsOld flat x n) s.node s.step → Starts flat s.node p
      → In s parts
