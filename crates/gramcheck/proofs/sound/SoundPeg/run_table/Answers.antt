use Rattle.std.proofs.Common.{◌≡◌, ◌<◌, ℕ, IfSome, length, Some, sym, subst}
use Rattle.std.specs.Prelude.{slice_get}
use Rattle.std.proofs.lemmas.Bool.{ltb-true}
use Rattle.gramcheck.specs.Grammar.{Grammar}
use Rattle.pegnodes.specs.ByteTables.{IsRunTableOf, IsTabled}
use Rattle.pegnodes.specs.KeyLists.{marks_of}
use Rattle.pegnodes.specs.Nodes.{Shape, shapes_of}
use Rattle.pegnodes.proofs.ByteTablesLemmas.{read_at, some_read, table_read}
use Rattle.gramcheck.proofs.sound.SoundPeg.run_table.Goals as goal

module _ (c : goal.After-get-in-Some) where
  position_is : slice_get c.self.inside.by_byte.positions.items c.args.n ≡ Some (Some c.from.result)
  position_is =
      let found = rw c.deref.ensures.value at c.in_ok-position.ensures.lookup in
      let low : c.args.n < length c.self.inside.by_byte.positions.items =
      ltb-true c.args.n (length c.self.inside.by_byte.positions.items) (sym found.0) in
      let from = c.from.ensures in
      let is = c.in-Some.is in
      read_at c.self.inside.by_byte.positions.items c.args.n c.in_ok-position.position.now
      (Some c.from.result) low found.1
      (cc (is, from))

pub returns-in-Some : goal.returns-in-Some
returns-in-Some c =
    let read = rw c.deref-in-Some.ensures.value at c.get-in-Some.ensures.lookup in
    subst (λ (g : Grammar). IfSome c.get-in-Some.result (λ t. (s : Shape) (k : ℕ)
    → slice_get (shapes_of g.nodes) c.args.n ≡ Some s → IsTabled c.args.n s k
    → IsRunTableOf (shapes_of g.nodes) g.bodies g.keys k t.now)) c.self.view_is
    (some_read _ _ _ c.get-in-Some.result (λ t is s k at tabled. table_read (IsRunTableOf
    (shapes_of c.self.inside.nodes.items) c.self.inside.bodies.items (marks_of (shapes_of c.self.inside.nodes.items)
    c.self.inside.keys.nodes.items c.self.inside.keys.after.items) k) c.self.inside.by_byte.runs.items c.from.result
    t.now ((c.self.invariant.4 c.args.n c.from.result (position_is c)).run s k at tabled) is) read.1)
