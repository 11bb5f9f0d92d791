use Rattle.std.proofs.Common.{◌<◌, length, arith, refl}
use Rattle.std.proofs.lemmas.Option.{slice_get_read}
use Rattle.fixpoint.specs.Way.{way_of}
use Rattle.fixpoint.proofs.RowsOfLemmas as b
use Rattle.fixpoint.proofs.IterationsLemmas as t
use Rattle.fixpoint.proofs.cycles.Search.look.Goals as goal

pub returns-in_ok-open-in-New-clause-goes : goal.returns-in_ok-open-in-New-clause-goes
returns-in_ok-open-in-New-clause-goes c =
    let within = c.requires.within in
    let size = c.requires.way.kept.positions in
    let lt : c.args.target < length c.args.self.now.positions.items = omega (arith, within, size) in
    let at = slice_get_read _ _ _ _ refl lt c.index.ensures in
    let rows = b.length-slices c.args.steps.now in
    let below : c.args.target < length c.args.steps.now = omega (arith, within, rows) in
    let row = b.slice_now _ _ below in
    t.on_new _ _ _ _ within c.requires.way c.requires.short (rw c.in-New.is at at)
    (rw row c.in_ok-open-in-New.ensures.opens)

pub returns-in-On-clause-goes : goal.returns-in-On-clause-goes
returns-in-On-clause-goes c =
    let within = c.requires.within in
    let size = c.requires.way.kept.positions in
    let lt : c.args.target < length c.args.self.now.positions.items = omega (arith, within, size) in
    let at = slice_get_read _ _ _ _ refl lt c.index.ensures in
    t.on_path _ _ _ _ c.in-On.position c.requires.way c.requires.short (rw c.in-On.is at at) c.meet.ensures.meets

pub returns-in-Done-clause-goes : goal.returns-in-Done-clause-goes
returns-in-Done-clause-goes c =
    let within = c.requires.within in
    let size = c.requires.way.kept.positions in
    let lt : c.args.target < length c.args.self.now.positions.items = omega (arith, within, size) in
    let at = slice_get_read _ _ _ _ refl lt c.index.ensures in
    t.on_done _ _ _ (way_of c.args.self.now) c.requires.way c.requires.short (rw c.in-Done.is at at)
