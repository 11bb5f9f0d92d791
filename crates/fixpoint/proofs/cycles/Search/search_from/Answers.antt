use Rattle.std.proofs.Common.{◌<◌, length, arith, refl, ◌∙◌, ap}
use Rattle.std.proofs.lemmas.Option.{slice_get_read}
use Rattle.std.proofs.lemmas.List.{length-set}
use Rattle.fixpoint.specs.Way.{way_of, tally_of, Tally}
use Rattle.fixpoint.proofs.RowsOfLemmas as b
use Rattle.fixpoint.proofs.TallyLemmas as y
use Rattle.fixpoint.proofs.IterationsLemmas as t
use Rattle.fixpoint.proofs.cycles.Search.search_from.Goals as goal

pub follow-requires-clause-way : goal.follow-requires-clause-way
follow-requires-clause-way c =
    let within = c.requires.n in
    let size = c.requires.through.way.kept.positions in
    let lt : c.args.n < length c.args.self.now.positions.items = omega (arith, within, size) in
    let at = slice_get_read _ _ _ _ refl lt c.index.ensures in
    let rows = b.length-slices c.args.steps.now in
    let below : c.args.n < length c.args.steps.now = omega (arith, within, rows) in
    let row = b.slice_now _ _ below in
    t.opened_first _ (way_of c.args.self.now) _ c.args.n c.requires.through (rw c.in-New.is at at)
    (rw row c.in_ok-open.ensures.opens)

pub returns-in_ok-follow-clause-through : goal.returns-in_ok-follow-clause-through
returns-in_ok-follow-clause-through c =
    let within = c.requires.n in
    let size = c.requires.through.way.kept.positions in
    let lt : c.args.n < length c.args.self.now.positions.items = omega (arith, within, size) in
    let at = slice_get_read _ _ _ _ refl lt c.index.ensures in
    let rows = b.length-slices c.args.steps.now in
    let below : c.args.n < length c.args.steps.now = omega (arith, within, rows) in
    let row = b.slice_now _ _ below in
    t.through_more _ (way_of c.args.self.now) _ _ c.args.n within c.requires.through (rw c.in-New.is at at)
    (rw row c.in_ok-open.ensures.opens) c.in_ok-follow.ensures.comes

pub returns-in_default-clause-through : goal.returns-in_default-clause-through
returns-in_default-clause-through c =
    let within = c.requires.n in
    let size = c.requires.through.way.kept.positions in
    let lt : c.args.n < length c.args.self.now.positions.items = omega (arith, within, size) in
    t.through_done _ (way_of c.args.self.now) c.args.n _ within c.requires.through
    (slice_get_read _ _ _ _ refl lt c.index.ensures) c.in_default.not-New

pub follow-requires-clause-ranked : goal.follow-requires-clause-ranked
follow-requires-clause-ranked c =
    let within = c.requires.n in
    let size = c.requires.through.way.kept.positions in
    let lt : c.args.n < length c.args.self.now.positions.items = omega (arith, within, size) in
    let at = slice_get_read _ _ _ _ refl lt c.index.ensures in
    let opens = c.in_ok-open.ensures.opens in
    let e = c.in_ok-open.ensures.tally in
    y.ranked_kept _ (way_of c.args.self.now) (way_of c.open.new.self) (tally_of c.args.self.now)
    (tally_of c.open.new.self) (ap length opens.positions ∙ length-set _ _ _) (ap (λ (t : Tally). t.ranks) e)
    (ap (λ (t : Tally). t.parts) e)
    (y.open_keeps (way_of c.args.self.now) (way_of c.open.new.self) c.args.n _
    (rw c.in-New.is at at) opens) c.requires.ranked
