use Rattle.std.proofs.Common.{◌≡◌, ◌+◌, ◌-◌, ◌<◌, Some, length, map, slice_get, ap, sym, ◌∙◌, arith}
use Rattle.earleyitems.specs.SetViews.{view, views}
use Rattle.flatgrammar.proofs.CallOfLemmas.{get_map}
use Rattle.earleyitems.proofs.IsBuiltLemmas.{get_is}
use Rattle.earleyitems.proofs.ExpandLemmas.{get_views, length_views}
use Rattle.earleyitems.proofs.ViewsLemmas.{after_last}
use Rattle.earleyitems.specs.ItemOwners.{prediction_rows}
use Rattle.earleyitems.proofs.ItemOwnersLemmas.{none_owned_items, stored_row}
use Rattle.earleyitems.proofs.chart.scan_last.Goals as goal

pub returns-in_ok-scan-clause-added : goal.returns-in_ok-scan-clause-added
returns-in_ok-scan-clause-added g c =
    let sets = c.args.sets.now in
    let last = c.len-last.result - 1 in
    let some = c.if-len-gt0.true in
    let one = c.len.ensures in
    let two = c.len-last.ensures in
    let room = c.requires.length in
    let within : last < length c.args.line.now = omega (arith, some, one, two, room) in
    let zero : 0 + last ≡ last = omega arith in
    let there : slice_get sets last ≡ Some c.in-Some.kept_set = sym {b = slice_get sets last} c.in-Some.ensures in
    let size : length (views c.args.flat.now 0 sets) ≡ last + 1 =
    (let n = length_views c.args.flat.now 0 sets in omega (arith, some, one, two, n)) in
    after_last c.args.flat.now (map g.L.Letter.number c.args.line.now) (views c.args.flat.now 0 sets)
    c.args.items.now.items c.scan.new.set.items last (g.L.Letter.number c.index-line-last.result)
    (view c.args.flat.now last c.in-Some.kept_set) size
    (get_views c.args.flat.now 0 sets last c.in-Some.kept_set there
    ∙ ap (λ v. Some (view c.args.flat.now v c.in-Some.kept_set)) zero)
    (get_map g.L.Letter.number c.args.line.now last
    (get_is c.args.line.now last c.index-line-last.result within c.index-line-last.is))
    c.in_ok-scan.ensures.added

pub returns-in_ok-scan-clause-owners : goal.returns-in_ok-scan-clause-owners
returns-in_ok-scan-clause-owners g c =
    let sets = c.args.sets.now in
    let last = c.len-last.result - 1 in
    let there : slice_get sets last ≡ Some c.in-Some.kept_set = sym {b = slice_get sets last} c.in-Some.ensures in
    let some = c.if-len-gt0.true in
    let one = c.len.ensures in
    let two = c.len-last.ensures in
    c.in_ok-scan.ensures.owners (prediction_rows sets) (stored_row sets last c.in-Some.kept_set there)
    (c.requires.owned last (omega (arith, some, one, two)))
    (none_owned_items c.args.flat.now (prediction_rows sets) c.args.items.now c.requires.empty)

pub returns-else-len-gt0-clause-owners : goal.returns-else-len-gt0-clause-owners
returns-else-len-gt0-clause-owners g c =
    none_owned_items c.args.flat.now (prediction_rows c.args.sets.now) c.args.items.now c.requires.empty
