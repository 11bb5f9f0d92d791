-- Each id of the list is marked, and no other.
use Rattle.std.proofs.Common.{◌≡◌, ◌==◌, ap, arith, take, ◌∙◌}
use Rattle.std.specs.List.{list_any}
use Rattle.std.proofs.lemmas.List.{take_all}
use Rattle.fixpoint.proofs.AreMarksLemmas.{ids_marked}
use Rattle.fixpoint.proofs.id_marks.marks_at.Goals as goal

pub returns : goal.returns
returns c =
    let all : take c.loop-id.id-index c.args.ids.now ≡ c.args.ids.now = take_all c.loop-id.id-index c.args.ids.now
    (let past = c.loop-id-test.false in omega (arith, past)) in
    ids_marked c.args.ids.now c.args.count c.loop-id.marks.items c.loop-id.invariant.count
    (λ id lt. c.loop-id.invariant.marks id lt ∙ ap (list_any (λ other. other == id)) all)
