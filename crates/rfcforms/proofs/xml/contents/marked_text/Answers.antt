use Rattle.std.proofs.Common.{◌≡◌, ◌++◌, ◌∙◌, ◌<◌, ℕ, List, [], append-nil, append_assoc, ap, arith}
use Rattle.std.proofs.Common.{length, subst, sym}
use Rattle.std.proofs.lemmas.Bool.Decides.{nat_tests}
use Rattle.rfcforms.specs.XmlPieces.{MarksPieces, piece_marked}
use Rattle.rfcforms.specs.declared.xml.region.Region.TheVariants.{Outside}
use Rattle.rfcforms.proofs.XmlPieceLemmas.{nothing-left, piece-less, piece-more}
use Rattle.rfcforms.proofs.xml.contents.marked_text.Goals as goal

pub loop-rest-preserved : goal.loop-rest-preserved
loop-rest-preserved c = λ more h.
    let some : 0 < length c.loop-rest.rest.now = grind (arith, nat_tests) in
    let marks = piece_marked c.loop-rest.region c.items_before-piece.result.now in
    let all = c.loop-rest.invariant (marks ++ more) (piece-more c.loop-rest.region c.region_after-region.result
    c.loop-rest.rest.now c.piece_size-size.result c.items_before-piece.result.now c.items_after-rest.result.now more
    some c.piece_size-size.ensures c.items_before-piece.ensures c.items_after-rest.ensures
    c.region_after-region.ensures h) in
    subst (λ (xs : List ℕ). MarksPieces Outside c.args.text.now xs)
    (sym (ap (λ (xs : List ℕ). xs ++ more) c.in_ok-push_piece.ensures
    ∙ append_assoc c.loop-rest.out.items marks more)) all

pub loop-rest-smaller : goal.loop-rest-smaller
loop-rest-smaller c =
    let some : 0 < length c.loop-rest.rest.now = grind (arith, nat_tests) in
    piece-less c.loop-rest.region c.loop-rest.rest.now c.piece_size-size.result c.items_after-rest.result.now some
    c.piece_size-size.ensures c.items_after-rest.ensures

pub returns : goal.returns
returns c =
    let none : length c.loop-rest.rest.now ≡ 0 = grind (arith, nat_tests) in
    subst (λ (xs : List ℕ). MarksPieces Outside c.args.text.now xs) (append-nil c.loop-rest.out.items)
    (c.loop-rest.invariant [] (nothing-left c.loop-rest.region c.loop-rest.rest.now none))
