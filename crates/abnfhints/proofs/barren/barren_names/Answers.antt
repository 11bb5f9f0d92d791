-- One more rule.
use Rattle.std.proofs.Common.{◌<◌, arith, length}
use Rattle.std.proofs.lemmas.List.{map-append}
use Rattle.abnfcheck.specs.AbnfNotes.{no_more}
use Rattle.abnfread.specs.AbnfViews.{rules_of}
use Rattle.ruletable.specs.Letters.{has}
use Rattle.abnfhints.specs.AbnfHints.{DerivesNothing}
use Rattle.abnfhints.proofs.BarrenNamesLemmas.{next_named, next_passed, all_named}
use Rattle.abnfhints.proofs.barren.barren_names.Goals as goal
use Rattle.abnfhints.proofs.barren.barren_names.Goals.{then-is_barren+in_ok-push, else-is_barren}

pub loop-id-init : goal.loop-id-init
loop-id-init c = rw c.new-names.ensures.items no_more

pub loop-id-preserved : goal.loop-id-preserved
loop-id-preserved c =
    let few : c.loop-id.id < length c.args.hinted.now.rules.now.rules = (let lt = c.loop-id-test.true in
    let is = c.min-id-end.ensures in let l = c.len.ensures.len in omega (arith, lt, is, l)) in
    let P = DerivesNothing (has c.args.hinted.now.letters) (rules_of c.args.hinted.now.rules.now) in
    let barren = c.is_barren.ensures c.args.hinted.now.letters (rules_of c.args.hinted.now.rules.now) c.requires.sound
    c.requires.productive in
    elim c.if-is_barren.branch [
      | then-is_barren+in_ok-push w ↦ rw (w.names-is, w.in_ok-push.ensures.items, map-append)
          (next_named P c.args.hinted.now.rules.now c.loop-id.id few _ _ w.name.ensures c.loop-id.invariant
          (barren.0 w.if-is_barren.true))
      | else-is_barren w ↦ rw w.names-is
          (next_passed P c.args.hinted.now.rules.now c.loop-id.id few _ c.loop-id.invariant
          (λ p. let yes = barren.1 p in let off = w.if-is_barren.false in absurd (cc (yes, off))))
    ]

pub returns : goal.returns
returns c =
    let P = DerivesNothing (has c.args.hinted.now.letters) (rules_of c.args.hinted.now.rules.now) in
    all_named P c.args.hinted.now.rules.now c.args.hinted.now.count c.loop-id.id c.len.result _ c.len.ensures.len
    (let le = c.loop-id.auto.id-end in let past = c.loop-id-test.false in let is = c.min-id-end.ensures in
    omega (arith, le, past, is))
    c.loop-id.invariant
