use Rattle.std.proofs.Common.{◌∙◌, sym, refl, map, ap}
use Rattle.abnfread.specs.AbnfViews.{element_of}
use Rattle.refusedlines.specs.ShownParts.{awaited_part}
use Rattle.refusedlines.specs.SoughtParts.{is_sought, operand_of}
use Rattle.refusedlines.proofs.SoughtPartsLemmas.{read_added, read_passed}
use Rattle.refusedlines.proofs.parts.SoughtParts.add_reads.Goals as goal
use Rattle.refusedlines.proofs.parts.SoughtParts.add_reads.Goals.{then-has+in_ok-push, else-has}

pub loop-read-preserved : goal.loop-read-preserved
loop-read-preserved c =
    let self = c.args.self.now in
    elim c.if-has.branch [
      | then-has+in_ok-push w ↦
          ap (λ v. map awaited_part v.items) w.parts-is
          ∙ read_added (operand_of self.flat.now) (is_sought self) c.args.rule c.args.node
          (element_of c.args.element.now) c.loop-read.read (map awaited_part c.args.parts.now.items)
          c.loop-read.parts.items w.push.new.self.items _ c.loop-read.invariant w.in_ok-push.ensures.items refl
          (sym c.has.ensures ∙ w.if-has.true)
      | else-has w ↦
          ap (λ v. map awaited_part v.items) w.parts-is
          ∙ read_passed (operand_of self.flat.now) (is_sought self) c.args.rule c.args.node
          (element_of c.args.element.now) c.loop-read.read (map awaited_part c.args.parts.now.items)
          (map awaited_part c.loop-read.parts.items) c.loop-read.invariant (sym c.has.ensures ∙ w.if-has.false)
    ]
