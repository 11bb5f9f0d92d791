-- The text of a unit that two bytes decide, of which the second was not compared.
use Rattle.std.proofs.Common.{Some, ap, refl}
use Rattle.pegrun.proofs.ByteUnitLemmas.{asked_bytes}
use Rattle.pegrun.specs.declared.byte_units.ByteUnit.TheVariants.{Prints}
use Rattle.pegrun.proofs.attempt.CountedMatcher.ask.Goals as goal

pub returns-in-Ok-Printed-eq1-clause-known : goal.returns-in-Ok-Printed-eq1-clause-known
returns-in-Ok-Printed-eq1-clause-known g c = λ b first.
    asked_bytes c.args.peg.now c.args.style c.args.window.now c.print_unit.new.out.text.items b
    (Prints c.print_unit.new.out.text) (Some c.new-draft.result.text.items) (Some c.print_unit.new.out.text.items)
    c.requires first (ap Some c.new-draft.ensures.text) refl
    (rw (c.in-Ok-Printed-eq1.field-0-is, c.in-Ok-Printed-eq1.field-0-0-test) at c.in-Ok-Printed-eq1.ensures.answer)
    refl
