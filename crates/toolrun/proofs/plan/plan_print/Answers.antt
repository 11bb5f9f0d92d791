-- The text is rejected, or its grammar is printed, or noted.
use Rattle.std.proofs.Common.{◌≡◌, [], ap, map, arith}
use Rattle.std.proofs.lemmas.Bool.Decides.{nat_tests}
use Rattle.std.proofs.lemmas.List.{nil_from_length}
use Rattle.ruletable.specs.Notes.{said_of}
use Rattle.toolrun.proofs.IsPlanLemmas.{plan_again, plan_printed}
use Rattle.toolrun.proofs.NotesTextLemmas.{some_said}
use Rattle.toolrun.proofs.plan.plan_print.Goals as goal

pub returns-then-is_empty : goal.returns-then-is_empty
returns-then-is_empty g c =
    let none : c.in-Ok.field-0.again.items ≡ [] = nil_from_length _
    (grind (arith, nat_tests, c.in-Ok.field-0.again.ok, c.if-is_empty.ensures)) in
    plan_printed c.follows.ensures c.args.text.now c.args.settings.now c.in-Ok.field-0.grammar
    (map said_of c.in-Ok.field-0.again.items) c.requires (ap (map said_of) none) c.in-Ok.ensures.printable

pub returns-else-is_empty : goal.returns-else-is_empty
returns-else-is_empty g c =
    plan_again c.follows.ensures c.args.text.now c.args.settings.now c.in-Ok.field-0.grammar
    (map said_of c.in-Ok.field-0.again.items) _ _ c.requires
    (some_said c.in-Ok.field-0.again.items (grind (arith, nat_tests, c.in-Ok.field-0.again.ok, c.if-is_empty.ensures)))
    c.in-Ok.ensures.printable (c.plan_again.ensures c.args.text.now c.in-Ok.ensures.positions c.in-Ok.ensures.read)
