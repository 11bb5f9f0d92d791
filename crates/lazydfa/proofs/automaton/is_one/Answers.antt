use Rattle.std.proofs.Common.{subst, sym, ap, ◌∙◌, arith, Some}
use Rattle.std.proofs.lemmas.Bool.{eqb-true}
use Rattle.std.proofs.lemmas.Option.{slice_get-get_or}
use Rattle.std.specs.Prelude.{◌≡◌, slice_get}
use Rattle.flatgrammar.specs.FlatViews.{node_of}
use Rattle.lazydfa.proofs.IsRunVerdictLemmas.{whole_is_one}
use Rattle.lazydfa.proofs.automaton.is_one.Goals as goal

pub returns-in-Some-Concat : goal.returns-in-Some-Concat
returns-in-Some-Concat c = λ one.
    let look = c.in-Some-Concat.ensures.lookup in
    let inside = look.0 in
    let node = c.in-Some-Concat.field-0.now in
    whole_is_one c.args.tables.now node c.in-Some-Concat.members.items
    (subst (λ v. slice_get v c.args.tables.now.start ≡ Some node) c.deref.ensures.value
    (slice_get-get_or c.deref.result.now c.args.tables.now.start node (grind (arith, inside))
    ∙ ap (λ v. Some v) (sym look.1)))
    (ap (λ v. node_of v) c.in-Some-Concat.field-0-is)
    (let size = eqb-true c.len.result 1 one in let count = c.len.ensures in omega (arith, size, count))
