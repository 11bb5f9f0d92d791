use Rattle.std.proofs.Common.{◌≡◌, ◌+◌, subst, sym, ◌∙◌, ap, arith, Some}
use Rattle.std.specs.Prelude.{slice_get}
use Rattle.std.proofs.lemmas.Option.{slice_get-get_or, slice_get_within}
use Rattle.lazydfa.proofs.AreCachedLemmas.{cell_there}
use Rattle.lazydfa.proofs.fill.look.Goals as goal

pub returns-in-Some-get : goal.returns-in-Some-get
returns-in-Some-get c tables samples cached s d position sample =
    let sum : c.in-Some.at ≡ c.args.row + c.args.class = let e = c.in-Some.ensures in omega (arith, e) in
    cell_there tables samples c.args.cache.now.conts.items.items c.args.cache.now.states.items
    c.args.cache.now.cells.items cached s c.args.class c.in-Some.at c.in-Some-get.cell.now
    (let w = slice_get_within samples c.args.class d sample in omega (arith, w))
    (sum ∙ ap (λ v. v + c.args.class) position)
    (subst (λ v. slice_get v c.in-Some.at ≡ Some c.in-Some-get.cell.now) c.deref.ensures.value
    (slice_get-get_or c.deref.result.now c.in-Some.at c.in-Some-get.cell.now
    (let t = c.in-Some-get.ensures.lookup.0 in grind (arith, t))
    ∙ ap (λ v. Some v) (sym c.in-Some-get.ensures.lookup.1))) d sample
