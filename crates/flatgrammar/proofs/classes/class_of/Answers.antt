use Rattle.std.proofs.Common.{sym, subst, ap, ◌∙◌, arith, Some}
use Rattle.std.proofs.lemmas.Option.{slice_get-get_or}
use Rattle.flatgrammar.specs.ClassBounds.{IsClassOf}
use Rattle.flatgrammar.proofs.classes.class_of.Goals as goal

pub returns-in-Some : goal.returns-in-Some
returns-in-Some c = λ flat classes parted.
    subst (λ v. IsClassOf flat c.args.samples.now c.args.value v) (sym c.from.ensures)
    (classes c.args.value c.in-Some.class.now
    (slice_get-get_or c.args.low.now c.args.value c.in-Some.class.now
    (let t = c.in-Some.ensures.lookup.0 in grind (arith, t))
    ∙ ap (λ v. Some v) (sym c.in-Some.ensures.lookup.1)))

pub returns-in-None : goal.returns-in-None
returns-in-None c = λ flat classes parted. c.class_above.ensures.is flat parted
