use Rattle.std.proofs.Common.{◌-◌, sym, ◌∙◌, ap, arith}
use Rattle.std.specs.Prelude.{Some}
use Rattle.std.proofs.lemmas.Option.{slice_get-get_or}
use Rattle.lazydfa.proofs.ContsLemmas.{cont_found}
use Rattle.lazydfa.proofs.close.cont_at.Goals as goal

pub returns-clause-is : goal.returns-clause-is
returns-clause-is c =
    let some = c.requires.some in
    let within = c.requires.within in
    (cont_found c.args.conts.now.items.items (c.args.id - 1) c.args.id c.index.result.now c.requires.older
    (omega (arith, some)) (slice_get-get_or c.args.conts.now.items.items (c.args.id - 1) c.index.result.now
    (omega (arith, some, within)) ∙ ap (λ v. Some v) (sym c.index.ensures))).1
