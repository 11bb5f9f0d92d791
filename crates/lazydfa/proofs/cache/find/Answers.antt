use Rattle.std.proofs.Common.{◌-◌, refl, ap, sym, ◌∙◌, arith}
use Rattle.std.specs.Prelude.{Some}
use Rattle.std.proofs.lemmas.Option.{slice_get-get_or}
use Rattle.lazydfa.proofs.cache.find.Goals as goal

pub returns-then-is_same : goal.returns-then-is_same
returns-then-is_same c =
    let same = c.if-is_same.ensures refl in
    record {
      state = c.index-states-entry.result;
      is = slice_get-get_or c.args.states.now (c.loop.entry - 1) c.index-states-entry.result
          (let a = c.if-entry-eq0.false in let b = c.if-entry-states.false in omega (arith, a, b))
          ∙ ap (λ v. Some v) (sym c.index-states-entry.is);
      tops_are = same.0;
      ended_is = same.1;
    }
