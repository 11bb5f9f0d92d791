use Rattle.std.proofs.Common.{◌≡◌, sym, ◌∙◌, ap, arith, length, subst, refl}
use Rattle.std.specs.Prelude.{slice_get, Some}
use Rattle.std.proofs.lemmas.Option.{slice_get-get_or}
use Rattle.rulelines.specs.StateTables.{IsCan}
use Rattle.rulelines.specs.ListedSets.{listed_in}
use Rattle.rulelines.proofs.StateTableLemmas.{entry_can, entry_levels, levels_changed}
use Rattle.rulelines.proofs.list.table.extend_once.Goals as goal

pub returns : goal.returns
returns c =
    let table = c.args.table.now in
    let level = c.in-Some.level.now in
    let can = c.in-Some-entry_of.can in
    let reported = entry_can table c.requires.table c.len-state.result c.args.count can
    (let lt = c.if-state-table.false in omega (arith, lt)) c.in-Some-entry_of.ensures in
    let size : c.len-state.result ≡ length level.items =
    (let a = c.len-state.ensures in let b = level.ok.0 in omega (arith, a, b)) in
    levels_changed table _ c.requires.table refl refl refl refl refl refl
    (entry_levels table.states (listed_in table.symbols) table.levels.items c.add_entry.new.levels.items c.args.count
    can level
    (subst (λ v. slice_get v c.args.count ≡ Some level) c.deref.ensures.value
    (slice_get-get_or c.deref.result.now c.args.count level
    (let t = c.in-Some.ensures.lookup.0 in grind (arith, t)) ∙ ap (λ v. Some v) (sym c.in-Some.ensures.lookup.1)))
    c.requires.table.levels_are c.in_ok-add_entry.ensures
    (subst (λ v. IsCan table v c.args.count can) size reported))
