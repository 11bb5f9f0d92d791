-- The name was there, or is added.
use Rattle.std.proofs.Common.{refl, sym, ◌∙◌}
use Rattle.fixpoint.proofs.IsAddedLemmas.{added_by, kept_by}
use Rattle.fixpoint.proofs.used_names.add_name.Goals as goal

pub returns-in-Some : goal.returns-in-Some
returns-in-Some c = kept_by c.args.names.now c.args.names.now c.args.name.now c.in-Some.id
    (sym c.in_ok-id.ensures.found ∙ c.in-Some.is) refl

pub returns-in-Added : goal.returns-in-Added
returns-in-Added c = added_by c.args.names.now c.define.new.self _ c.in-Added.id
    (rw c.in-Added.is at c.in_ok-id-2.ensures.defines)

pub returns-in-Duplicate : goal.returns-in-Duplicate
returns-in-Duplicate c =
    let d = rw c.in-Duplicate.is at c.in_ok-id-2.ensures.defines in
    kept_by c.args.names.now c.define.new.self c.args.name.now c.in-Duplicate.id d.0 d.1
