use Rattle.std.proofs.Common.{◌∙◌, ap, length, sym, subst}
use Rattle.std.proofs.lemmas.List.{length-map}
use Rattle.fixpoint.specs.Demands.{demand_of, demands_of, AreNeedsWithin}
use Rattle.fixpoint.specs.Least.{AreMarksOfThose}
use Rattle.pegnodes.proofs.KeyNeedsLemmas as o
use Rattle.pegnodes.specs.Nodes.{shapes_of}
use Rattle.pegnodes.proofs.keys.singles.Goals as goal

pub least-requires : goal.least-requires
least-requires c =
    subst AreNeedsWithin (sym (ap demands_of c.deref.ensures.value))
    (o.needs_within (demands_of c.in_ok-needs.needs.items) (length c.args.nodes.now)
    (length-map c.in_ok-needs.needs.items demand_of ∙ c.in_ok-needs.ensures.count) c.in_ok-needs.ensures.within)

pub returns : goal.returns
returns c = λ start bodies known m marked.
    let are = subst (λ v. AreMarksOfThose v c.in_ok-least.field-0.items) (ap demands_of c.deref.ensures.value)
    c.in_ok-least.ensures.marks in
    o.comes_single start (shapes_of c.args.nodes.now) bodies (demands_of c.in_ok-needs.needs.items)
    (c.in_ok-needs.ensures.justified start bodies known) ((are m).0 marked)
