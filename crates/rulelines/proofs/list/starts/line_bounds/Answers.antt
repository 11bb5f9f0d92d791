use Rattle.std.proofs.Common.{subst, ◌∙◌, ap, ◌++◌, ◌≡◌, ◌+◌, [], ◌∷◌}
use Rattle.flatgrammar.specs.NodeSteps.{flat_of}
use Rattle.flatgrammar.specs.ClassBounds.{AreNodesSplit}
use Rattle.rulelines.proofs.StartsLemmas.{bounds_made}
use Rattle.rulelines.proofs.list.starts.line_bounds.Goals as goal

pub returns : goal.returns
returns c =
    let samples = c.in_ok-classes.classes.samples.items in
    bounds_made c.args.flat.now c.args.terminator samples c.extend_from_slice.new.self.items
    (subst (λ v. AreNodesSplit samples v.nodes) (ap (λ v. flat_of v) c.deref.ensures ∙ c.in_ok-tables.ensures.view)
    c.in_ok-classes.ensures.parted.split)
    (subst (λ v. c.extend_from_slice.new.self.items ≡ samples ++ (0 ∷ 32 ∷ 33 ∷ 127 ∷ 57344 ∷ v ∷ (v + 1) ∷ []))
    c.from-end.ensures c.in_ok-extend_from_slice.ensures.items)
