use Rattle.std.proofs.Common.{subst, ◌∙◌, ap, ◌++◌, ◌≡◌}
use Rattle.flatgrammar.specs.NodeSteps.{flat_of}
use Rattle.flatgrammar.specs.ClassBounds.{AreNodesSplit}
use Rattle.rulelines.proofs.SamplesLemmas.{bounds_joined}
use Rattle.rulelines.proofs.samples.common_bounds.Goals as goal

pub returns : goal.returns
returns c =
    let old_samples = c.in_ok-old_classes.old_classes.samples.items in
    let new_samples = c.in_ok-new_classes.new_classes.samples.items in
    bounds_joined c.args.old.now c.args.new.now old_samples new_samples c.extend_from_slice.new.self.items
    c.extend_from_slice-2.new.self.items
    (subst (λ v. c.extend_from_slice.new.self.items ≡ old_samples ++ v) c.deref-3.ensures.value
    c.in_ok-extend_from_slice.ensures.items) c.in_ok-extend_from_slice-2.ensures.items
    (subst (λ v. AreNodesSplit old_samples v.nodes)
    (ap (λ v. flat_of v) c.deref.ensures ∙ c.in_ok-old_tables.ensures.view) c.in_ok-old_classes.ensures.parted.split)
    (subst (λ v. AreNodesSplit new_samples v.nodes)
    (ap (λ v. flat_of v) c.deref-2.ensures ∙ c.in_ok-new_tables.ensures.view) c.in_ok-new_classes.ensures.parted.split)
