use Rattle.std.proofs.Common.{◌∙◌, ap}
use Rattle.std.specs.Prelude.{slice_range}
use Rattle.pegnodes.specs.Slots.{run_text}
use Rattle.pegnodes.proofs.PutInLemmas.{IsMore-run, IsMore-slot}
use Rattle.pegnodes.proofs.template.add_slot.Goals as goal

pub returns-in_ok-push : goal.returns-in_ok-push
returns-in_ok-push c = rw c.in_ok-push.ensures.items (IsMore-slot _ _ _ c.requires.order _ c.in-Some.put
    (λ capture. c.put_for.ensures capture ∙ ap
    (λ v. run_text capture (slice_range c.args.text.now c.args.from c.args.to) v) c.in-Some.is))

pub returns-in_default : goal.returns-in_default
returns-in_default c = IsMore-run _ _ _ c.requires.order _
    (λ capture. c.put_for.ensures capture ∙ ap
    (λ v. run_text capture (slice_range c.args.text.now c.args.from c.args.to) v) c.in_default.is)
