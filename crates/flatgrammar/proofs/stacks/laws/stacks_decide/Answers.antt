use Rattle.flatgrammar.proofs.StacksLemmas.{accepted_holds, holds_accepted, reached_item, item_reached}
use Rattle.flatgrammar.proofs.stacks.laws.stacks_decide.Goals as goal

pub returns : goal.returns
returns c = λ flat last body x reports uncounted whole j. (
  (
    λ a. accepted_holds flat uncounted x last reports body whole a,
    λ h. holds_accepted flat uncounted x last reports body whole h,
  ),
  (
    λ r. reached_item flat uncounted x last reports r.0 r.1,
    λ h. item_reached flat uncounted x last reports h,
  ),
)
