use Rattle.rfcforms.proofs.ListLemmas.{five-appended}
use Rattle.rfcforms.proofs.lists.written.push_received.Goals as goal

pub returns : goal.returns
returns c = five-appended c.args.out.now.items _ _ _ _ _ _ _ _ _ _ c.in_ok-extend_from_slice.ensures.items
    c.in_ok-extend_from_slice-2.ensures.items c.in_ok-extend_from_slice-3.ensures.items
    c.in_ok-extend_from_slice-4.ensures.items c.in_ok-extend_from_slice-5.ensures.items
