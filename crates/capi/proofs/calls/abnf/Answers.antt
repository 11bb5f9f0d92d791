-- The outputs of the run are laid into the buffers.
use Rattle.capi.specs.BufferRun.{ran}
use Rattle.capi.proofs.calls.abnf.Goals as goal

pub returns : goal.returns
returns c =
    let run = c.abnf_into_buffers-ran.ensures in
    rw (c.c_result.ensures.status, c.c_result.ensures.out_len, c.c_result.ensures.err_len)
    (ran c.in-Some.settings run.0 run.1 c.in-Some.ensures run.2 run.3 run.4)
