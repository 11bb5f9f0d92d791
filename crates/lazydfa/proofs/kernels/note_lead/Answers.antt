use Rattle.lazydfa.specs.Kernels.{AreLeadsNoted}
use Rattle.lazydfa.proofs.KernelsLemmas.{noted_push, ok_all}
use Rattle.lazydfa.proofs.kernels.note_lead.Goals as goal

pub returns : goal.returns
returns c =
    ok_all (λ done. AreLeadsNoted c.args.leads.now.items.items c.push.new.self.items c.args.kernel.items c.args.to)
    c.chain_last.result (λ done. noted_push c.args.leads.now.items.items c.push.new.self.items _
    c.in_ok-push.ensures.items)
