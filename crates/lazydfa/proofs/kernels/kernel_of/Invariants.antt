use Rattle.lazydfa.proofs.KernelsLemmas.{KernelFirst}
use Rattle.lazydfa.proofs.kernels.kernel_of.Given as goal

abbrev pub invariant-loop-id : goal.invariant-loop-id
invariant-loop-id l = KernelFirst l.tables l.conts.items.items l.ids l.id-index l.kernel.items
