use Rattle.std.proofs.Common.{◌≡◌, ℕ, ◌-◌, ◌≤◌, List, ◌++◌, length}
use Rattle.diagnostics.specs.LaterFaults.{AreLaterFaults}
use Rattle.abnfexplain.specs.AbnfAllFaults.{AreOthers, IsFaultFrom}
use Rattle.abnfexplain.specs.AbnfRuleLines.{IsNext}
use Rattle.abnfexplain.proofs.all_faults.push_others.Given as goal

abbrev pub invariant-loop-fault : goal.invariant-loop-fault
invariant-loop-fault l = record {
  said : List ℕ;
  out_is : l.out.items ≡ l.fn.out.items ++ said;
  within : l.start ≤ length l.text;
  goes : (others : List ℕ)
      → AreLaterFaults (IsFaultFrom l.text) (IsNext l.text) (16 - l._fault) l.start l.ahead others
      → AreOthers l.text (said ++ others);
}
