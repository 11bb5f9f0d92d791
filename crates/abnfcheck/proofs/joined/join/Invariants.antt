use Rattle.abnfcheck.proofs.JoinLemmas.{IsJoining}
use Rattle.abnfcheck.proofs.joined.join.Given as goal

abbrev pub invariant-loop-id : goal.invariant-loop-id
invariant-loop-id l = IsJoining l.initial.rules l.initial.core l.id l.rules l.core
