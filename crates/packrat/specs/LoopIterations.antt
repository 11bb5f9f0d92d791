-- What the loop does next.
use Rattle.memo.specs.declared.key_log.Given.{Given}
use Rattle.memo.specs.declared.task.MatchTask.{MatchTask}
use Rattle.memo.specs.declared.task.MatchTask.TheVariants.{Eval}
use Rattle.packrat.specs.declared.machine.Next.{Next}
use Rattle.packrat.specs.declared.machine.Next.TheVariants as next

-- It evaluates a task, or returns a task's result to its frame.
pub data Iteration : Type 0 where
  Ask : MatchTask → Iteration
  Answer : Given → Iteration

-- the loop evaluates nodes at positions alone
abbrev pub iteration_of : Next → Iteration
iteration_of (next.Ask n p) = Ask (Eval n p)
iteration_of (next.Answer given) = Answer given
