-- Tasks in numbers of 32 bits.
use Rattle.memo.specs.declared.task.MatchTask.{MatchTask}
use Rattle.memo.specs.declared.task.MatchTask.TheVariants.{Eval, Tail}
use Rattle.memo.specs.declared.task.PackedTask.{PackedTask}
use Rattle.memo.specs.declared.task.PackedTask.TheVariants as packed

-- the task that is packed
abbrev pub task_of : PackedTask → MatchTask
task_of (packed.Eval n p) = Eval n p
task_of (packed.Tail n i p) = Tail n i p
