-- Frames in numbers of 32 bits.
use Rattle.memo.specs.PackedTasks.{task_of}
use Rattle.matchfailure.specs.declared.tasks.frames.PackedTaskFrame.{PackedTaskFrame}
use Rattle.matchfailure.specs.declared.tasks.frames.TaskFrame.{TaskFrame}

-- the frame that is packed
abbrev pub frame_of : PackedTaskFrame → TaskFrame
frame_of packed = record {
  task = task_of packed.task;
  outside = packed.outside;
  stores = packed.stores;
  cost = packed.cost;
}
