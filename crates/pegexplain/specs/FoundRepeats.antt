-- A repetition that the code found. It serves private helpers alone.
use Rattle.pegread.specs.PegViews.{pattern_of}
use Rattle.pegexplain.specs.PegLoops.{RepeatAt}
use Rattle.pegexplain.specs.declared.loops.Repeat.{Repeat}

-- what the code's find stands for
abbrev pub repeat_found : Repeat → RepeatAt
repeat_found r = record { position = r.position; repeat = pattern_of r.e.now }
