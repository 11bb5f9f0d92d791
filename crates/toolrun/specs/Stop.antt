-- The message and the status of each way in which a run stops.
use Rattle.std.specs.Prelude.{ℕ, List, [], ◌++◌, codes, decimal}
use Rattle.ruletable.specs.Faults.{fault_text}
use Rattle.ruletable.specs.declared.fault.ReadFault.{ReadFault}
use Rattle.ruletable.specs.declared.fault.ReadFault.TheVariants as fault
use Rattle.toolrun.specs.declared.status.Status.{Status}
use Rattle.toolrun.specs.declared.status.Status.TheVariants as status
use Rattle.toolrun.specs.declared.stop.Stop.{Stop}
use Rattle.toolrun.specs.declared.stop.Stop.TheVariants.{Quiet, NoMatch, LongUnit, LongLine, Broken, NoMemory, Refused}
use Rattle.toolrun.specs.declared.stop.Stop.TheVariants.{CostlyUnit, CostlyLine, Unreadable}

abbrev pub status_of : Stop → Status
status_of (Quiet status) = status
status_of (NoMatch s) = status.NoMatch
status_of (LongUnit s limit) = status.Overlong
status_of (CostlyUnit s budget) = status.Overlong
status_of (LongLine n limit) = status.Overlong
status_of (CostlyLine n budget) = status.Overlong
status_of Broken = status.Fault
status_of NoMemory = status.NoMemory
status_of (Refused why) = status.Refused
status_of Unreadable = status.Fault

-- how a run stops whose grammar was not read
abbrev pub unread : ReadFault → Stop
unread (fault.Syntax line) = Refused (fault.Syntax line)
unread (fault.Depth line) = Refused (fault.Depth line)
unread (fault.CodePredicate line) = Refused (fault.CodePredicate line)
unread fault.TooLong = Refused fault.TooLong
unread fault.Memory = NoMemory
unread (fault.NumberTooLarge line) = Refused (fault.NumberTooLarge line)

-- the line on the error output; none where all is said
abbrev pub message_of : Stop → List ℕ
message_of (Quiet status) = []
message_of (NoMatch s) = codes "no match at byte " ++ decimal s ++ codes "\n"
message_of (LongUnit s limit) = codes "unit at byte " ++ decimal s ++ codes " longer than " ++ decimal limit
    ++ codes " bytes\n"
message_of (CostlyUnit s budget) = codes "unit at byte " ++ decimal s ++ codes " prints more than " ++ decimal budget
    ++ codes " bytes\n"
message_of (LongLine n limit) = codes "line " ++ decimal n ++ codes " longer than " ++ decimal limit ++ codes " bytes\n"
message_of (CostlyLine n budget) = codes "line " ++ decimal n ++ codes " needs more than " ++ decimal budget
    ++ codes " items\n"
message_of Broken = codes "read error\n"
message_of NoMemory = codes "out of memory\n"
message_of (Refused why) = fault_text why
message_of Unreadable = codes "cannot read the grammar\n"

-- what is reported of a writer that failed
abbrev pub write_error : List ℕ
write_error = codes "write error\n"

-- the line in place of an explanation in which an allocation failed
abbrev pub not_explained : List ℕ
not_explained = codes "  not explained: out of memory\n"
