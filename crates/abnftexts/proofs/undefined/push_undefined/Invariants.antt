use Rattle.std.proofs.Common.{◌≡◌, ◌++◌, map, take, drop}
use Rattle.abnftexts.specs.GivenRules.{text_rule}
use Rattle.abnftexts.specs.CodeUses.{ListKnown, name_used}
use Rattle.abnftexts.specs.UsedNames.{undefined_reported}
use Rattle.abnftexts.proofs.UndefinedLemmas.{reported-from}
use Rattle.abnftexts.proofs.undefined.push_undefined.Given as goal

-- the reports of the uses to come complete those so far, and the names of the rules and of those uses are listed
abbrev pub invariant-loop-number : goal.invariant-loop-number
invariant-loop-number l =
    let rules = map text_rule l.rules in
    let uses = map name_used l.uses in
    record {
      reports : l.out.items ++ reported-from rules uses l.number (drop l.number uses)
          ≡ l.fn.out.items ++ undefined_reported rules uses;
      listed : ListKnown rules (map name_used (take l.number l.uses)) l.names;
    }
