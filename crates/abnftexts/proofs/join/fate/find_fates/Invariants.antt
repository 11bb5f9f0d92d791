use Rattle.std.proofs.Common.{◌≡◌, ◌++◌, map, take, drop}
use Rattle.std.specs.List.{enumerate_from}
use Rattle.abnftexts.specs.GivenRules.{text_rule, fate_of, fates_of}
use Rattle.abnftexts.specs.ListedRules.{ListKeys}
use Rattle.abnftexts.proofs.join.fate.find_fates.Given as goal

-- the fates of the rules to come complete those so far, whose keys are listed
abbrev pub invariant-loop-number : goal.invariant-loop-number
invariant-loop-number l =
    let rows = map text_rule l.rules in
    record {
      fates : l.fates.items
          ++ map (λ p. fate_of rows (take p.0 rows) p.1) (enumerate_from l.number (drop l.number rows))
          ≡ fates_of rows;
      listed : ListKeys (take l.number l.rules) l.keys;
    }
